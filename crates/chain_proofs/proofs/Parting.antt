-- What is known to be false, in a proof, and falsehood by a fact.
use Rattle.std.specs.Prelude.{ℕ, zero, suc, ◌≡◌, ◌+◌, ◌-◌, ◌<◌, ◌≤◌, nat_lt, Bool, true, false, if◌then◌else◌, List, [], ◌∷◌, ◌++◌, length, map, take, Some, slice_get, get_or, refl}
use Rattle.std.specs.List.{Contains, AllByRecursion, AllZip}
use Rattle.std.specs.Option.{option_map}
use Rattle.std.proofs.Common.{ap, sym, subst, ◌∙◌, arith, inl, inr, ◌⊎◌}
use Rattle.std.proofs.lemmas.Bool.Decides.{nat_tests}
use Rattle.std.proofs.lemmas.List.{length-append, take_more}
use Rattle.std.proofs.lemmas.Slice.Zip.{all_zipped_more}
use Rattle.std.proofs.lemmas.Option.{slice_get-map, slice_get_within}
use Rattle.fof_terms.specs.Sorts.{Sorted}
use Rattle.fof_terms.specs.declared.form.Form.{Form, Or}
use Rattle.fof_terms.proofs.Scoped.{member_of, sorted_of_and, sorted_of_not}
use Rattle.clause_form.specs.declared.clause.Lit.{Lit}
use Rattle.clause_learning.proofs.Members.{got_left, got_front, got_push, head_in, place_of, some_same, tail_in}
use Rattle.kernel.specs.Statements.{Statements}
use Rattle.kernel.specs.Proves.{Proves}
use Rattle.kernel.specs.code.Rules.{ProveAll}
use Rattle.kernel.specs.declared.proof.Proof.{Proof, Line, Hyp, AndI, AndE, NotE}
use Rattle.kernel.proofs.Building.{by_line, by_hyp, by_and_i, by_and_e, by_not_e}
use Rattle.chain_proofs.specs.Contexts.{IsContext}
use Rattle.chain_proofs.specs.Facts.{Holds, all_false, denied_form, not_all_false}
use Rattle.chain_proofs.specs.code.Keys.{IsPlaceOrNext}
use Rattle.chain_proofs.specs.code.Parts.{GoesOn, IsRefutedBy, false_tree}
use Rattle.chain_proofs.specs.declared.fact.Fact.{Fact}

-- that the literal is false, by its place or the next one
abbrev pub IsPart : List Lit → ℕ → ℕ → Proof → Lit → Type 0
IsPart known base count p l = (place : ℕ) × IsPlaceOrNext known l place × (p ≡ false_tree base count place)

below : (a b : ℕ) → nat_lt a b ≡ true → a < b
below a b e = grind (arith, nat_tests)

not_below : (a b : ℕ) → nat_lt a b ≡ false → b ≤ a
not_below a b e = grind (arith, nat_tests)

-- a literal that is known is shown to be false
module _ (t : Statements) (first lits : List Lit) (h : List Form) (around : IsContext first lits h) (sorted : Sorted t.vocabulary [] (all_false first)) where
  false_shows : (place : ℕ) (l : Lit) → slice_get lits place ≡ Some l → Sorted t.vocabulary [] (denied_form l) → Proves t [] h (false_tree (length first) (length lits) place) (denied_form l)
  false_shows place l at s = by (nat_lt place (length first)) refl
    where
      by : (b : Bool) → nat_lt place (length first) ≡ b → Proves t [] h (if b then AndE place (Hyp (length lits - length first)) else Hyp (length lits - 1 - place)) (denied_form l)
      by true e =
          let own = around.front place l (below place (length first) e) at in
          let member : slice_get (map denied_form first) place ≡ Some (denied_form l) = slice_get-map denied_form first place ∙ ap (option_map denied_form) own in
          by_and_e t [] h place (Hyp (length lits - length first)) (map denied_form first) (denied_form l) member (by_hyp t [] h (length lits - length first) (all_false first) sorted around.together)
      by false e = by_hyp t [] h (length lits - 1 - place) (denied_form l) s (around.alone place l (not_below place (length first) e) at)

  module _ (base count : ℕ) (base_is : length first ≡ base) (count_is : length lits ≡ count) (known : List Lit) (kept : (place : ℕ) (l : Lit) → slice_get known place ≡ Some l → slice_get lits place ≡ Some l) where
    part_shows : (p : Proof) (l : Lit) → IsPart known base count p l → ((Contains known l → ⊥) → slice_get lits (length known) ≡ Some l) → Sorted t.vocabulary [] (denied_form l) → Proves t [] h p (denied_form l)
    part_shows p l part next s =
        let at : slice_get lits part.0 ≡ Some l = elim part.1 [ inl there ↦ kept part.0 l there | inr off ↦ subst (λ n. slice_get lits n ≡ Some l) (sym off.1) (next off.0) ] in
        let tree : p ≡ false_tree (length first) (length lits) part.0 = part.2 ∙ (ap (λ n. false_tree n count part.0) (sym base_is) ∙ ap (λ n. false_tree (length first) n part.0) (sym count_is)) in
        subst (λ q. Proves t [] h q (denied_form l)) (sym tree) (false_shows part.0 l at s)

    parts_show : (ps : List Proof) (ls : List Lit) → AllZip (IsPart known base count) ps ls → ((l : Lit) → Contains ls l → (Contains known l → ⊥) → slice_get lits (length known) ≡ Some l) → AllByRecursion (Sorted t.vocabulary []) (map denied_form ls)
        → ProveAll t [] h ps (map denied_form ls)
    parts_show [] [] all next s = tt
    parts_show [] (l ∷ ls) all next s = absurd all
    parts_show (p ∷ ps) [] all next s = absurd all
    parts_show (p ∷ ps) (l ∷ ls) all next s =
        (part_shows p l all.0 (next l (head_in l ls)) s.0, parts_show ps ls all.1 (λ k there. next k (tail_in l ls k there)) s.1)

-- falsehood by the fact
pub refuted_shows : (known : List Lit) (base count : ℕ) (f : Fact) (ps : List Proof) → AllZip (IsPart known base count) ps f.lits → IsRefutedBy known base count f (NotE (Line f.number) (AndI ps))
refuted_shows known base count f ps parts t first lits h base_is count_is around sorted holds on =
    let each = sorted_of_and t.vocabulary [] 2147483647 (map denied_form f.lits) (sorted_of_not t.vocabulary [] 2147483647 (all_false f.lits) holds.sorted) in
    by_not_e t [] h (Line f.number) (AndI ps) (all_false f.lits) (by_line t [] h f.number (not_all_false f.lits) holds.sorted holds.there)
    (by_and_i t [] h ps (map denied_form f.lits) holds.sorted.scope_fits (parts_show t first lits h around sorted base count base_is count_is known on.kept ps f.lits parts on.next each))

-- a fact's literals are well-sorted
pub denied_sorted : (t : Statements) (lits : List Lit) → Sorted t.vocabulary [] (all_false lits) → (l : Lit) → Contains lits l → Sorted t.vocabulary [] (denied_form l)
denied_sorted t lits s l there =
    let spot = place_of lits l there in
    member_of (Sorted t.vocabulary []) (map denied_form lits) spot.0 (denied_form l) (sorted_of_and t.vocabulary [] 2147483647 (map denied_form lits) s) (slice_get-map denied_form lits spot.0 ∙ ap (option_map denied_form) spot.1)

-- all literals of the fact are known
pub all_known : (known : List Lit) (f : Fact) → ((x : Lit) → Contains f.lits x → Contains known x) → GoesOn known known f
all_known known f all = record { kept = λ place l at. at; next = λ l there off. absurd (off (all l there)) }

-- and all but one
pub one_behind : (known : List Lit) (y : Lit) (f : Fact) → ((x : Lit) → Contains f.lits x → (Contains known x → ⊥) → x ≡ y) → GoesOn known (known ++ y ∷ []) f
one_behind known y f only = record { kept = λ place l at. got_left known (y ∷ []) place l at; next = λ l there off. got_push known y ∙ ap (λ (x : Lit). Some x) (sym (only l there off)) }

-- hypotheses that deny the first literals, and one more
pub begun : (first : List Lit) → IsContext first first (all_false first ∷ [])
begun first = record {
  more = omega arith;
  front = λ place l lt at. at;
  together = let none : 0 ≡ length first - length first = omega arith in subst (λ i. slice_get (all_false first ∷ []) i ≡ Some (all_false first)) none refl;
  alone = λ place l le at. absurd (let lt = slice_get_within first place l at in omega arith);
}

pub grown : (first lits : List Lit) (h : List Form) (l : Lit) → IsContext first lits h → IsContext first (lits ++ l ∷ []) (denied_form l ∷ h)
grown first lits h l c = record {
  more = let many = long in let le = c.more in omega arith;
  front = λ place x lt at. c.front place x lt (sym (got_front lits (l ∷ []) place (let le = c.more in omega arith)) ∙ at);
  together = let many = long in let le = c.more in let one : suc (length lits - length first) ≡ length (lits ++ l ∷ []) - length first = omega arith in subst (λ i. slice_get (denied_form l ∷ h) i ≡ Some (all_false first)) one c.together;
  alone = λ place x le at. one_of place x le at (before_or_last place (slice_get_within (lits ++ l ∷ []) place x at));
} where
  long : length (lits ++ l ∷ []) ≡ length lits + 1
  long = length-append lits (l ∷ [])

  before_or_last : (place : ℕ) → place < length (lits ++ l ∷ []) → (place < length lits) ⊎ (place ≡ length lits)
  before_or_last place lt = by (nat_lt place (length lits)) refl
    where
      by : (b : Bool) → nat_lt place (length lits) ≡ b → (place < length lits) ⊎ (place ≡ length lits)
      by true e = inl (below place (length lits) e)
      by false e = let le = not_below place (length lits) e in let many = long in inr (omega arith)

  one_of : (place : ℕ) (x : Lit) → length first ≤ place → slice_get (lits ++ l ∷ []) place ≡ Some x → (place < length lits) ⊎ (place ≡ length lits) → slice_get (denied_form l ∷ h) (length (lits ++ l ∷ []) - 1 - place) ≡ Some (denied_form x)
  one_of place x le at (inl lt) =
      let many = long in
      let index : suc (length lits - 1 - place) ≡ length (lits ++ l ∷ []) - 1 - place = omega arith in
      subst (λ i. slice_get (denied_form l ∷ h) i ≡ Some (denied_form x)) index (c.alone place x le (sym (got_front lits (l ∷ []) place lt) ∙ at))
  one_of place x le at (inr e) =
      let many = long in
      let index : 0 ≡ length (lits ++ l ∷ []) - 1 - place = omega arith in
      let same : l ≡ x = some_same (sym (got_push lits l) ∙ (ap (λ i. slice_get (lits ++ l ∷ []) i) (sym e) ∙ at)) in
      subst (λ i. slice_get (denied_form l ∷ h) i ≡ Some (denied_form x)) index (ap (λ (z : Lit). Some (denied_form z)) same)

pub take_all : {X : Type 0} (xs : List X) (i : ℕ) → length xs ≤ i → take i xs ≡ xs
take_all [] zero le = refl
take_all [] (suc i) le = refl
take_all (x ∷ xs) zero le = absurd (omega arith)
take_all (x ∷ xs) (suc i) le = ap (λ (ys : List _). x ∷ ys) (take_all xs i (omega arith))

-- the part of one literal more
pub parts_more : (known : List Lit) (base count : ℕ) (lits : List Lit) (i : ℕ) (l : Lit) (parts new : List Proof) (p : Proof) (place : ℕ) → i < length lits → l ≡ get_or lits i l → AllZip (IsPart known base count) parts (take i lits) → IsPlaceOrNext known l place
    → p ≡ false_tree base count place → new ≡ parts ++ p ∷ [] → AllZip (IsPart known base count) new (take (i + 1) lits)
parts_more known base count lits i l parts new p place lt item all there tree new_is =
    let R : Proof → Lit → Type 0 = IsPart known base count in
    let longer : take i lits ++ l ∷ [] ≡ take (i + 1) lits = ap (λ (d : Lit). take i lits ++ d ∷ []) item ∙ sym (take_more lits i l lt) in
    subst (λ (ps : List Proof). AllZip R ps (take (i + 1) lits)) (sym new_is) (subst (AllZip R (parts ++ p ∷ [])) longer (all_zipped_more R parts (take i lits) p l all (place, there, tree)))

pub parts_done : (known : List Lit) (base count : ℕ) (f : Fact) (lits : List Lit) (i : ℕ) (parts : List Proof) (p line all : Proof) → lits ≡ f.lits → length lits ≤ i → AllZip (IsPart known base count) parts (take i lits) → line ≡ Line f.number → all ≡ AndI parts → p ≡ NotE line all
    → IsRefutedBy known base count f p
parts_done known base count f lits i parts p line all lits_is le zipped line_is all_is is =
    let whole : take i lits ≡ f.lits = take_all lits i le ∙ lits_is in
    let tree : p ≡ NotE (Line f.number) (AndI parts) = is ∙ (ap (λ (q : Proof). NotE q all) line_is ∙ ap (λ (q : Proof). NotE (Line f.number) q) all_is) in
    subst (IsRefutedBy known base count f) (sym tree) (refuted_shows known base count f parts (subst (AllZip (IsPart known base count) parts) whole zipped))
