-- Implications from a formula to its clauses, as code makes them.
use Rattle.std.specs.Prelude.{ℕ, suc, ◌≡◌, ◌+◌, ◌<◌, ◌≤◌, Bool, true, false, List, [], ◌∷◌, ◌++◌, length, map, take, get_or, Option, Some, None, slice_get, refl}
use Rattle.std.specs.List.{AllByRecursion as Each}
use Rattle.std.proofs.Common.{ap, sym, subst, ◌∙◌, inl, inr, arith, append_assoc, zero}
use Rattle.std.proofs.lemmas.List.{length-map, map-append, take_more}
use Rattle.fof_terms.specs.declared.form.Form.{Form, Imp, And}
use Rattle.fof_terms.specs.Sorts.{Sorted}
use Rattle.fof_terms.proofs.Scoped.{member_of, sorted_of_and}
use Rattle.clause_form.specs.declared.clause.Clause.{Clause}
use Rattle.clause_form.specs.declared.path.Path.{Path, Pick}
use Rattle.clause_form.specs.Clauses.{clauses_in}
use Rattle.clause_form.specs.ClauseView.{closed}
use Rattle.clause_form.specs.ClauseWays.{IsIn}
use Rattle.clause_form.specs.Paths.{at_member, reached}
use Rattle.clause_form.proofs.ClauseWaysFacts.{reached_is_listed}
use Rattle.clause_form.proofs.PathCases.{reached-Pick}
use Rattle.kernel.specs.Proves.{Proves}
use Rattle.kernel.specs.Statements.{Statements}
use Rattle.kernel.specs.declared.proof.Proof.{Proof, AndE}
use Rattle.kernel.proofs.Building.{by_and_e, by_imp_e, shown_sorted}
use Rattle.norm_proofs.specs.Placed.{SortedSomewhere}
use Rattle.norm_proofs.proofs.Places.{at_index}
use Rattle.input_proofs.specs.Formulas.{formula_of}
use Rattle.input_proofs.specs.Wanted.{IsWanted, AreWanted}
use Rattle.input_proofs.specs.code.Pending.{IsPending}
use Rattle.input_proofs.specs.declared.pending.Pending.{Pending}
use Rattle.input_proofs.proofs.ClauseFormulas.{formula_is}
use Rattle.input_proofs.proofs.Literals.{IsPlain, all_plain}
use Rattle.input_proofs.proofs.WantedFacts.{wanted_append}

one_of : {X : Type 0} (P : X → Type 0) (x : X) (xs : List X) → Each P xs → IsIn x xs → P x
one_of P x [] h at = absurd at
one_of P x (y ∷ xs) h (inl e) = subst P (sym e) h.0
one_of P x (y ∷ xs) h (inr at) = one_of P x xs h.1 at

-- what the proof of a path shows
abbrev Follows : Form → Path → Proof → Type 0
Follows a p part =
    (t : Statements) (v : List ℕ) (h : List Form) (c : Clause) → length v ≤ 1000000000 → Sorted t.vocabulary v a → reached p a ≡ Some c → Proves t v h part (Imp a (closed c))

-- where the formula implies the clause, or a member of it does, it is pending
whole_shows : (a : Form) (p : Path) (part : Proof) (c : Clause) → Follows a p part → reached p a ≡ Some c → (s : Statements) → Sorted s.vocabulary [] a → Proves s [] [] part (Imp a (formula_of c))
whole_shows a p part c shows e s sorted =
    let plain = one_of (λ (d : Clause). Each IsPlain d.lits) c (clauses_in a) (all_plain a) (reached_is_listed a p c e) in
    subst (λ f. Proves s [] [] part (Imp a f)) (sym (formula_is c plain)) (shows s [] [] c (omega arith) sorted e)

pub by_whole : (a : Form) (p : Path) (fact : ℕ) (part : Proof) → Follows a p part → (c : Clause) → reached p a ≡ Some c → IsPending fact a c (record { fact = fact; member = None; implication = part })
by_whole a p fact part shows c e = (refl, λ s whole sorted shown. by_imp_e s [] [] part whole a (formula_of c) (whole_shows a p part c shows e s sorted) shown)

pub by_member : (a b : Form) (as_ lents : List Form) (p rest lent : Path) (k fact : ℕ) (part : Proof) → a ≡ And as_ → lents ≡ as_ → p ≡ Pick k rest → lent ≡ rest → k < length lents → b ≡ get_or lents k b → Follows b lent part
    → (c : Clause) → reached p a ≡ Some c → IsPending fact a c (record { fact = fact; member = Some k; implication = part })
by_member a b as_ lents p rest lent k fact part ea el ep er lt is shows c e =
    let at : slice_get as_ k ≡ Some b = rw el at (at_index lents k b lt is) in
    let there : at_member (reached rest) (slice_get as_ k) ≡ Some c = sym (reached-Pick k rest as_) ∙ (rw (ep, ea) at e) in
    let own : reached rest b ≡ Some c = sym (ap (at_member (reached rest)) at) ∙ there in
    let lent_own : reached lent b ≡ Some c = ap (λ (w : Path). reached w b) er ∙ own in (
      refl,
      λ s whole sorted shown.
          let shown' : Proves s [] [] whole (And as_) = subst (Proves s [] [] whole) ea shown in
          let one = by_and_e s [] [] k whole as_ b at shown' in
          by_imp_e s [] [] part (AndE k whole) b (formula_of c) (whole_shows b lent part c shows lent_own s (shown_sorted s [] [] (AndE k whole) b one)) one,
    )

pub pending_made : (a : Form) (p : Path) (fact : ℕ) (wanted : Bool) (made : Pending) → wanted ≡ true → ((c : Clause) → reached p a ≡ Some c → IsPending fact a c made) → (c : Clause) → reached p a ≡ Some c → IsWanted (IsPending fact a) wanted c (Some made)
pending_made a p fact wanted made ew is c e = subst (λ (w : Bool). IsWanted (IsPending fact a) w c (Some made)) (sym ew) (is c e)

-- the member that a path picks
pub member_sorted : (a b : Form) (as_ lents : List Form) (k : ℕ) → a ≡ And as_ → lents ≡ as_ → k < length lents → b ≡ get_or lents k b → SortedSomewhere a → SortedSomewhere b
member_sorted a b as_ lents k ea el lt is h =
    let at : slice_get as_ k ≡ Some b = rw el at (at_index lents k b lt is) in
    let whole : Sorted h.0 h.1 (And as_) = subst (Sorted h.0 h.1) ea h.3 in
    (h.0, h.1, h.2, member_of (Sorted h.0 h.1) as_ k b (sorted_of_and h.0 h.1 2147483647 as_ whole) at)

-- the clause at a place, by the path there
pub way_at : (f : Path → Option Clause) (ps : List Path) (cs : List Clause) (i : ℕ) (p : Path) → map f ps ≡ map Some cs → i < length ps → p ≡ get_or ps i p → (c : Clause) × (slice_get cs i ≡ Some c) × (f p ≡ Some c)
way_at f [] cs i p e lt is = absurd (omega arith)
way_at f (x ∷ ps) [] i p e lt is = cc
way_at f (x ∷ ps) (c ∷ cs) zero p e lt is = let here : f x ≡ Some c = cc in (c, refl, ap f is ∙ here)
way_at f (x ∷ ps) (c ∷ cs) (suc i) p e lt is = let rest : map f ps ≡ map Some cs = cc in way_at f ps cs i p rest (omega arith) is

one_longer : {X : Type 0} (xs : List X) (i : ℕ) (x : X) → slice_get xs i ≡ Some x → take (i + 1) xs ≡ take i xs ++ x ∷ []
one_longer [] i x e = cc
one_longer (y ∷ xs) zero x e = let same : y ≡ x = cc in rw same refl
one_longer (y ∷ xs) (suc i) x e = let step : suc i + 1 ≡ suc (i + 1) = omega arith in ap (λ (n : ℕ). take n (y ∷ xs)) step ∙ ap (λ ys. y ∷ ys) (one_longer xs i x e)

-- the added ones so far
pub record SoFar (a : Form) (fact : ℕ) (wanted : List Bool) (i : ℕ) (old now_ : List (Option Pending)) : Type 0 where
  pub added : List (Option Pending)
  pub is : now_ ≡ old ++ added
  pub are : AreWanted (IsPending fact a) (take i wanted) (take i (clauses_in a)) added

pub so_far_more : (a : Form) (fact : ℕ) (wanted : List Bool) (i : ℕ) (mark : Bool) (old now_ new : List (Option Pending)) (x : Option Pending) (c : Clause) → SoFar a fact wanted i old now_ → slice_get wanted i ≡ Some mark → slice_get (clauses_in a) i ≡ Some c
    → IsWanted (IsPending fact a) mark c x → new ≡ now_ ++ x ∷ [] → SoFar a fact wanted (i + 1) old new
so_far_more a fact wanted i mark old now_ new x c so at there one en = record {
  added = so.added ++ x ∷ [];
  is = en ∙ ap (λ xs. xs ++ x ∷ []) so.is ∙ append_assoc old so.added (x ∷ []);
  are =
      subst (λ ws. AreWanted (IsPending fact a) ws (take (i + 1) (clauses_in a)) (so.added ++ x ∷ [])) (sym (one_longer wanted i mark at))
      (subst (λ cs. AreWanted (IsPending fact a) (take i wanted ++ mark ∷ []) cs (so.added ++ x ∷ [])) (sym (one_longer (clauses_in a) i c there))
      (wanted_append (IsPending fact a) (take i wanted) (mark ∷ []) (take i (clauses_in a)) (c ∷ []) so.added (x ∷ []) so.are (one, tt)));
}

pub take_all : {X : Type 0} (xs : List X) (i : ℕ) → length xs ≤ i → take i xs ≡ xs
take_all [] zero le = refl
take_all [] (suc i) le = refl
take_all (x ∷ xs) zero le = absurd (omega arith)
take_all (x ∷ xs) (suc i) le = ap (λ ys. x ∷ ys) (take_all xs i (omega arith))

pub as_many_ways : (f : Path → Option Clause) (ps : List Path) (cs : List Clause) → map f ps ≡ map Some cs → length ps ≡ length cs
as_many_ways f ps cs e = sym (length-map ps f) ∙ ap length e ∙ length-map cs Some

pub so_far_done : (a : Form) (fact : ℕ) (wanted : List Bool) (i : ℕ) (old now_ : List (Option Pending)) → SoFar a fact wanted i old now_ → length wanted ≡ length (clauses_in a) → length (clauses_in a) ≤ i
    → (added : List (Option Pending)) × (now_ ≡ old ++ added) × AreWanted (IsPending fact a) wanted (clauses_in a) added
so_far_done a fact wanted i old now_ so many le = (
  so.added,
  so.is,
  subst (λ ws. AreWanted (IsPending fact a) ws (clauses_in a) so.added) (take_all wanted i (omega arith))
      (subst (λ cs. AreWanted (IsPending fact a) (take i wanted) cs so.added) (take_all (clauses_in a) i le) so.are),
)

-- one mark more without a clause
pub left_more : (wanted : List Bool) (i : ℕ) (start old new : List (Option Pending)) → i < length wanted → old ≡ start ++ map (λ (w : Bool). None) (take i wanted) → new ≡ old ++ None ∷ [] → new ≡ start ++ map (λ (w : Bool). None) (take (i + 1) wanted)
left_more wanted i start old new lt e en =
    let none : Bool → Option Pending = λ w. None in
    let more = take_more wanted i false lt in
    let last : map none (take (i + 1) wanted) ≡ map none (take i wanted) ++ None ∷ [] = ap (map none) more ∙ map-append none (take i wanted) (get_or wanted i false ∷ []) in
    en ∙ ap (λ xs. xs ++ None ∷ []) e ∙ append_assoc start (map none (take i wanted)) (None ∷ []) ∙ ap (λ xs. start ++ xs) (sym last)
