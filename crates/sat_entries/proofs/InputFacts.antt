-- Clauses of the step as facts, by their formulas.
use Rattle.std.specs.Prelude.{ℕ, zero, suc, ◌≡◌, ◌+◌, ◌<◌, ◌≤◌, ◌⊎◌, Bool, true, false, not, if◌then◌else◌, List, [], ◌∷◌, ◌++◌, length, map, take, Some, None, slice_get, get_or, refl}
use Rattle.std.specs.List.{AllByRecursion, Contains}
use Rattle.std.specs.Option.{option_map}
use Rattle.std.proofs.Common.{ap, sym, subst, ◌∙◌, arith, inl, inr, append_assoc}
use Rattle.std.proofs.Math.Seq.{take-length}
use Rattle.std.proofs.lemmas.List.{length-map, map-append, take_more}
use Rattle.std.proofs.lemmas.Option.{slice_get-get_or, slice_get-map, slice_get_within}
use Rattle.fof_terms.specs.Sorts.{Sorted}
use Rattle.fof_terms.specs.Vocabulary.{Vocabulary}
use Rattle.fof_terms.specs.declared.form.Form.{Form, Or}
use Rattle.fof_terms.proofs.Scoped.{and_sorted, not_sorted, or_sorted, sorted_of_not, sorted_of_or}
use Rattle.clause_form.specs.ClauseView.{form_of_atom, form_of_lit}
use Rattle.clause_form.specs.Norm.{signed}
use Rattle.clause_form.specs.declared.clause.AtomOf.{AtomOf}
use Rattle.clause_form.specs.declared.clause.Clause.{Clause}
use Rattle.clause_form.specs.declared.clause.Lit.{Lit}
use Rattle.clause_proofs.specs.Bodies.{body_of}
use Rattle.chain_proofs.specs.Chains.{AreOver}
use Rattle.chain_proofs.specs.Facts.{all_false, denied_form, not_all_false}
use Rattle.chain_proofs.specs.declared.fact.Fact.{Fact}
use Rattle.clause_learning.proofs.Members.{head_in, tail_in}
use Rattle.input_proofs.specs.Formulas.{has_or}
use Rattle.kernel.specs.Proves.{Proves}
use Rattle.kernel.specs.Rules.{ProveEach}
use Rattle.kernel.specs.Statements.{Statements}
use Rattle.kernel.specs.declared.proof.Proof.{Proof, AndE, Hyp, Line, NotE, NotI, OrE}
use Rattle.kernel.proofs.Building.{by_and_e, by_hyp, by_line, by_not_e, by_not_i, by_or_e}
use Rattle.negated_lemmas.specs.Negated.{with_denied}
use Rattle.search_proofs.specs.code.Facts.{AreShown, IsOf, Setting, StandsAt, first_fact}
use Rattle.search_proofs.specs.code.Members.{ShowMore}
use Rattle.search_proofs.proofs.InTurn.{no_more, one_of, shown_twice, stands_in, stands_last, stands_on}
use Rattle.sat_entries.specs.code.Inputs.{AreStatedInputs, IsStatedIf, IsTurned, WantedHave, WantedStand, arms_of, clash_tree, contradiction_tree, lone_tree}
use Rattle.sat_entries.specs.code.Learning.{AreSorted, IsStated}
use Rattle.sat_entries.specs.code.Naming.{IsMarked}
use Rattle.sat_entries.proofs.LearningFacts.{nothing_bound}
use Rattle.sat_entries.proofs.LogFacts.{got_push_cases}

module _ (t : Statements) where
  signs_clash : (h : List Form) (g : Bool) (a : Form) (own other : Proof) → Proves t [] h own (signed g a) → Proves t [] h other (signed (not g) a) → Proves t [] h (if g then NotE other own else NotE own other) (Or [])
  signs_clash h true a own other w z = by_not_e t [] h other own a z w
  signs_clash h false a own other w z = by_not_e t [] h own other a w z

  clash_shows : (h : List Form) (l : Lit) (own other : Proof) → Proves t [] h own (form_of_lit l) → Proves t [] h other (denied_form l) → Proves t [] h (clash_tree l own other) (Or [])
  clash_shows h l own other w z = signs_clash h l.positive (form_of_atom l.atom) own other w z

  turned_sign : (g : Bool) (a : Form) → Sorted t.vocabulary [] (signed g a) → Sorted t.vocabulary [] (signed (not g) a)
  turned_sign true a h = not_sorted t.vocabulary [] 2147483647 a h
  turned_sign false a h = sorted_of_not t.vocabulary [] 2147483647 a h

  denials_sorted : (lits : List Lit) → AllByRecursion (Sorted t.vocabulary []) (map form_of_lit lits) → AllByRecursion (Sorted t.vocabulary []) (map denied_form lits)
  denials_sorted [] all = tt
  denials_sorted (l ∷ lits) all = (turned_sign l.positive (form_of_atom l.atom) all.0, denials_sorted lits all.1)

  module _ (whole : List Lit) (sorted : Sorted t.vocabulary [] (all_false whole)) where
    denial_at : (h : List Form) (n k : ℕ) (l : Lit) → slice_get h n ≡ Some (all_false whole) → slice_get whole k ≡ Some l → Proves t [] h (AndE k (Hyp n)) (denied_form l)
    denial_at h n k l there at = by_and_e t [] h k (Hyp n) (map denied_form whole) (denied_form l) (slice_get-map denied_form whole k ∙ ap (option_map denied_form) at) (by_hyp t [] h n (all_false whole) sorted there)

    arms_show : (front rest : List Lit) (k : ℕ) → whole ≡ front ++ rest → k ≡ length front → AllByRecursion (Sorted t.vocabulary []) (map form_of_lit rest) → ProveEach t [] (all_false whole ∷ []) (arms_of k rest) (map form_of_lit rest) (Or [])
    arms_show front [] k is k_is all = tt
    arms_show front (l ∷ rest) k is k_is all =
        let h = form_of_lit l ∷ all_false whole ∷ [] in
        let at : slice_get whole k ≡ Some l = ap (λ (ls : List Lit). slice_get ls k) is ∙ (ap (λ n. slice_get (front ++ l ∷ rest) n) k_is ∙ at_seam front l rest) in (
          clash_shows h l (Hyp 0) (AndE k (Hyp 1)) (by_hyp t [] h 0 (form_of_lit l) all.0 refl) (denial_at h 1 k l refl at),
          arms_show (front ++ l ∷ []) rest (suc k) (is ∙ sym (append_assoc front (l ∷ []) rest)) (let long = one_longer front l in omega arith) all.1,
        ) where
          at_seam : (xs : List Lit) (y : Lit) (ys : List Lit) → slice_get (xs ++ y ∷ ys) (length xs) ≡ Some y
          at_seam [] y ys = refl
          at_seam (x ∷ xs) y ys = at_seam xs y ys

          one_longer : (xs : List Lit) (y : Lit) → length (xs ++ y ∷ []) ≡ length xs + 1
          one_longer [] y = refl
          one_longer (x ∷ xs) y = let rest = one_longer xs y in omega arith

-- what is known where the body of a clause is well-sorted
pub body_sorted : (t : Statements) (lits : List Lit) (b : Bool) → has_or lits ≡ b → Sorted t.vocabulary [] (body_of b lits) → AllByRecursion (Sorted t.vocabulary []) (map form_of_lit lits)
body_sorted t lits true e h = sorted_of_or t.vocabulary [] 2147483647 (map form_of_lit lits) h
body_sorted t [] false e h = tt
body_sorted t (l ∷ []) false e h = (h, tt)
body_sorted t (l ∷ m ∷ lits) false e h = absurd (let two : true ≡ false = e in cc)

contradicts : (t : Statements) (lits : List Lit) (n : ℕ) (b : Bool) → has_or lits ≡ b → Sorted t.vocabulary [] (body_of b lits) → slice_get t.formulas n ≡ Some (body_of b lits) → Sorted t.vocabulary [] (all_false lits)
    → Proves t [] (all_false lits ∷ []) (if b then OrE (Or []) (Line n) (arms_of 0 lits) else lone_tree lits n) (Or [])
contradicts t lits n true e h at sorted =
    let each = sorted_of_or t.vocabulary [] 2147483647 (map form_of_lit lits) h in
    by_or_e t [] (all_false lits ∷ []) (Or []) (Line n) (arms_of 0 lits) (map form_of_lit lits) (or_sorted t.vocabulary [] 2147483647 sorted.scope_fits [] tt) (by_line t [] (all_false lits ∷ []) n (Or (map form_of_lit lits)) h at)
    (arms_show t lits sorted [] lits 0 refl refl each)
contradicts t [] n false e h at sorted = absurd (let two : true ≡ false = e in cc)
contradicts t (l ∷ []) n false e h at sorted =
    clash_shows t (all_false (l ∷ []) ∷ []) l (Line n) (AndE 0 (Hyp 0)) (by_line t [] (all_false (l ∷ []) ∷ []) n (form_of_lit l) h at) (denial_at t (l ∷ []) sorted (all_false (l ∷ []) ∷ []) 0 0 l refl refl)
contradicts t (l ∷ m ∷ lits) n false e h at sorted = absurd (let two : true ≡ false = e in cc)

pub turned_shows : (lits : List Lit) (n : ℕ) (denied : Form) (p : Proof) → denied ≡ all_false lits → p ≡ contradiction_tree lits n → IsTurned lits n (NotI denied p)
turned_shows lits n denied p denied_is p_is t h at =
    let each = body_sorted t lits (has_or lits) refl h in
    let sorted = and_sorted t.vocabulary [] 2147483647 h.scope_fits (map denied_form lits) (denials_sorted t lits each) in
    let falsehood = contradicts t lits n (has_or lits) refl h at sorted in
    subst (λ (a : Form). Proves t [] [] (NotI a p) (not_all_false lits)) (sym denied_is)
    (by_not_i t [] [] (all_false lits) p sorted (subst (λ (q : Proof). Proves t [] (all_false lits ∷ []) q (Or [])) (sym p_is) falsehood))

-- the arms of the first literals
pub arms_more : (front : List Lit) (l : Lit) (k : ℕ) → arms_of k (front ++ l ∷ []) ≡ arms_of k front ++ clash_tree l (Hyp 0) (AndE (k + length front) (Hyp 1)) ∷ []
arms_more [] l k = let none : k ≡ k + 0 = omega arith in ap (λ n. clash_tree l (Hyp 0) (AndE n (Hyp 1)) ∷ []) none
arms_more (f ∷ front) l k =
    let one : suc k + length front ≡ k + suc (length front) = omega arith in
    ap (λ (ps : List Proof). clash_tree f (Hyp 0) (AndE k (Hyp 1)) ∷ ps) (arms_more front l (suc k) ∙ ap (λ n. arms_of (suc k) front ++ clash_tree l (Hyp 0) (AndE n (Hyp 1)) ∷ []) one)

pub one_arm_more : (lits : List Lit) (i : ℕ) (l : Lit) (made new : List Proof) (p : Proof) → i < length lits → l ≡ get_or lits i l → made ≡ arms_of 0 (take i lits) → p ≡ clash_tree l (Hyp 0) (AndE i (Hyp 1)) → new ≡ made ++ p ∷ [] → new ≡ arms_of 0 (take (i + 1) lits)
one_arm_more lits i l made new p lt item made_is p_is new_is =
    let longer : take (i + 1) lits ≡ take i lits ++ l ∷ [] = take_more lits i l lt ∙ ap (λ (d : Lit). take i lits ++ d ∷ []) (sym item) in
    let count : 0 + length (take i lits) ≡ i = taken lits i lt in
    new_is ∙ ap (λ (ps : List Proof). ps ++ p ∷ []) made_is ∙ ap (λ (q : Proof). arms_of 0 (take i lits) ++ q ∷ []) p_is
    ∙ sym (ap (arms_of 0) longer ∙ arms_more (take i lits) l 0 ∙ ap (λ n. arms_of 0 (take i lits) ++ clash_tree l (Hyp 0) (AndE n (Hyp 1)) ∷ []) count)
  where
    taken : (xs : List Lit) (n : ℕ) → n < length xs → 0 + length (take n xs) ≡ n
    taken [] n less = absurd (omega arith)
    taken (x ∷ xs) zero less = refl
    taken (x ∷ xs) (suc n) less = let rest = taken xs n (omega arith) in omega arith

-- the body of a clause whose atoms are well-sorted
module _ (s : Setting) (atoms : List AtomOf) (sorts : AreSorted s atoms) where
  lit_sorted : (g : Bool) (a : Form) → Sorted s.vocabulary [] a → Sorted s.vocabulary [] (signed g a)
  lit_sorted true a h = h
  lit_sorted false a h = not_sorted s.vocabulary [] 2147483647 a h

  lits_sorted : (lits : List Lit) → AreOver atoms lits → AllByRecursion (Sorted s.vocabulary []) (map form_of_lit lits)
  lits_sorted [] own = tt
  lits_sorted (l ∷ lits) own = (lit_sorted l.positive (form_of_atom l.atom) (sorts l.atom (own l (head_in l lits))), lits_sorted lits (λ x there. own x (tail_in l lits x there)))

  some_body : (b : Bool) (lits : List Lit) → AllByRecursion (Sorted s.vocabulary []) (map form_of_lit lits) → Sorted s.vocabulary [] (body_of b lits)
  some_body true lits all = or_sorted s.vocabulary [] 2147483647 (nothing_bound s atoms sorts) (map form_of_lit lits) all
  some_body false [] all = or_sorted s.vocabulary [] 2147483647 (nothing_bound s atoms sorts) [] tt
  some_body false (l ∷ lits) all = all.0

  stated_sorted : (lits : List Lit) → AreOver atoms lits → Sorted s.vocabulary [] (body_of (has_or lits) lits)
  stated_sorted lits own = some_body (has_or lits) lits (lits_sorted lits own)

-- ---- all clauses

abbrev fact_lits : Fact → List Lit
fact_lits f = f.lits

abbrev clause_lits : Clause → List Lit
clause_lits c = c.lits

-- the first clauses are stated
pub record IsStating (start : ℕ) (clauses : List Clause) (wanted : List Bool) (numbers : List ℕ) (i : ℕ) (facts : List Fact) (old new : List Proof) : Type 0 where
  pub same : map fact_lits facts ≡ map clause_lits (take i clauses)
  pub count : length facts ≡ i
  pub shows : (s : Setting) (atoms : List AtomOf) → first_fact s ≡ start → AreSorted s atoms → WantedHave atoms clauses wanted → (forms : List Form) → AreShown s old forms → WantedStand s forms clauses wanted numbers
      → (all : List Form) × ShowMore s (IsStated atoms) new forms all × ((k : ℕ) (f : Fact) → IsMarked wanted k → slice_get facts k ≡ Some f → StandsAt s all f.number (not_all_false f.lits))

pub none_stated : (start : ℕ) (clauses : List Clause) (wanted : List Bool) (numbers : List ℕ) (facts : List Fact) (old : List Proof) → facts ≡ [] → IsStating start clauses wanted numbers 0 facts old old
none_stated start clauses wanted numbers facts old none = subst (λ (fs : List Fact). IsStating start clauses wanted numbers 0 fs old old) (sym none) (record {
  same = refl;
  count = refl;
  shows = λ s atoms starts sorts have forms shown stand. (forms, no_more s (IsStated atoms) old old forms shown refl, λ k f marked at. absurd (let never : None ≡ Some f = at in cc));
})

module _ (start : ℕ) (clauses : List Clause) (wanted : List Bool) (numbers : List ℕ) (i : ℕ) (facts : List Fact) (old mid : List Proof) (h : IsStating start clauses wanted numbers i facts old mid) (c : Clause) (lt : i < length clauses) (item : c ≡ get_or clauses i c)
    (w : Bool) (w_at : slice_get wanted i ≡ Some w) (n : ℕ) (n_at : slice_get numbers i ≡ Some n) where
  at_clauses : slice_get clauses i ≡ Some c
  at_clauses = slice_get-get_or clauses i c lt ∙ ap (λ (d : Clause). Some d) (sym item)

  pub stated_more : (lits : List Lit) → lits ≡ c.lits → (number : ℕ) (new : List Proof) → IsStatedIf start lits w n mid new number → (f : Fact) → f.number ≡ number → f.lits ≡ c.lits → (more : List Fact) → more ≡ facts ++ f ∷ []
      → IsStating start clauses wanted numbers (i + 1) more old new
  stated_more lits lits_is number new stated f number_is own_is more more_is = subst (λ (fs : List Fact). IsStating start clauses wanted numbers (i + 1) fs old new) (sym more_is) (record {
    same =
        map-append fact_lits facts (f ∷ []) ∙ (ap (λ (ls : List (List Lit)). ls ++ f.lits ∷ []) h.same
        ∙ (ap (λ (ls : List Lit). map clause_lits (take i clauses) ++ ls ∷ []) own_is ∙ sym (ap (map clause_lits) longer ∙ map-append clause_lits (take i clauses) (c ∷ []))));
    count = let long = one_longer facts f in let all = h.count in omega arith;
    shows = λ s atoms starts sorts have forms shown stand. goes w w_at stated s atoms starts sorts have forms shown stand;
  }) where
    one_longer : (xs : List Fact) (y : Fact) → length (xs ++ y ∷ []) ≡ length xs + 1
    one_longer [] y = refl
    one_longer (x ∷ xs) y = let rest = one_longer xs y in omega arith

    longer : take (i + 1) clauses ≡ take i clauses ++ c ∷ []
    longer = take_more clauses i c lt ∙ ap (λ (d : Clause). take i clauses ++ d ∷ []) (sym item)

    goes : (b : Bool) → slice_get wanted i ≡ Some b → IsStatedIf start lits b n mid new number → (s : Setting) (atoms : List AtomOf) → first_fact s ≡ start → AreSorted s atoms → WantedHave atoms clauses wanted → (forms : List Form) → AreShown s old forms
        → WantedStand s forms clauses wanted numbers
        → (all : List Form) × ShowMore s (IsStated atoms) new forms all × ((k : ℕ) (g : Fact) → IsMarked wanted k → slice_get (facts ++ f ∷ []) k ≡ Some g → StandsAt s all g.number (not_all_false g.lits))
    goes false b_at same s atoms starts sorts have forms shown stand =
        let before = h.shows s atoms starts sorts have forms shown stand in (
          before.0,
          subst (λ (ps : List Proof). ShowMore s (IsStated atoms) ps forms before.0) (sym same) before.1,
          (λ k g marked at. elim (got_push_cases facts f k g at) [
            | inl was ↦ before.2 k g marked was.1
            | inr own ↦ absurd (let two : Some true ≡ Some false = sym marked ∙ (ap (λ j. slice_get wanted j) (own.0 ∙ h.count) ∙ b_at) in cc)
          ]),
        )
    goes true b_at made s atoms starts sorts have forms shown stand =
        let before = h.shows s atoms starts sorts have forms shown stand in
        let all = before.0 in
        let a = not_all_false lits in
        let own : AreOver atoms lits = subst (AreOver atoms) (sym lits_is) (have i c b_at at_clauses) in
        let body = body_of (has_or lits) lits in
        let was : StandsAt s forms n body = subst (λ (ls : List Lit). StandsAt s forms n (body_of (has_or ls) ls)) (sym lits_is) (stand i n c b_at at_clauses n_at) in
        let there = stands_on s (IsStated atoms) mid forms all n body before.1 was in
        let step = λ (t : Statements) (of : IsOf s t). made.2 (with_denied t s.line all) (subst (λ (v : Vocabulary). Sorted v [] body) (sym of.vocabulary) (stated_sorted s atoms sorts lits own)) (stands_in s all n body t of there) in
        let last = one_of s (IsStated atoms) mid new all made.0 a before.1.shown step (lits, own, refl) made.1 in (
          all ++ a ∷ [],
          shown_twice s (IsStated atoms) mid new forms all (all ++ a ∷ []) before.1 last,
          (λ k g marked at. elim (got_push_cases facts f k g at) [
            | inl old_one ↦ stands_on s (IsStated atoms) new all (all ++ a ∷ []) g.number (not_all_false g.lits) last (before.2 k g marked old_one.1)
            | inr own_one ↦ subst (λ (x : Fact). StandsAt s (all ++ a ∷ []) x.number (not_all_false x.lits)) own_one.1 (subst (λ (ls : List Lit). StandsAt s (all ++ a ∷ []) f.number (not_all_false ls)) (lits_is ∙ sym own_is)
                (stands_last s mid all f.number a before.1.shown (number_is ∙ (made.3 ∙ ap (λ m. m + length mid) (sym starts)))))
          ]),
        )

pub all_stated : (start : ℕ) (clauses : List Clause) (wanted : List Bool) (numbers : List ℕ) (i : ℕ) (facts : List Fact) (old new : List Proof) → IsStating start clauses wanted numbers i facts old new → length clauses ≤ i → i ≤ length clauses → AreStatedInputs start clauses wanted numbers old new facts
all_stated start clauses wanted numbers i facts old new h le ge =
    let last : i ≡ length clauses = omega arith in
    record { same = h.same ∙ ap (λ (cs : List Clause). map clause_lits cs) (ap (λ n. take n clauses) last ∙ take-length clauses); shows = h.shows }
