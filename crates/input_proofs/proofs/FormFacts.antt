-- A formula that may be opened, as code meets it.
use Rattle.std.specs.Prelude.{ℕ, ◌≡◌, ◌+◌, ◌<◌, ◌≤◌, ◌^◌, Bool, true, false, List, [], ◌∷◌, ◌++◌, length, map, take, drop, Option, None, refl}
use Rattle.std.specs.List.{list_any}
use Rattle.std.proofs.Common.{ap, sym, subst, ◌∙◌, inl, inr, arith}
use Rattle.std.proofs.lemmas.List.{length-drop, length-take-le}
use Rattle.fof_terms.specs.declared.form.Form.{Form, Imp}
use Rattle.fof_terms.specs.Sorts.{Sorted, binder_depth}
use Rattle.fof_terms.specs.Vocabulary.{Vocabulary}
use Rattle.fof_terms.proofs.Scoped.{raised}
use Rattle.clause_form.specs.Clauses.{skolemized, clauses_in}
use Rattle.clause_form.specs.Norm.{norm_of}
use Rattle.clause_form.specs.Sizes.{norm_size_of, clause_count_of}
use Rattle.clause_form.proofs.ClauseCount.{clauses_counted}
use Rattle.clause_form.proofs.NormSize.{norm_small}
use Rattle.kernel.specs.Proves.{Proves}
use Rattle.kernel.specs.Statements.{Statements}
use Rattle.kernel.specs.declared.proof.Proof.{Proof, Line, ImpE}
use Rattle.kernel.proofs.Building.{by_line, by_imp_e}
use Rattle.norm_proofs.specs.Placed.{SortedSomewhere}
use Rattle.skolem_fresh.specs.Choosing.{IsWithin}
use Rattle.skolem_fresh.specs.SkolemRule.{IsSkolemized}
use Rattle.skolem_fresh.proofs.Skolemized.{depth_kept}
use Rattle.skolem_fresh.proofs.SkolemSteps.{norm_within}
use Rattle.skolem_proofs.specs.Choosing.{IsWitnessedBy}
use Rattle.skolem_proofs.specs.declared.whole.Skolemized.{Skolemized}
use Rattle.skolem_proofs.proofs.Standing.{fits_kept, no_larger}
use Rattle.step_clauses.specs.declared.existentials.Existential.{Existential}
use Rattle.step_clauses.specs.Existentials.{existentials, ex_count}
use Rattle.step_clauses.specs.Skolems.{uses_of}
use Rattle.step_clauses.proofs.Placed.{skolemized_is}
use Rattle.input_proofs.specs.Wanted.{AreWanted}
use Rattle.input_proofs.specs.code.Passed.{MayPass, IsAdded, IsLinked, IsLeftOut, Passes, own_of, number_in}
use Rattle.input_proofs.specs.code.Pending.{IsPending}
use Rattle.input_proofs.specs.declared.forms.Opening.{Opening}
use Rattle.input_proofs.specs.declared.pending.Pending.{Pending}

-- what a proof between a formula and its normal form shows
abbrev Forth : Form → Proof → Type 0
Forth a p = (t : Statements) (v : List ℕ) (h : List Form) → length v ≤ 1000000000 → Sorted t.vocabulary v a → Proves t v h p (Imp a (norm_of true a))

pub linked_shown : (a : Form) (n : ℕ) (part cited first norm made : Proof) → cited ≡ Line n → Forth a first → norm ≡ ImpE first cited → made ≡ ImpE part norm → IsLinked a n part made
linked_shown a n part cited first norm made ec f en em s b sorted at implied =
    let one : Proves s [] [] cited a = subst (λ p. Proves s [] [] p a) (sym ec) (by_line s [] [] n a sorted at) in
    let two : Proves s [] [] norm (norm_of true a) = subst (λ p. Proves s [] [] p (norm_of true a)) (sym en) (by_imp_e s [] [] first cited a (norm_of true a) (f s [] [] (omega arith) sorted) one) in
    subst (λ p. Proves s [] [] p b) (sym em) (by_imp_e s [] [] part norm (norm_of true a) b implied two)

-- what is made, as code makes it
pub formula_added : (number : Option ℕ) (a : Form) (first : ℕ) (made : Skolemized) (own : List Bool) (old new : Opening) (n : ℕ) (fact : Proof) (place : ℕ) → new.next ≡ old.next → new.choices ≡ old.choices ++ made.choices → n ≡ number_in number first (length new.choices)
    → IsLinked a n made.proof fact → place ≡ length old.facts → new.facts ≡ old.facts ++ fact ∷ []
    → (added : List (Option Pending)) × (new.pending ≡ old.pending ++ added) × AreWanted (IsPending place made.form) own (clauses_in made.form) added → IsAdded number a first made own old new
formula_added number a first made own old new n fact place ex ec en linked ep ef h = record {
  next = ex;
  choices = ec;
  fact = fact;
  facts = ef;
  linked = subst (λ (k : ℕ). IsLinked a k made.proof fact) en linked;
  added = h.0;
  pending = h.1;
  are = subst (λ (k : ℕ). AreWanted (IsPending k made.form) own (clauses_in made.form) h.0) ep h.2;
}

module _ (number : Option ℕ) (a : Form) (first : ℕ) (wanted own : List Bool) (old new : Opening) (norm : Form) (en : norm ≡ norm_of true a) (found : List Existential) (ef : found ≡ existentials norm) (ex : new.next ≡ old.next + length found) (place : ℕ)
    (ep : place ≡ length old.pending) (eo : own ≡ take (clause_count_of norm) (drop place wanted)) where
  own_is : own ≡ own_of a wanted old
  own_is = eo ∙ ap (λ (b : Form). take (clause_count_of b) (drop place wanted)) en ∙ ap (λ (k : ℕ). take (clause_count_of (norm_of true a)) (drop k wanted)) ep

  next_is : new.next ≡ old.next + ex_count (norm_of true a)
  next_is = ex ∙ ap (λ (es : List Existential). old.next + length es) ef ∙ ap (λ (b : Form). old.next + ex_count b) en

  pub passes_left : (b : Bool) → b ≡ false → b ≡ list_any (λ w. w) own → new.choices ≡ old.choices → new.facts ≡ old.facts → new.pending ≡ old.pending ++ map (λ (w : Bool). None) own → Passes number a first wanted old new
  passes_left b off eb ec efs epn = record {
    next = next_is;
    how = inl (subst (λ (ws : List Bool). IsLeftOut ws old new) own_is (record { none = sym eb ∙ off; choices = ec; facts = efs; pending = epn }));
  }

  pub passes_taken : (mid : Opening) (made : Skolemized) (behind : ℕ) → mid ≡ record old { next = new.next } → behind ≡ first + length old.choices → IsWitnessedBy (uses_of norm old.next) norm behind made → IsAdded number a first made own mid new
      → Passes number a first wanted old new
  passes_taken mid made behind em eb by is = record {
    next = next_is;
    how = inr (record {
      made = made;
      by = subst (λ (b : Form). IsWitnessedBy (uses_of b old.next) b (first + length old.choices) made) en (subst (λ (k : ℕ). IsWitnessedBy (uses_of norm old.next) norm k made) eb by);
      is = subst (λ (ws : List Bool). IsAdded number a first made ws (record old { next = new.next }) new) own_is (subst (λ (o : Opening). IsAdded number a first made own o new) em is);
    });
  }

module _ (v : Vocabulary) (a : Form) (next place : ℕ) (wanted : List Bool) (may : MayPass v a next place wanted) where
  pub shallow : binder_depth a < 2 ^ 32
  shallow = let few = may.sorted.few_binders in omega arith

  pub somewhere : SortedSomewhere a
  somewhere = (v, [], omega arith, raised v [] 1000000000 2147483647 a (omega arith) may.sorted)

  module _ (norm : Form) (en : norm ≡ norm_of true a) where
    abbrev pub result : Form
    result = skolemized norm next

    pub own_few : clause_count_of norm ≤ 10000
    own_few = let same = ap clause_count_of en in let few = may.few in omega arith

    pub own_room : (n : ℕ) → n ≡ place → n + clause_count_of norm ≤ length wanted
    own_room n e = let same = ap clause_count_of en in let room = may.room in omega arith

    pub own_numbers : (found : List Existential) → found ≡ existentials norm → next + length found ≤ 16777216
    own_numbers found e = let one = ap length e in let two = ap ex_count en in let room = may.numbers in omega arith

    pub own_length : (n : ℕ) (own : List Bool) → n ≡ place → own ≡ take (clause_count_of norm) (drop n wanted) → length own ≡ clause_count_of (norm_of true a)
    own_length n own e eo =
        let room = own_room n e in
        let rest = length-drop n wanted in
        ap length eo ∙ length-take-le (clause_count_of norm) (drop n wanted) (omega arith) ∙ ap clause_count_of en

    pub norm_few : norm_size_of norm ≤ 100000
    norm_few = let less = norm_small a true in let same = ap norm_size_of en in let few = may.small in omega arith

    pub within : IsWithin v [] norm
    within = subst (IsWithin v []) (sym en) (norm_within v a (norm_of true a) may.sorted (record { small = may.small; same = refl }))

    replaced_own : IsSkolemized v [] (uses_of (norm_of true a) next) (norm_of true a) (skolemized (norm_of true a) next)
    replaced_own = skolemized_is v a true next may.knows (subst (IsWithin v []) en within).sorted.fits

    pub replaced : IsSkolemized v [] (uses_of norm next) norm result
    replaced = subst (λ (b : Form). IsSkolemized v [] (uses_of b next) b (skolemized b next)) (sym en) replaced_own

    module _ (n : ℕ) (made : Skolemized) (by : IsWitnessedBy (uses_of norm next) norm n made) where
      made_is : made.form ≡ result
      made_is = by.form v [] result replaced

      pub made_small : norm_size_of made.form ≤ 100000
      made_small = let less = no_larger v [] (uses_of norm next) norm result replaced in let same = ap norm_size_of made_is in let few = norm_few in omega arith

      pub made_somewhere : SortedSomewhere made.form
      made_somewhere = (
        v,
        [],
        omega arith,
        subst (Sorted v []) (sym made_is) (record {
          scope_fits = within.sorted.scope_fits;
          few_binders = let kept = depth_kept v [] (uses_of norm next) norm result replaced in let few = within.sorted.few_binders in omega arith;
          fits = fits_kept v [] (uses_of norm next) norm result replaced within.sorted.fits;
        }),
      )

      pub made_count : length (clauses_in made.form) ≡ clause_count_of (norm_of true a)
      made_count = ap (λ (b : Form). length (clauses_in b)) made_is ∙ ap (λ (b : Form). length (clauses_in (skolemized b next))) en ∙ clauses_counted a next
