-- Lifts and instances of what is well-sorted.
use Rattle.std.specs.Prelude.{ℕ, ◌≡◌, ◌+◌, ◌≤◌, nat_lt, List, [], ◌∷◌, ◌++◌, length, Some, refl, true}
use Rattle.std.proofs.Common.{arith, subst, ◌∙◌}
use Rattle.std.proofs.lemmas.List.{append-nil}
use Rattle.fof_terms.specs.Vocabulary.{Vocabulary}
use Rattle.fof_terms.specs.declared.term.Term.{Term}
use Rattle.fof_terms.specs.declared.form.Form.{Form, All}
use Rattle.fof_terms.specs.Lift.{lifted}
use Rattle.fof_terms.specs.Instance.{instance_at}
use Rattle.fof_terms.specs.Sorts.{IsScope, SortedTo, sort_of_term, is_sorted, binder_depth}
use Rattle.fof_terms.proofs.SortsFacts.{is_sorted-All, binder_depth-All}
use Rattle.fof_terms.proofs.LiftingLaws.{both, closed_stays}
use Rattle.fof_terms.proofs.Walks.{same_depth, lifting, placing, lifted_fits, instance_fits}

module _ (v : Vocabulary) (scope : List ℕ) (n s : ℕ) where
  -- over one variable more
  pub lifted_over : (a : Form) → IsScope v (s ∷ scope) → SortedTo n v scope a → SortedTo n v (s ∷ scope) (lifted 1 0 a)
  lifted_over a sc r = record {
    scope_fits = sc;
    few_binders = rw (same_depth _ _ (lifting 1 (λ d. d) (λ d. refl)) a 0) r.few_binders;
    fits = rw (lifted_fits v (s ∷ []) scope a []) r.fits;
  }

  pub of_lifted_over : (a : Form) → SortedTo n v (s ∷ scope) (lifted 1 0 a) → SortedTo n v scope a
  of_lifted_over a r = record {
    scope_fits = record { few_variables = omega (arith, r.scope_fits.few_variables); sorts_exist = r.scope_fits.sorts_exist.1 };
    few_binders = rw (same_depth _ _ (lifting 1 (λ d. d) (λ d. refl)) a 0) at r.few_binders;
    fits = rw (lifted_fits v (s ∷ []) scope a []) at r.fits;
  }

  -- with a term of the right sort for the variable
  pub body_instance_sorted : (b : Form) (x : Term) → sort_of_term v scope x ≡ Some s → IsScope v scope → binder_depth b ≤ n → is_sorted v (s ∷ scope) b ≡ true → SortedTo n v scope (instance_at x 0 b)
  body_instance_sorted b x e sc few fits = record {
    scope_fits = sc;
    few_binders = rw (same_depth _ _ (placing x (λ d. d) (λ d. refl)) b 0) few;
    fits = rw (instance_fits v x s scope e b []) fits;
  }

  pub instance_sorted : (b : Form) (x : Term) → sort_of_term v scope x ≡ Some s → SortedTo n v scope (All s b) → SortedTo n v scope (instance_at x 0 b)
  instance_sorted b x e r =
      let parts = both (nat_lt s (length v.sorts)) (is_sorted v (s ∷ scope) b) (rw is_sorted-All at r.fits) in
      let few : binder_depth b + 1 ≤ n = rw binder_depth-All at r.few_binders in
      body_instance_sorted b x e r.scope_fits (omega arith) parts.1

-- what is closed is well-sorted over any variables
pub closed_anywhere : (v : Vocabulary) (scope : List ℕ) (n : ℕ) (a : Form) → IsScope v scope → SortedTo n v [] a → SortedTo n v scope a
closed_anywhere v scope n a sc r =
    let same : lifted (length scope) 0 a ≡ a = closed_stays v (length scope) a [] 0 (omega arith) r.fits in
    let fits : is_sorted v (scope ++ []) (lifted (length scope) 0 a) ≡ is_sorted v [] a = lifted_fits v scope [] a [] in
    record { scope_fits = sc; few_binders = r.few_binders; fits = subst (λ front. is_sorted v front a ≡ true) (append-nil scope) (subst (λ b. is_sorted v (scope ++ []) b ≡ true) same (fits ∙ r.fits)) }
