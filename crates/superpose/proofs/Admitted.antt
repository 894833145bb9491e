-- A clause whose literals fit its sorts.
use Rattle.std.specs.Prelude.{ℕ, List, ◌≡◌, reverse, true}
use Rattle.std.specs.List.{All as Each}
use Rattle.std.proofs.Common.{ap, subst, sym, ◌∙◌, Bor}
use Rattle.fof_terms.specs.Vocabulary.{Vocabulary}
use Rattle.fof_terms.specs.Scope.{scope_sorts}
use Rattle.fof_terms.specs.declared.sorting.Scope.{Outside}
use Rattle.fof_terms.proofs.ScopeFacts.{scope_sorts-Outside}
use Rattle.clause_form.specs.declared.clause.Lit.{Lit}
use Rattle.clause_form.specs.declared.clause.Clause.{Clause}
use Rattle.clause_form.specs.Covers.{AreSorted, is_sorted_atom, scope_of}

abbrev AllFit : Vocabulary → List ℕ → List Lit → Type 0
AllFit v scope lits = Each (λ (l : Lit). is_sorted_atom v scope l.atom ≡ true) lits

module _ (v : Vocabulary) (c : Clause) (sorts : Bor (List ℕ)) (lits : List Lit) (same : sorts.now ≡ c.sorts) (are : lits ≡ c.lits) where
  scope_is : scope_sorts (Outside sorts) ≡ scope_of c
  scope_is = scope_sorts-Outside sorts ∙ ap reverse same

  pub sorted_by : AllFit v (scope_sorts (Outside sorts)) lits → AreSorted v (scope_of c) c.lits
  sorted_by all = record {
    fits = subst (λ (ls : List Lit). AllFit v (scope_of c) ls) are (subst (λ (zs : List ℕ). AllFit v zs lits) scope_is all);
  }

  pub fit_by : AreSorted v (scope_of c) c.lits → AllFit v (scope_sorts (Outside sorts)) lits
  fit_by h =
      subst (λ (zs : List ℕ). AllFit v zs lits) (sym scope_is) (subst (λ (ls : List Lit). AllFit v (scope_of c) ls) (sym are) h.fits)
