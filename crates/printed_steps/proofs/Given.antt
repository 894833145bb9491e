-- A clause of a formula without existential quantifiers, whose functions keep their numbers.
use Rattle.std.specs.Prelude.{ℕ, ◌≡◌, ◌≤◌, true, List, [], map, Some, slice_get, refl}
use Rattle.std.proofs.Common.{ap, sym, subst, ◌∙◌}
use Rattle.fof_terms.specs.declared.term.Term.{Term, App}
use Rattle.fof_terms.specs.Occurs.{occurs_in_term}
use Rattle.fof_terms.specs.Vocabulary.{Vocabulary}
use Rattle.fof_terms.proofs.Induction.{term_induction}
use Rattle.fof_terms.proofs.Walks.{staying_term}
use Rattle.clause_form.specs.declared.path.Parent.{Parent}
use Rattle.clause_form.specs.declared.clause.Lit.{Lit}
use Rattle.clause_form.specs.declared.clause.Clause.{Clause}
use Rattle.clause_form.specs.ClauseView.{closed, IsLoneFalsehood}
use Rattle.clause_form.specs.ClauseWays.{IsIn}
use Rattle.clause_form.specs.Clauses.{clauses_in, clauses_of}
use Rattle.clause_form.specs.Norm.{norm_of}
use Rattle.clause_form.specs.Sizes.{norm_size_of}
use Rattle.clause_form.proofs.ClauseLaws.{lits_themselves}
use Rattle.clause_rules.specs.CoverRule.{IsCoverStep}
use Rattle.step_clauses.specs.Existentials.{existentials}
use Rattle.printed_clauses.specs.Renumbered.{renumbered, renumbered_clause}
use Rattle.printed_clauses.specs.Trimmed.{trimmed}
use Rattle.printed_clauses.proofs.RenumberedFacts.{renumbered-Var, renumbered-App}
use Rattle.printed_steps.specs.Carried.{HasItsVariables, has_function}
use Rattle.printed_steps.specs.Printed.{printed}
use Rattle.printed_steps.proofs.Plain.{plain_skolemized}
use Rattle.printed_steps.proofs.Reaching.{listed_covered}
use Rattle.printed_steps.proofs.Terms.{agree_where, args_good, head_good, lits_same, IsGood}

module _ (number : ℕ → ℕ) where
  abbrev Stays : ℕ → Type 0
  Stays f = number f ≡ f

  term_stays : (t : Term) → IsGood occurs_in_term Stays t → renumbered number t ≡ t
  term_stays = term_induction (λ t. IsGood occurs_in_term Stays t → renumbered number t ≡ t) (record {
    var = λ k h. renumbered-Var number k;
    app = λ f ts all h.
        renumbered-App number f ts
        ∙ ap (λ g. App g (map (renumbered number) ts)) (head_good Stays f ts h)
        ∙ ap (App f) (agree_where (IsGood occurs_in_term Stays) (renumbered number) (λ t. t) ts all (args_good Stays f ts h))
        ∙ sym (staying_term.app f ts);
  })

  clause_stays : (c : Clause) → ((f : ℕ) → has_function c.lits f ≡ true → number f ≡ f) → renumbered_clause number c ≡ c
  clause_stays c h =
      ap (λ (ls : List Lit). record { sorts = c.sorts; lits = ls }) (lits_same occurs_in_term Stays (renumbered number) (λ t. t) term_stays c.lits h ∙ lits_themselves (λ t. t) (λ t. refl) c.lits)

pub given_covered : (v : Vocabulary) (number : ℕ → ℕ) (parents : List Parent) (a : ℕ) (p : Parent) (next : ℕ) (c : Clause) → slice_get parents a ≡ Some p → norm_size_of p.form ≤ 100000 → existentials (norm_of true p.form) ≡ []
    → IsIn c (clauses_of p.form next) → ((f : ℕ) → has_function c.lits f ≡ true → number f ≡ f) → HasItsVariables c → (IsLoneFalsehood c → ⊥) → IsCoverStep v parents (printed number c)
given_covered v number parents a p next c there small none listed stay own proper =
    let in_norm : IsIn c (clauses_in (norm_of true p.form)) = subst (λ a. IsIn c (clauses_in a)) (plain_skolemized (norm_of true p.form) next none) listed in
    let step : IsCoverStep v parents (closed (trimmed c)) = listed_covered v c own parents a p there small in_norm proper in
    subst (λ (d : Clause). IsCoverStep v parents (closed (trimmed d))) (sym (clause_stays number c stay)) step
