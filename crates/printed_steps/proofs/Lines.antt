-- The clauses that printed lines are.
use Rattle.std.specs.Prelude.{ℕ, ◌≡◌, Bool, true, List, [], ◌∷◌, length, map, Some}
use Rattle.std.proofs.Common.{ap, ◌∙◌, zero, suc}
use Rattle.fof_terms.specs.declared.term.Term.{Term}
use Rattle.clause_form.specs.declared.path.Parent.{Parent}
use Rattle.clause_form.specs.declared.clause.AtomOf.{AtomOf}
use Rattle.clause_form.specs.declared.clause.AtomOf.TheVariants.{Pred, Eq, True, False}
use Rattle.clause_form.specs.declared.clause.Lit.{Lit}
use Rattle.clause_form.specs.declared.clause.Clause.{Clause}
use Rattle.clause_form.specs.ClauseView.{clause_of, stated, IsLoneFalsehood}
use Rattle.clause_form.specs.Covers.{in_lit}
use Rattle.clause_form.proofs.ViewLaws.{closed_view}
use Rattle.clause_rules.specs.Steps.{IsClauseAt}
use Rattle.unify_terms.specs.Substitution.{instance}
use Rattle.printed_clauses.specs.Renumbered.{renumbered, renumbered_clause}
use Rattle.printed_clauses.specs.Trimmed.{new_variables, occurs_in, trimmed}
use Rattle.printed_steps.specs.Printed.{IsPrintedAt, printed, printed_clause}

-- what becomes falsehood was falsehood
lit_before : (f : Term → Term) (g : Bool) (a : AtomOf) → in_lit f (record { positive = g; atom = a }) ≡ stated False → record { positive = g; atom = a } ≡ stated False
lit_before f g (Pred p ts) e = absurd (let atoms = ap (λ (l : Lit). l.atom) e in cc)
lit_before f g (Eq l r) e = absurd (let atoms = ap (λ (l : Lit). l.atom) e in cc)
lit_before f g True e = absurd (let atoms = ap (λ (l : Lit). l.atom) e in cc)
lit_before f g False e = let sign : g ≡ true = ap (λ (k : Lit). k.positive) e in ap (λ (b : Bool). record { positive = b; atom = False }) sign

lone_before : (f : Term → Term) (lits : List Lit) → map (in_lit f) lits ≡ stated False ∷ [] → lits ≡ stated False ∷ []
lone_before f [] e = cc
lone_before f (l ∷ []) e = let same : in_lit f l ≡ stated False = cc in ap (λ (k : Lit). k ∷ []) (lit_before f l.positive l.atom same)
lone_before f (l ∷ k ∷ lits) e = cc

pub trimmed_proper : (c : Clause) → (IsLoneFalsehood c → ⊥) → IsLoneFalsehood (trimmed c) → ⊥
trimmed_proper c proper e = proper (lone_before (instance (new_variables (occurs_in c.lits) (length c.sorts))) c.lits e)

module _ (number : ℕ → ℕ) where
  printed_proper : (c : Clause) → (IsLoneFalsehood c → ⊥) → IsLoneFalsehood (printed_clause number c) → ⊥
  printed_proper c proper = trimmed_proper (renumbered_clause number c) (λ e. proper (lone_before (renumbered number) c.lits e))

  pub line_clause : (c : Clause) → (IsLoneFalsehood c → ⊥) → clause_of (printed number c) ≡ Some (printed_clause number c)
  line_clause c proper = closed_view (printed_clause number c) (printed_proper c proper)

  pub clause_at : (parents : List Parent) (a : ℕ) (c : Clause) → (IsLoneFalsehood c → ⊥) → IsPrintedAt number parents a c → IsClauseAt parents a (printed_clause number c)
  clause_at [] a c proper e = cc
  clause_at (p ∷ parents) zero c proper e = let same : p.form ≡ printed number c = cc in ap (λ a. Some (clause_of a)) same ∙ ap Some (line_clause c proper)
  clause_at (p ∷ parents) (suc a) c proper e = clause_at parents a c proper e
