-- Clauses as facts: not all of the literals of a clause are false.
use Rattle.std.specs.Prelude.{◌≡◌, List, [], map, Some, slice_get}
use Rattle.fof_terms.specs.Sorts.{Sorted}
use Rattle.fof_terms.specs.declared.form.Form.{Form, Not, And}
use Rattle.clause_form.specs.declared.clause.Lit.{Lit}
use Rattle.clause_form.specs.ClauseView.{form_of_lit}
use Rattle.kernel.specs.Statements.{Statements}
use Rattle.sat_step.specs.Decisions.{opposite}
use Rattle.chain_proofs.specs.declared.fact.Fact.{Fact}

-- the literal is false
abbrev pub denied_form : Lit → Form
denied_form l = form_of_lit (opposite l)

-- all of the literals are false
abbrev pub all_false : List Lit → Form
all_false lits = And (map denied_form lits)

abbrev pub not_all_false : List Lit → Form
not_all_false lits = Not (all_false lits)

-- the fact is the theory's formula of its number
pub record Holds (t : Statements) (f : Fact) : Type 0 where
  pub sorted : Sorted t.vocabulary [] (not_all_false f.lits)
  pub there : slice_get t.formulas f.number ≡ Some (not_all_false f.lits)
