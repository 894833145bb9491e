use Rattle.std.proofs.Common.{◌≡◌, take, map}
use Rattle.clause_form.specs.ClauseView.{form_of_lit}
use Rattle.clause_proofs.proofs.covering.forms_of_lits.Given as goal

abbrev pub invariant-loop-lit : goal.invariant-loop-lit
invariant-loop-lit l = l.forms ≡ map form_of_lit (take l.lit-index l.lits)
