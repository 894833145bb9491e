use Rattle.std.proofs.Common.{take}
use Rattle.fof_terms.specs.Scope.{scope_sorts}
use Rattle.clause_form.specs.ClauseView.{form_of_lit}
use Rattle.clause_proofs.specs.code.Refuting.{AllRefute}
use Rattle.clause_proofs.specs.Refuting.{body}
use Rattle.clause_proofs.proofs.refuting.all_settled.Given as goal

abbrev pub invariant-loop-lit : goal.invariant-loop-lit
invariant-loop-lit l = AllRefute l.signature (scope_sorts l.scope) (body l.line) (form_of_lit l.other) (take l.lit-index l.lits) l.arms
