use Rattle.std.proofs.Common.{take}
use Rattle.std.specs.List.{list_any}
use Rattle.fof_terms.specs.Occurs.{occurs_in}
use Rattle.proof_check.specs.code.Marking.{Marks}
use Rattle.proof_check.proofs.marks.+mark_form.Given as goal

abbrev pub invariant-mark_forms-loop-form : goal.invariant-mark_forms-loop-form
invariant-mark_forms-loop-form l = Marks (λ k. list_any (occurs_in k) (take l.form-index l.forms)) l.fn.marks l.marks
