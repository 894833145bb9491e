use Rattle.std.proofs.Common.{ℕ, ◌+◌, List, take, get_or, sym, ap, subst, ◌∙◌}
use Rattle.std.proofs.lemmas.Bool.{false≢true}
use Rattle.clause_learning.specs.declared.literal.Literal.{Literal}
use Rattle.clause_learning.specs.code.Trails.{value_at}
use Rattle.clause_learning.specs.code.Marked.{mark_at}
use Rattle.clause_learning.proofs.Marking.{IsCollecting, collecting_over, collecting_more, not_failing_free, read_again}
use Rattle.clause_learning.proofs.analysis.collect.Goals.{then-has+in-Some+in_ok-push-2, then-has+in_default, else-has}
use Rattle.clause_learning.proofs.analysis.collect.Goals as goal

pub loop-atom-preserved : goal.loop-atom-preserved
loop-atom-preserved c =
    let values = c.args.trail.now.values in
    let m = c.args.marks.now in
    let atoms = c.as_slice-touched.result.now in
    let i = c.loop-atom.atom-index in
    let lt = c.loop-atom-test.true in
    let a : ℕ = get_or atoms i 0 in
    let is = read_again atoms i 0 lt in
    let P : List Literal → Type 0 = λ ls. IsCollecting c.args.asserted values m (take (i + 1) atoms) ls in
    elim c.if-has.branch [
      | then-has+in-Some+in_ok-push-2 w ↦
          subst P (sym (w.lits-is ∙ w.in_ok-push-2.ensures.ok)) (collecting_more c.args.asserted values m atoms i a lt is c.loop-atom.lits c.loop-atom.invariant w.in-Some.value (sym c.has.ensures ∙ w.if-has.true) (sym w.value.ensures ∙ w.in-Some.is))
      | then-has+in_default w ↦
          subst P (sym w.lits-is) (collecting_over c.args.asserted values m atoms i a lt is c.loop-atom.lits c.loop-atom.invariant
          (λ x e marked f. not_failing_free values x (ap (value_at values) e ∙ sym w.value.ensures ∙ w.in_default.is) f))
      | else-has w ↦
          subst P (sym w.lits-is) (collecting_over c.args.asserted values m atoms i a lt is c.loop-atom.lits c.loop-atom.invariant
          (λ x e marked f. false≢true (sym (sym c.has.ensures ∙ w.if-has.false) ∙ ap (mark_at m) (sym e) ∙ marked)))
    ]
