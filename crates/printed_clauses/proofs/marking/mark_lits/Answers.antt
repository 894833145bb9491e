use Rattle.clause_form.specs.declared.clause.Lit.{Lit}
use Rattle.std.proofs.Common.{refl}
use Rattle.printed_clauses.specs.Trimmed.{has_in_atom}
use Rattle.printed_clauses.proofs.MarkingFacts.{marks_first, marks_more, marks_whole}
use Rattle.printed_clauses.proofs.marking.mark_lits.Goals as goal

pub loop-lit-init : goal.loop-lit-init
loop-lit-init c = marks_first (λ k (x : Lit). has_in_atom k x.atom) c.args.lits.now c.args.marks.now c.args.marks.now refl

pub loop-lit-preserved : goal.loop-lit-preserved
loop-lit-preserved c =
    marks_more (λ k (x : Lit). has_in_atom k x.atom) c.args.lits.now c.loop-lit.lit-index c.lit-item.result c.args.marks.now c.loop-lit.marks c.mark_atom.new.marks c.loop-lit-test.true c.lit-item.is c.loop-lit.invariant c.mark_atom.ensures

pub returns : goal.returns
returns c = marks_whole (λ k (x : Lit). has_in_atom k x.atom) c.args.lits.now c.loop-lit.lit-index c.args.marks.now c.loop-lit.marks c.loop-lit-test.false c.loop-lit.invariant
