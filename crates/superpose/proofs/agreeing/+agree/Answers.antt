use Rattle.std.proofs.Common.{◌∙◌, sym, ap, arith}
use Rattle.std.proofs.lemmas.Bool.{eq-eqb}
use Rattle.fof_terms.specs.declared.term.Term.{App}
use Rattle.clause_rules.proofs.Firsts.{there_at}
use Rattle.superpose.proofs.Agreed.{met_args, met_at}
use Rattle.superpose.proofs.agreeing.+agree.Goals as goal

pub may_meet-returns-then-symbol-other : goal.may_meet-returns-then-symbol-other
may_meet-returns-then-symbol-other t c = λ no s r e.
    c.may_all_meet.ensures no s r
    (met_args s r c.args.left.now c.args.right.now c.in-App.symbol c.in-App-right.other c.as_slice.result.now c.as_slice-then-symbol-other.result.now
    (c.in-App.is ∙ ap (App c.in-App.symbol) (sym c.as_slice.ensures)) (c.in-App-right.is ∙ ap (App c.in-App-right.other) (sym c.as_slice-then-symbol-other.ensures)) e).1

pub may_meet-returns-else-symbol-other : goal.may_meet-returns-else-symbol-other
may_meet-returns-else-symbol-other t c = λ no s r e.
    let same = (met_args s r c.args.left.now c.args.right.now c.in-App.symbol c.in-App-right.other c.in-App.args c.in-App-right.others c.in-App.is c.in-App-right.is e).0 in
    let yes = eq-eqb c.in-App.symbol c.in-App-right.other same in
    cc

pub may_all_meet-returns-then-not-may_meet : goal.may_all_meet-returns-then-not-may_meet
may_all_meet-returns-then-not-may_meet t c = λ _ s r e.
    c.may_meet.ensures c.if-not-may_meet.true s r
    (met_at s r c.args.lefts.now c.args.rights.now c.loop-i.i c.index-lefts-i.result c.index-rights-i.result
    (there_at c.args.lefts.now c.loop-i.i c.index-lefts-i.result (omega arith) c.index-lefts-i.is)
    (there_at c.args.rights.now c.loop-i.i c.index-rights-i.result (omega arith) c.index-rights-i.is) e)
