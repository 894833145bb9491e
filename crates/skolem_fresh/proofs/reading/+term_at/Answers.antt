use Rattle.skolem_fresh.proofs.LoopsRead.{nothing_in_variable, no_term_left}
use Rattle.skolem_fresh.proofs.reading.+term_at.Goals as goal

pub term_at-returns-in-Var-other : goal.term_at-returns-in-Var-other
term_at-returns-in-Var-other t c = nothing_in_variable c.args.number c.in-App.field-0 c.in-Var-other.field-0 c.in-App.args c.args.term.now c.args.other.now c.in-App.is c.in-Var-other.is

pub term_in-returns-then-i-others : goal.term_in-returns-then-i-others
term_in-returns-then-i-others t c = no_term_left c.args.number c.loop-i.i c.args.terms.now c.args.others.now c.if-i-others.true c.loop-i.invariant
