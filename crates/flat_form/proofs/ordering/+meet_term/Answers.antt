use Rattle.flat_form.specs.Variables.{variables_of_term}
use Rattle.flat_form.proofs.Order.{met_more}
use Rattle.flat_form.proofs.ordering.+meet_term.Goals as goal

pub meet_terms-loop-term-preserved : goal.meet_terms-loop-term-preserved
meet_terms-loop-term-preserved t c =
    met_more c.args.count (variables_of_term c.args.depth) c.args.terms.now c.loop-term.term-index c.term-item.result c.args.met.now.keys c.loop-term.met.keys c.meet_term.new.met.keys c.loop-term-test.true c.term-item.is c.loop-term.invariant
    c.in_ok-meet_term.ensures
