use Rattle.std.proofs.Common.{sym, ◌∙◌}
use Rattle.skolem_fresh.specs.code.Reading.{variable_of}
use Rattle.clause_form.proofs.Views.{more_there, not_all_there}
use Rattle.skolem_fresh.proofs.reading.variables_of.Goals as goal

pub returns-in-None : goal.returns-in-None
returns-in-None c =
    sym (not_all_there (variable_of c.args.depth) c.args.terms.now c.loop-term.term-index c.term-item.result c.loop-term-test.true c.term-item.is (sym c.variable_of.ensures ∙ c.in-None.is))

pub loop-term-preserved : goal.loop-term-preserved
loop-term-preserved c =
    rw c.in_ok-push-in-Some.ensures.ok
    (more_there (variable_of c.args.depth) c.args.terms.now c.loop-term.term-index c.term-item.result c.in-Some.variable c.loop-term.variables c.loop-term-test.true c.term-item.is (sym c.variable_of.ensures ∙ c.in-Some.is) c.loop-term.invariant)
