use Rattle.std.proofs.Common.{sym, ◌∙◌}
use Rattle.fi_model.specs.Tables.{interpretation}
use Rattle.tptp_commands.proofs.Models.{none_is_false, this_is_false, this_is_true}
use Rattle.tptp_commands.proofs.modelled.first_false.Goals as goal

pub returns-then-not-holds : goal.returns-then-not-holds
returns-then-not-holds c =
    this_is_false (interpretation c.args.model.now) c.args.given.now c.loop-entry.entry-index c.loop-entry.invariant c.entry-item.result c.loop-entry-test.true c.entry-item.is (sym c.holds.ensures ∙ c.if-not-holds.true)

pub loop-entry-preserved : goal.loop-entry-preserved
loop-entry-preserved c =
    this_is_true (interpretation c.args.model.now) c.args.given.now c.loop-entry.entry-index c.loop-entry.invariant c.entry-item.result c.loop-entry-test.true c.entry-item.is (sym c.holds.ensures ∙ c.if-not-holds.false)

pub returns : goal.returns
returns c = none_is_false (interpretation c.args.model.now) c.args.given.now c.loop-entry.entry-index c.loop-entry.invariant c.loop-entry-test.false
