use Rattle.std.proofs.Common.{[], refl}
use Rattle.rule_steps.specs.code.ParamodulationSearch.{sites_of_slot}
use Rattle.rule_steps.proofs.Indexed.{indexed_more}
use Rattle.rule_steps.proofs.sites.sites_of.Goals as goal

pub loop-at-preserved : goal.loop-at-preserved
loop-at-preserved c = indexed_more sites_of_slot c.args.clauses.now c.loop-at.at c.loop-at.at c.index-clauses-at.result [] c.loop-at.sites c.add_slot.new.sites c.loop-at-test.true c.index-clauses-at.is refl c.loop-at.invariant c.in_ok-add_slot.ensures
