use Rattle.std.proofs.Common.{refl}
use Rattle.clause_form.specs.declared.clause.Lit.{Lit}
use Rattle.rule_steps.specs.code.ParamodulationSearch.{readings_of_atom}
use Rattle.rule_steps.proofs.Indexed.{indexed_more}
use Rattle.rule_steps.proofs.sites.add_readings.Goals as goal

pub loop-at-preserved : goal.loop-at-preserved
loop-at-preserved c =
    indexed_more (λ j (k : Lit). readings_of_atom c.args.clause j k.positive k.atom) c.args.lits.now c.loop-at.at c.loop-at.at c.index-lits-at.result c.args.readings.now c.loop-at.readings c.add_reading.new.readings c.loop-at-test.true c.index-lits-at.is refl c.loop-at.invariant c.in_ok-add_reading.ensures
