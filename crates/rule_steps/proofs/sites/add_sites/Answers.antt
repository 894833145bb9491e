use Rattle.std.proofs.Common.{refl}
use Rattle.clause_form.specs.declared.clause.Lit.{Lit}
use Rattle.rule_steps.specs.code.ParamodulationSearch.{sites_of_places}
use Rattle.clause_rules.specs.PlaceSearch.{places_of}
use Rattle.rule_steps.proofs.Indexed.{indexed_more}
use Rattle.rule_steps.proofs.sites.add_sites.Goals as goal

pub loop-at-preserved : goal.loop-at-preserved
loop-at-preserved c =
    indexed_more (λ i (k : Lit). sites_of_places c.args.clause i (places_of k)) c.args.lits.now c.loop-at.at c.loop-at.at c.index-lits-at.result c.args.sites.now c.loop-at.sites c.add_places.new.sites c.loop-at-test.true c.index-lits-at.is refl c.loop-at.invariant c.in_ok-add_places.ensures
