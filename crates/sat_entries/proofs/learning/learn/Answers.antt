use Rattle.std.proofs.Common.{List, sym, subst, ◌∙◌}
use Rattle.chain_proofs.specs.Chains.{Derives}
use Rattle.chain_proofs.specs.declared.fact.Fact.{Fact}
use Rattle.sat_entries.specs.code.Learning.{IsShown}
use Rattle.sat_entries.proofs.LogFacts.{all_learned, learned_more, may_show, none_learned}
use Rattle.sat_entries.proofs.learning.learn.Goals as goal

pub loop-learned-init : goal.loop-learned-init
loop-learned-init c = none_learned c.args.start c.args.log.now c.args.facts.now c.args.proofs.now

pub show-requires : goal.show-requires
show-requires c =
    subst (λ (fs : List Fact). Derives fs c.in_ok-from.from c.as_slice-lits.result.now) (sym c.as_slice-in-loop-learned.ensures)
    (may_show c.args.start c.args.log.now c.loop-learned.learned-index c.args.facts.now c.loop-learned.facts c.args.proofs.now c.loop-learned.proofs c.loop-learned.invariant c.requires c.learned-item.result c.loop-learned-test.true c.learned-item.is c.in_ok-from.from
    (c.in_ok-from.ensures ∙ c.as_slice.ensures) c.as_slice-lits.result.now c.as_slice-lits.ensures)

pub loop-learned-preserved : goal.loop-learned-preserved
loop-learned-preserved c =
    let shown =
    subst (λ (fs : List Fact). IsShown c.args.start fs c.in_ok-from.from c.as_slice-lits.result.now c.loop-learned.proofs c.show.new.proofs c.in_ok-fact.fact) c.as_slice-in-loop-learned.ensures c.in_ok-fact.ensures in
    learned_more c.args.start c.args.log.now c.loop-learned.learned-index c.args.facts.now c.loop-learned.facts c.args.proofs.now c.loop-learned.proofs c.loop-learned.invariant c.requires c.learned-item.result c.loop-learned-test.true c.learned-item.is c.in_ok-from.from
    (c.in_ok-from.ensures ∙ c.as_slice.ensures) c.as_slice-lits.result.now c.as_slice-lits.ensures c.in_ok-fact.fact c.push.new.self c.show.new.proofs shown c.in_ok-push.ensures.ok

pub returns : goal.returns
returns c =
    all_learned c.args.start c.args.log.now c.loop-learned.learned-index c.args.facts.now c.loop-learned.facts c.args.proofs.now c.loop-learned.proofs c.loop-learned.invariant c.loop-learned-test.false c.loop-learned.auto.learned-index-end
