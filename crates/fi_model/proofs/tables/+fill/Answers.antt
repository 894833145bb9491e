use Rattle.fi_model.specs.code.Adding.{told}
use Rattle.fi_model.proofs.FillFacts.{fill_next, fill_lacks, key_again}
use Rattle.fi_model.proofs.IndexFacts.{of_true}
use Rattle.fi_model.proofs.tables.+fill.Goals as goal

pub returns-then-not-branch-clause-adds : goal.returns-then-not-branch-clause-adds
returns-then-not-branch-clause-adds t c =
    fill_lacks (told c.args.index.now) c.args.sizes.now c.in-Some.rest.now c.args.key.now.items c.loop-element.key.items c.push.new.self.items c.in-Some.size.now c.loop-element.element c.args.values.now c.loop-element.values c.fill.new.values
    c.in_ok-fill.field-0 c.in-Some.ensures.cases.0 c.loop-element-test.true c.if-not-branch.true c.loop-element.invariant.key c.in_ok-push.ensures.items c.in_ok-fill.ensures.adds

pub loop-element-preserved : goal.loop-element-preserved
loop-element-preserved t c = record {
  key =
      key_again c.args.key.now.items c.loop-element.key.items c.push.new.self.items c.fill.new.key.items c.pop.new.self.items c.loop-element.element c.pop.result c.fill.new.key.len c.loop-element.invariant.key c.in_ok-push.ensures.items
      (of_true c.in_ok-fill.field-0 c.if-not-branch.false c.in_ok-fill.ensures.key) c.pop.ensures.items c.fill.new.key.ok.0 c.pop.ensures.variant.1;
  filling =
      fill_next (told c.args.index.now) c.in-Some.rest.now c.args.key.now.items c.loop-element.key.items c.push.new.self.items c.loop-element.element c.args.values.now c.loop-element.values c.fill.new.values c.in_ok-fill.field-0
      c.loop-element.invariant.filling c.if-not-branch.false c.loop-element.invariant.key c.in_ok-push.ensures.items c.in_ok-fill.ensures.adds;
}
