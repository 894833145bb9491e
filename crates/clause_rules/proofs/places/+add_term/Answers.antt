use Rattle.std.proofs.Common.{◌∙◌, refl}
use Rattle.clause_rules.proofs.PlaceCode.{listed_more, added}
use Rattle.clause_rules.proofs.places.+add_term.Goals as goal

pub add_all-loop-at-preserved : goal.add_all-loop-at-preserved
add_all-loop-at-preserved t c =
    listed_more c.args.terms.now c.loop-at.at c.loop-at.at c.args.places.now c.args.steps.now c.loop-at.places c.loop-at.steps c.index-terms-at.result c.add_at.new.places c.add_at.new.steps c.loop-at-test.true c.index-terms-at.is refl c.loop-at.invariant c.in_ok-add_at.ensures

pub add_term-returns-in-App : goal.add_term-returns-in-App
add_term-returns-in-App t c =
    added c.add_all.result c.args.places.now c.push.new.self c.args.steps.now c.args.term.now c.in-App.field-0 c.in-App.args c.as_slice-in-App.result.now c.add_all.new.places c.add_all.new.steps c.in_ok-from_slice.field-0 c.in-App.is c.as_slice-in-App.ensures (c.in_ok-from_slice.ensures ∙ c.as_slice.ensures) c.in_ok-push.ensures.ok c.add_all.ensures
