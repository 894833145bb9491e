use Rattle.flat_form.proofs.PullSteps.{start_places, start_body}
use Rattle.flat_form.proofs.pulling.pull.Goals as goal

pub pull_in-requires : goal.pull_in-requires
pull_in-requires c =
    start_places c.args.form.now c.requires.size c.count-total.result c.new-places.result c.new-sorts.result c.count-total.ensures c.new-places.ensures c.new-sorts.ensures c.requires.room

pub returns-clause-body : goal.returns-clause-body
returns-clause-body c =
    start_body c.args.form.now c.requires.size c.count-total.result c.new-places.result c.new-sorts.result c.in_ok-body.body c.count-total.ensures c.new-places.ensures c.new-sorts.ensures c.in_ok-body.ensures.body
