use Rattle.refutation_lines.specs.Plans.{Refutation, refutation}
use Rattle.refutation_lines.proofs.PlanFacts.{used_count, used_parts_count, printed_count, needed_count, plan_roomy, derivation_is}
use Rattle.refutation_lines.proofs.derivation.derivation_of.Goals as goal

pub needed_members-requires : goal.needed_members-requires
needed_members-requires c = (c.requires.made.0, c.args.inputs.now, c.requires.made.1, c.requires.made.2)

pub functions_in-requires : goal.functions_in-requires
functions_in-requires c =
    let r : Refutation = refutation c.args.given.now c.args.first c.args.inputs.now c.args.members.now c.args.last.now in
    used_parts_count r c.in_ok-needed.needed c.in_ok-plan.plan c.in_ok-plan.ensures

pub lines_of-requires-clause-used : goal.lines_of-requires-clause-used
lines_of-requires-clause-used c =
    let r : Refutation = refutation c.args.given.now c.args.first c.args.inputs.now c.args.members.now c.args.last.now in
    used_count r c.in_ok-needed.needed c.in_ok-plan.plan c.in_ok-plan.ensures

pub lines_of-requires-clause-parts : goal.lines_of-requires-clause-parts
lines_of-requires-clause-parts c =
    let r : Refutation = refutation c.args.given.now c.args.first c.args.inputs.now c.args.members.now c.args.last.now in
    used_parts_count r c.in_ok-needed.needed c.in_ok-plan.plan c.in_ok-plan.ensures

pub lines_of-requires-clause-printed : goal.lines_of-requires-clause-printed
lines_of-requires-clause-printed c =
    let r : Refutation = refutation c.args.given.now c.args.first c.args.inputs.now c.args.members.now c.args.last.now in
    printed_count r c.in_ok-needed.needed c.in_ok-plan.plan c.in_ok-plan.ensures

pub lines_of-requires-clause-needed : goal.lines_of-requires-clause-needed
lines_of-requires-clause-needed c =
    let r : Refutation = refutation c.args.given.now c.args.first c.args.inputs.now c.args.members.now c.args.last.now in
    needed_count r c.in_ok-needed.needed c.in_ok-plan.plan c.in_ok-plan.ensures c.in_ok-needed.ensures.count

pub lines_of-requires-clause-roomy : goal.lines_of-requires-clause-roomy
lines_of-requires-clause-roomy c =
    let r : Refutation = refutation c.args.given.now c.args.first c.args.inputs.now c.args.members.now c.args.last.now in
    plan_roomy r c.in_ok-needed.needed c.in_ok-plan.plan c.in_ok-plan.ensures c.requires.depth c.requires.room

pub returns : goal.returns
returns c =
    let r : Refutation = refutation c.args.given.now c.args.first c.args.inputs.now c.args.members.now c.args.last.now in
    derivation_is r c.in_ok-needed.needed c.in_ok-plan.plan c.in_ok-plan.ensures c.args.prefix.now c.in_ok-functions.functions c.in_ok-lines.lines c.in_ok-needed.ensures c.in_ok-functions.ensures c.in_ok-lines.ensures
