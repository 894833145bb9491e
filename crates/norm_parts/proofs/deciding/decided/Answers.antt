use Rattle.norm_parts.proofs.DecidedParts.{shown_next, shown_last, not_decided, found_at}
use Rattle.clause_rules.proofs.Firsts.{there_at}
use Rattle.norm_parts.proofs.deciding.decided.Goals as goal

pub shown-requires-clause-part : goal.shown-requires-clause-part
shown-requires-clause-part c = c.requires.members c.loop-at.at c.index-members-at.result (there_at c.args.members.now c.loop-at.at c.index-members-at.result c.loop-at-test.true c.index-members-at.is)

pub returns-in_default : goal.returns-in_default
returns-in_default c =
    not_decided c.args.signature.now c.args.parents.now c.args.members.now c.loop-at.at c.index-members-at.result c.in_ok-found.field-0 c.loop-at-test.true c.index-members-at.is c.in_default.is c.in_ok-found.ensures

pub loop-at-preserved : goal.loop-at-preserved
loop-at-preserved c =
    shown_next c.args.signature.now c.args.parents.now c.args.members.now c.loop-at.at c.index-members-at.result c.loop-at.justs c.push.new.self c.in-Some.found.just c.loop-at-test.true c.index-members-at.is c.loop-at.invariant
    (found_at c.args.signature.now c.args.parents.now c.index-members-at.result c.in_ok-found.field-0 c.in-Some.found c.in-Some.is c.in_ok-found.ensures) c.in_ok-push.ensures.ok

pub returns : goal.returns
returns c = shown_last c.args.signature.now c.args.parents.now c.args.members.now c.loop-at.at c.loop-at.justs c.loop-at-test.false c.loop-at.invariant
