use Rattle.search_proofs.proofs.LastFacts.{ended_by_last}
use Rattle.search_proofs.proofs.refuting.push_last.Goals as goal

pub returns : goal.returns
returns c =
    ended_by_last c.args.signature.now c.args.start c.args.members.now c.args.numbers.now c.args.of_inputs.now c.as_slice.result.now c.args.empty.now c.args.proofs.now c.push_member.new.proofs c.push.new.self c.in_ok-last.last c.in_ok-falsehood.falsehood c.into_inner.result
    c.in_ok-last.ensures c.in_ok-falsehood.ensures c.as_slice.ensures c.into_inner.ensures c.in_ok-push.ensures.ok
