use Rattle.std.proofs.Common.{[]}
use Rattle.skolem_fresh.proofs.WholeLines.{is_choice, told_from, told_by}
use Rattle.skolem_fresh.proofs.entries.choice_entries.Goals as goal

pub unreachable-requires : goal.unreachable-requires
unreachable-requires c = is_choice c.args.theory.now c.args.line.now c.args.just.now c.requires.shows c.in_default.not-Choice

pub tell-requires : goal.tell-requires
tell-requires c = (c.args.theory.now, [], told_from c.args.theory.now c.args.line.now c.args.just.now c.in-Choice.uses c.as_slice.result.now c.in-Choice.is c.as_slice.ensures c.requires.ready c.requires.shows)

pub returns : goal.returns
returns c = λ cites.
    told_by c.args.theory.now cites c.args.line.now c.as_slice.result.now (told_from c.args.theory.now c.args.line.now c.args.just.now c.in-Choice.uses c.as_slice.result.now c.in-Choice.is c.as_slice.ensures c.requires.ready c.requires.shows)
    c.len.result c.len.ensures c.new-entries.result c.tell.new.entries c.new-entries.ensures c.in_ok-proof.proof c.in_ok-proof.ensures c.into_inner.result c.into_inner.ensures c.push.new.self c.in_ok-push.ensures.ok
