use Rattle.proof_log.proofs.Pieces.{quoted_written}
use Rattle.proof_log.proofs.line.put_quoted.Goals as goal

pub returns : goal.returns
returns c = quoted_written c.args.name.now c.loop-byte.byte-index _ _ _ _ c.loop-byte-test.false c.in_ok-put_word.ensures c.loop-byte.invariant c.in_ok-push.ensures.items
