use Rattle.std.proofs.Common.{arith}
use Rattle.verifier.proofs.LineAnswers.{can_admit, took_some}
use Rattle.verifier.proofs.line.take_answer.Goals as goal

pub add_entries-requires : goal.add_entries-requires
add_entries-requires g c =
    rw c.as_slice.ensures (can_admit c.args.theory.now c.args.answer c.in-Accepted.rule c.in-Accepted.cites c.in-Accepted.entries c.in-Accepted.is c.requires.adds)

pub overflow_sub-len : goal.overflow_sub-len
overflow_sub-len g c =
    omega (arith, c.len.ensures, took_some c.args.theory.now c.add_entries.new.theory c.args.answer c.in-Accepted.rule c.in-Accepted.cites c.in-Accepted.entries c.in-Accepted.is c.requires.adds (rw c.as_slice.ensures at c.in_ok-add_entries-in-Accepted.ensures.admits))
