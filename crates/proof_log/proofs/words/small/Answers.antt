use Rattle.std.proofs.Common.{arith, ◌≤◌, lit<, lit≤}
use Rattle.proof_log.proofs.NumberReader.{number_most}
use Rattle.proof_log.proofs.words.small.Goals as goal

pub overflow_cast-result : goal.overflow_cast-result
overflow_cast-result c =
    let most : c.in_ok-number.number ≤ 4294967295 = number_most 4294967295 (lit< tt) (lit≤ tt) c.args.text.now c.number.new.text c.in_ok-number.number c.in_ok-number.ensures in
    omega arith
