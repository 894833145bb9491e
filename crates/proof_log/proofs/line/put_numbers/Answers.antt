use Rattle.std.proofs.Common.{[], ◌∷◌}
use Rattle.proof_log.specs.Words.{small}
use Rattle.proof_log.proofs.Ranges.{list_in_range}
use Rattle.proof_log.proofs.Pieces.{list_written}
use Rattle.proof_log.specs.LogText.{number}
use Rattle.proof_log.proofs.line.put_numbers.Goals as goal

pub returns-clause-text : goal.returns-clause-text
returns-clause-text c = list_written number c.args.numbers.now c.loop-number.number-index _ _ _ c.loop-number-test.false c.in_ok-put_number.ensures.text c.loop-number.invariant.written

pub returns-clause-in_range : goal.returns-clause-in_range
returns-clause-in_range c = list_in_range (λ n. small n ∷ []) c.args.numbers.now c.loop-number.number-index c.loop-number-test.false c.in_ok-put_number.ensures.large c.loop-number.invariant.in_range
