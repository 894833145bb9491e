use Rattle.std.proofs.Common.{length, ◌-◌}
use Rattle.lexer_pieces.specs.Reached.{IsReached}
use Rattle.lexer_pieces.proofs.lexer.reach.Given as goal

abbrev pub invariant-loop-at : goal.invariant-loop-at
invariant-loop-at l = IsReached l.style l.text l.at

abbrev pub decreases-loop-at : goal.decreases-loop-at
decreases-loop-at l = length l.text - l.at
