use Rattle.std.proofs.Common.{◌-◌}
use Rattle.tptp_lexer.proofs.Stepping.{HasReached}
use Rattle.tptp_lexer.proofs.lexer.tokens.Given as goal

abbrev pub invariant-loop-at : goal.invariant-loop-at
invariant-loop-at l = HasReached l.file l.text l.region l.style l.at

abbrev pub decreases-loop-at : goal.decreases-loop-at
decreases-loop-at l = l.region.end - l.at
