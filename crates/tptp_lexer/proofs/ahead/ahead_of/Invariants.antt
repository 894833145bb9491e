use Rattle.std.proofs.Common.{◌≡◌, ◌-◌}
use Rattle.tptp_lexer.specs.Lexemes.{lexemes}
use Rattle.tptp_lexer.proofs.ahead.ahead_of.Given as goal

abbrev pub invariant-blanks : goal.invariant-blanks
invariant-blanks l = lexemes l.style l.text l.end l.from ≡ lexemes l.style l.text l.end l.at

abbrev pub decreases-blanks : goal.decreases-blanks
decreases-blanks l = l.end - l.at
