use Rattle.std.proofs.Common.{◌-◌, List}
use Rattle.tptp_lexer.specs.declared.lexeme.Lexeme.{Lexeme}
use Rattle.tptp_lexer.specs.declared.token.Token.{Token}
use Rattle.tptp_lexer.specs.Lexemes.{lexemes}
use Rattle.tptp_lexer.specs.code.Gathered.{Gathered}
use Rattle.tptp_lexer.proofs.through.take_others.Given as goal

-- What is gathered from here on is gathered from the first offset on.
abbrev pub invariant-tokens : goal.invariant-tokens
invariant-tokens l = (left : List Lexeme) (after : List Token) → Gathered l.words l.text (lexemes l.style l.text l.end l.at) left l.tokens.items after
    → Gathered l.words l.text (lexemes l.style l.text l.end l.from) left l.initial.tokens.items after

abbrev pub decreases-tokens : goal.decreases-tokens
decreases-tokens l = l.end - l.at
