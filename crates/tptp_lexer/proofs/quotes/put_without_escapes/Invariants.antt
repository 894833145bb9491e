use Rattle.std.proofs.Common.{◌≡◌, ◌++◌, drop}
use Rattle.tptp_lexer.specs.Lexemes.{unescaped, unescaped_from}
use Rattle.tptp_lexer.proofs.quotes.put_without_escapes.Given as goal

abbrev pub invariant-loop-byte : goal.invariant-loop-byte
invariant-loop-byte l = l.chars.items ++ unescaped_from l.escaped (drop l.byte-index l.text) ≡ l.initial.chars.items ++ unescaped l.text
