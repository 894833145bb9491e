use Rattle.std.proofs.Common.{◌≡◌, false, drop}
use Rattle.tptp_lexer.specs.Scan.{quote_end}
use Rattle.tptp_lexer.proofs.quotes.quote_end.Given as goal

abbrev pub invariant-loop-at : goal.invariant-loop-at
invariant-loop-at l = quote_end l.quote l.escaped l.at (drop l.at l.text) ≡ quote_end l.quote false 0 l.text
