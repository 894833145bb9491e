-- What the parser's functions for typed clauses compute. The number is the nesting that is left.
use Rattle.std.specs.Prelude.{ℕ, zero, suc, true, Option, Some, Err}
use Rattle.first_fault.specs.code.Reading.{TooDeep, Reader, next, tail}
use Rattle.tptp_lexer.specs.declared.token.Token.{Token}
use Rattle.tptp_lexer.specs.declared.token.Token.TheVariants.{Mark as Sign}
use Rattle.tptp_base.specs.declared.surface.Surface.{Surface}
use Rattle.tptp_grammar.specs.code.ReadFormulas.{Deeper, quantified}
use Rattle.tptp_grammar.specs.code.ReadClauses.{clause}
use Rattle.tptp_lexer.specs.declared.token.Mark.TheVariants as m
use Rattle.tptp_base.specs.declared.surface.Quant.TheVariants as q

abbrev pub typed_clause_at : ℕ → Deeper → Option Token → Reader Token Surface
typed_clause_at room deeper (Some (Sign m.Bang)) ts = quantified true room deeper q.All (tail ts)
typed_clause_at room deeper _ ts = clause room ts

unfoldable pub typed_clause_by : ℕ → Deeper → Reader Token Surface
typed_clause_by room deeper ts = typed_clause_at room deeper (next ts) ts

unfoldable pub deeper_clause : ℕ → Deeper
deeper_clause zero levels at ts = Err (TooDeep, at)
deeper_clause (suc room) zero at ts = typed_clause_by room (deeper_clause room) ts
deeper_clause (suc room) (suc levels) at ts = deeper_clause room levels at ts

unfoldable pub typed_clause : ℕ → Reader Token Surface
typed_clause room = typed_clause_by room (deeper_clause room)
