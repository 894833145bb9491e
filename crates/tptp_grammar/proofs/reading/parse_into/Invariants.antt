use Rattle.std.proofs.Common.{length}
use Rattle.tptp_grammar.proofs.Taking.{Taken}
use Rattle.tptp_grammar.proofs.reading.parse_into.Given as goal

abbrev pub invariant-tokens : goal.invariant-tokens
invariant-tokens g l = Taken g.T.Taker.parts (g.T.Taker.kept l.initial.into) (g.T.Taker.kept l.into) l.tokens.style l.tokens.items l.rest

abbrev pub decreases-tokens : goal.decreases-tokens
decreases-tokens g l = length l.rest
