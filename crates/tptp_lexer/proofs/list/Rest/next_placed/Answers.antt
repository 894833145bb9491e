use Rattle.std.proofs.Common.{arith}
use Rattle.tptp_lexer.proofs.Following.{next_within}
use Rattle.tptp_lexer.proofs.list.Rest.next_placed.Goals as goal

pub token_at-token-requires : goal.token_at-token-requires
token_at-token-requires c = next_within c.self.inside.text.now c.self.inside.known c.self.inside.next c.in-Some.lexeme _ c.in-Some.is c.self.invariant.1

pub place_behind-place-requires-clause-within : goal.place_behind-place-requires-clause-within
place_behind-place-requires-clause-within c = let within = next_within c.self.inside.text.now c.self.inside.known c.self.inside.next c.in-Some.lexeme _ c.in-Some.is c.self.invariant.1 in omega (arith, within)
