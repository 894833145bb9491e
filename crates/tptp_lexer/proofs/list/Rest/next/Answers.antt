use Rattle.tptp_lexer.proofs.Following.{next_within}
use Rattle.tptp_lexer.proofs.list.Rest.next.Goals as goal

pub token_at-token-requires : goal.token_at-token-requires
token_at-token-requires c = next_within c.self.inside.text.now c.self.inside.known c.self.inside.next c.in-Some.lexeme _ c.in-Some.is c.self.invariant.1
