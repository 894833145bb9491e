use Rattle.tptp_lexer.proofs.Following.{next_within}
use Rattle.tptp_lexer.proofs.list.Rest.take_through_dot.Goals as goal

pub take_item-requires-clause-first : goal.take_item-requires-clause-first
take_item-requires-clause-first c = next_within c.self.inside.text.now c.self.inside.known c.self.inside.next c.in-Some.first _ c.in-Some.is c.self.invariant.1
