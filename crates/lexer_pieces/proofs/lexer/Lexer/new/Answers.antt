use Rattle.std.specs.Prelude.{length}
use Rattle.std.proofs.Common.{ap, sym, subst, arith}
use Rattle.lexer_pieces.specs.Reached.{IsReached}
use Rattle.lexer_pieces.proofs.Reaching.{nothing_reached}
use Rattle.lexer_pieces.proofs.lexer.Lexer.new.Goals as goal

pub invariant_of-result : goal.invariant_of-result
invariant_of-result c = (subst (λ z. IsReached c.args.style z 0) (sym c.new.ensures.items) (nothing_reached c.args.style), λ none. omega (arith, ap length c.new.ensures.items))
