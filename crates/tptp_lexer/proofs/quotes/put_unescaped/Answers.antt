use Rattle.std.proofs.Common.{◌++◌, ap, sym, ◌∙◌, arith}
use Rattle.tptp_lexer.proofs.QuoteEnds.{plain_unescaped}
use Rattle.tptp_lexer.proofs.quotes.put_unescaped.Goals as goal

pub returns-in_ok-extend_from_slice-in-None : goal.returns-in_ok-extend_from_slice-in-None
returns-in_ok-extend_from_slice-in-None c = c.in_ok-extend_from_slice-in-None.ensures.items ∙ ap (λ z. c.args.chars.now.items ++ z) (sym (plain_unescaped c.args.text.now (λ j lt. c.in-None.ensures j (omega arith) lt)))
