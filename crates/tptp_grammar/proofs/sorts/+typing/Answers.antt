use Rattle.std.proofs.Common.{arith, ◌-◌}
use Rattle.first_fault.specs.code.Reading.{tail, closed}
use Rattle.tptp_lexer.specs.declared.token.Mark.TheVariants as m
use Rattle.tptp_grammar.specs.code.ReadTerms.{is_mark}
use Rattle.tptp_grammar.specs.code.ReadTypes as spec
use Rattle.tptp_grammar.proofs.Nests.{reads_again, typing_some}
use Rattle.tptp_grammar.proofs.sorts.+typing.Goals as goal

pub typing_open-returns : goal.typing_open-returns
typing_open-returns t c =
    reads_again c.skip.new.self (tail c.args.tokens.now) c.skip.ensures (closed (is_mark m.Close) (spec.typing (c.args.room - 1))) _ c.closed_typing.result c.closed_typing.new.tokens (typing_some c.args.room c.args.tokens.now (omega arith)) c.closed_typing.ensures
