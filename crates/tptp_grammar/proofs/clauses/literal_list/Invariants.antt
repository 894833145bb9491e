use Rattle.std.proofs.Common.{length}
use Rattle.first_fault.specs.code.Reading.{tail}
use Rattle.tptp_lexer.specs.declared.token.Mark.TheVariants as m
use Rattle.tptp_grammar.specs.code.ReadClauses as spec
use Rattle.tptp_grammar.proofs.Adding.{InFront}
use Rattle.tptp_grammar.proofs.clauses.literal_list.Given as goal

abbrev pub invariant-members : goal.invariant-members
invariant-members l = InFront m.Bar (spec.literal l.room) l.fn.first (tail l.fn.tokens) l.found l.tokens

abbrev pub decreases-members : goal.decreases-members
decreases-members l = length l.tokens
