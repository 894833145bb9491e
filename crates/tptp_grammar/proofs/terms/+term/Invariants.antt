use Rattle.std.proofs.Common.{◌≡◌, ◌+◌, ◌*◌, length}
use Rattle.first_fault.specs.code.Reading.{separated}
use Rattle.first_fault.proofs.Loops.{members}
use Rattle.tptp_lexer.specs.declared.token.Mark.TheVariants as m
use Rattle.tptp_grammar.specs.code.ReadTerms as spec
use Rattle.tptp_grammar.proofs.terms.+term.Given as goal

abbrev pub decreases-term : goal.decreases-term
decreases-term l = 4 * l.room + 2

abbrev pub decreases-applied : goal.decreases-applied
decreases-applied l = 4 * l.room + 1

abbrev pub decreases-arguments : goal.decreases-arguments
decreases-arguments l = 4 * l.room

abbrev pub decreases-terms : goal.decreases-terms
decreases-terms l = 4 * l.room + 3

abbrev pub invariant-terms-members : goal.invariant-terms-members
invariant-terms-members l = separated (spec.is_mark m.Comma) (spec.term l.room) l.fn.tokens ≡ members (spec.is_mark m.Comma) (spec.term l.room) l.found l.tokens

abbrev pub decreases-terms-members : goal.decreases-terms-members
decreases-terms-members l = length l.tokens
