use Rattle.std.proofs.Common.{◌≡◌, ◌+◌, ◌*◌, length}
use Rattle.first_fault.specs.code.Reading.{separated}
use Rattle.first_fault.proofs.Loops.{members}
use Rattle.tptp_lexer.specs.declared.token.Mark.TheVariants as m
use Rattle.tptp_grammar.specs.code.ReadTerms.{is_mark}
use Rattle.tptp_grammar.specs.code.ReadGeneral as spec
use Rattle.tptp_grammar.proofs.general.+general.Given as goal

abbrev pub decreases-listed : goal.decreases-listed
decreases-listed l = 9 * l.room + 8

abbrev pub decreases-closed_list : goal.decreases-closed_list
decreases-closed_list l = 9 * l.room + 7

abbrev pub decreases-right_side : goal.decreases-right_side
decreases-right_side l = 9 * l.room + 6

abbrev pub decreases-general_list : goal.decreases-general_list
decreases-general_list l = 9 * l.room + 6

abbrev pub decreases-general : goal.decreases-general
decreases-general l = 9 * l.room + 5

abbrev pub decreases-data_term : goal.decreases-data_term
decreases-data_term l = 9 * l.room + 4

abbrev pub decreases-applied : goal.decreases-applied
decreases-applied l = 9 * l.room + 3

abbrev pub decreases-paired : goal.decreases-paired
decreases-paired l = 9 * l.room + 3

abbrev pub decreases-arguments : goal.decreases-arguments
decreases-arguments l = 9 * l.room

abbrev pub decreases-bracketed : goal.decreases-bracketed
decreases-bracketed l = 9 * l.room

abbrev pub decreases-pair : goal.decreases-pair
decreases-pair l = 9 * l.room

abbrev pub invariant-general_list-members : goal.invariant-general_list-members
invariant-general_list-members l = separated (is_mark m.Comma) (spec.general l.room) l.fn.tokens ≡ members (is_mark m.Comma) (spec.general l.room) l.found l.tokens

abbrev pub decreases-general_list-members : goal.decreases-general_list-members
decreases-general_list-members l = length l.tokens
