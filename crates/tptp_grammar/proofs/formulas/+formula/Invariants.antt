use Rattle.std.proofs.Common.{◌+◌, ◌*◌, length}
use Rattle.first_fault.specs.code.Reading.{tail}
use Rattle.tptp_grammar.proofs.Adding.{InFront}
use Rattle.tptp_grammar.specs.code.ReadFormulas as spec
use Rattle.tptp_grammar.proofs.formulas.+formula.Given as goal

abbrev pub decreases-formula : goal.decreases-formula
decreases-formula l = 12 * l.room + 9

abbrev pub decreases-joined : goal.decreases-joined
decreases-joined l = 12 * l.room + 8

abbrev pub decreases-operated : goal.decreases-operated
decreases-operated l = 12 * l.room + 7

abbrev pub decreases-disjunction : goal.decreases-disjunction
decreases-disjunction l = 12 * l.room + 7

abbrev pub decreases-conjunction : goal.decreases-conjunction
decreases-conjunction l = 12 * l.room + 7

abbrev pub decreases-units : goal.decreases-units
decreases-units l = 12 * l.room + 6

abbrev pub decreases-unit : goal.decreases-unit
decreases-unit l = 12 * l.room + 5

abbrev pub decreases-quantified : goal.decreases-quantified
decreases-quantified l = 12 * l.room + 4

abbrev pub decreases-scope : goal.decreases-scope
decreases-scope l = 12 * l.room + 3

abbrev pub decreases-negation : goal.decreases-negation
decreases-negation l = 12 * l.room + 2

abbrev pub decreases-nested : goal.decreases-nested
decreases-nested l = 12 * l.room + 1

abbrev pub decreases-parenthesis : goal.decreases-parenthesis
decreases-parenthesis l = 12 * l.room + 1

abbrev pub decreases-inner : goal.decreases-inner
decreases-inner l = 12 * l.room + 10

abbrev pub invariant-units-members : goal.invariant-units-members
invariant-units-members l = InFront l.mark (spec.unit l.typed l.room) l.fn.first (tail l.fn.tokens) l.found l.tokens

abbrev pub decreases-units-members : goal.decreases-units-members
decreases-units-members l = length l.tokens
