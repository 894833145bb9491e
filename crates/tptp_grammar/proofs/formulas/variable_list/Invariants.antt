use Rattle.std.proofs.Common.{◌≡◌, length}
use Rattle.first_fault.specs.code.Reading.{separated}
use Rattle.first_fault.proofs.Loops.{members}
use Rattle.tptp_lexer.specs.declared.token.Mark.TheVariants as m
use Rattle.tptp_grammar.specs.code.ReadTerms.{is_mark}
use Rattle.tptp_grammar.specs.code.ReadFormulas as spec
use Rattle.tptp_grammar.proofs.formulas.variable_list.Given as goal

abbrev pub invariant-members : goal.invariant-members
invariant-members l = separated (is_mark m.Comma) (spec.bound_variable l.typed) l.fn.tokens ≡ members (is_mark m.Comma) (spec.bound_variable l.typed) l.found l.tokens

abbrev pub decreases-members : goal.decreases-members
decreases-members l = length l.tokens
