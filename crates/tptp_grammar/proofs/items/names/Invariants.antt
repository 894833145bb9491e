use Rattle.std.proofs.Common.{◌≡◌, length}
use Rattle.first_fault.specs.code.Reading.{separated}
use Rattle.first_fault.proofs.Loops.{members}
use Rattle.tptp_lexer.specs.declared.token.Mark.TheVariants as m
use Rattle.tptp_grammar.specs.code.ReadTerms.{is_mark}
use Rattle.tptp_grammar.specs.code.ReadItems as spec
use Rattle.tptp_grammar.proofs.items.names.Given as goal

abbrev pub invariant-members : goal.invariant-members
invariant-members l = separated (is_mark m.Comma) spec.name l.fn.tokens ≡ members (is_mark m.Comma) spec.name l.found l.tokens

abbrev pub decreases-members : goal.decreases-members
decreases-members l = length l.tokens
