use Rattle.std.proofs.Common.{take, length}
use Rattle.clause_form.specs.Paths.{forms_of}
use Rattle.input_proofs.specs.Functions.{searched_vocabulary}
use Rattle.input_proofs.proofs.Passed.{HavePassed}
use Rattle.input_proofs.proofs.Whole.{ParentsStand}
use Rattle.input_proofs.proofs.opening.open_inputs.Given as goal

abbrev pub invariant-loop-parent : goal.invariant-loop-parent
invariant-loop-parent l =
    HavePassed (length l.theory.vocabulary.symbols) (length l.theory.formulas) (searched_vocabulary l.theory.vocabulary l.parents l.line) l.wanted (ParentsStand l.parents) (forms_of (take l.parent-index l.parents)) l.opening
