use Rattle.std.proofs.Common.{◌≡◌, List, Bool, length}
use Rattle.fof_terms.specs.Vocabulary.{Vocabulary}
use Rattle.clause_form.specs.declared.clause.Clause.{Clause}
use Rattle.saturation.specs.Lists.{bound_of}
use Rattle.saturation.specs.code.Search.{IsUnderWay}
use Rattle.saturation.proofs.sifting.sift.Given as goal

abbrev pub invariant-loop-next : goal.invariant-loop-next
invariant-loop-next l = (v : Vocabulary) (whole : Bool) (inputs list : List Clause) → l.bound ≡ bound_of inputs
    → IsUnderWay v whole inputs list l.initial.todo l.initial.queue l.initial.heavy → IsUnderWay v whole inputs list l.todo l.queue l.heavy

abbrev pub decreases-loop-next : goal.decreases-loop-next
decreases-loop-next l = length l.todo
