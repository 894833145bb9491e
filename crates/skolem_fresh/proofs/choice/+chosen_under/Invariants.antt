use Rattle.std.proofs.Common.{◌≡◌, [], IfOk, MatchOption, ℕ, ◌+◌, ◌-◌, ◌*◌, ◌<◌, ◌≤◌, length}
use Rattle.fof_terms.specs.Scope.{scope_sorts}
use Rattle.fof_terms.specs.Sorts.{SortedTo}
use Rattle.fof_terms.specs.declared.form.Form.{Imp}
use Rattle.skolem_fresh.specs.ChoiceRule.{IsChoiceStep}
use Rattle.skolem_fresh.specs.code.Choosing.{IsChosen, IsChosenUnder}
use Rattle.skolem_fresh.specs.Choosing.{IsWithin}
use Rattle.skolem_fresh.specs.Justified.{ShowsChoice}
use Rattle.skolem_fresh.proofs.choice.+chosen_under.Given as goal

abbrev pub decreases-chosen_under : goal.decreases-chosen_under
decreases-chosen_under l = goal.size-chosen_under l
