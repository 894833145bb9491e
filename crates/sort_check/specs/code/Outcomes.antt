-- What private contracts say, beside the definitions of specs/Outcomes.
use Rattle.std.specs.Prelude.{◌≡◌, Result, Ok, Err}
use Rattle.sort_check.specs.declared.fault.SortRule.{SortRule}
use Rattle.sort_check.specs.declared.fault.Stop.{Stop}
use Rattle.sort_check.specs.Outcomes.{Outcome}
use Rattle.sort_check.specs.declared.fault.Stop.TheVariants as stop

-- what a function ensures: the outcome, unless memory runs out
abbrev pub Stops : {S A : Type 0} → Outcome SortRule S A → Stop → Type 0
Stops outcome (stop.Rule rule) = outcome ≡ Err rule
Stops outcome stop.Memory = Unit {0}

abbrev pub Answers : {S A : Type 0} → Outcome SortRule S A → Result A Stop → S → Type 0
Answers outcome (Ok x) new = outcome ≡ Ok (x, new)
Answers outcome (Err e) new = Stops outcome e
