-- What a function that reads ensures: the definition's outcome, unless memory runs out.
use Rattle.std.specs.Prelude.{◌≡◌, ℕ, List, Result, Ok, Err}
use Rattle.first_fault.specs.code.Reading.{Unexpected, TooDeep, Outcome}
use Rattle.proof_log.specs.declared.stop.Stop.{Stop}
use Rattle.proof_log.specs.declared.stop.Stop.TheVariants as stop

abbrev pub Fails : {A : Type 0} → Outcome ℕ A → Stop → List ℕ → Type 0
Fails outcome stop.Memory new = Unit {0}
Fails outcome stop.Unexpected new = outcome ≡ Err (Unexpected, new)
Fails outcome stop.TooDeep new = outcome ≡ Err (TooDeep, new)

abbrev pub Reads : {A : Type 0} → Outcome ℕ A → Result A Stop → List ℕ → Type 0
Reads outcome (Ok x) new = outcome ≡ Ok (x, new)
Reads outcome (Err e) new = Fails outcome e new
