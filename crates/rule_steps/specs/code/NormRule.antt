-- What private contracts say, beside the definitions of specs/NormRule.
use Rattle.std.specs.Prelude.{ℕ, ◌<◌, List}
use Rattle.fof_terms.specs.declared.form.Form.{Form}
use Rattle.clause_form.specs.declared.path.Parent.{Parent}
use Rattle.clause_rules.specs.NormRule.{FlatsAlike}

-- the first parent with this flat form
abbrev pub IsFirstAlike : List Parent → Form → ℕ → Type 0
IsFirstAlike parents made a = FlatsAlike parents made a × ((b : ℕ) → b < a → FlatsAlike parents made b → ⊥)
