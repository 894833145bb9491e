-- The arguments of a function that stands for an existential variable.
use Rattle.std.specs.Prelude.{ℕ, ◌+◌, ◌==◌, if◌then◌else◌, List, length, filter, Option, Some, None, slice_get}
use Rattle.fof_terms.specs.declared.form.Form.{Form}
use Rattle.fof_terms.specs.declared.signature.Symbol.{Symbol}
use Rattle.fof_terms.specs.Variables.{has_variable}
use Rattle.fof_terms.specs.Vocabulary.{Vocabulary}
use Rattle.step_clauses.specs.Skolems.{nearest}
use Rattle.function_choices.specs.Order.{ordered}

-- those of the n nearest variables that stand free in the existential formula over the body, the outermost first
abbrev pub needed : ℕ → Form → List ℕ
needed n body = filter (λ k. has_variable (k + 1) body) (nearest n)

abbrev pub arguments_in : Option Symbol → ℕ
arguments_in None = 0
arguments_in (Some symbol) = length symbol.args

-- how many arguments the symbol takes
abbrev pub argument_count : Vocabulary → ℕ → ℕ
argument_count v f = arguments_in (slice_get v.symbols f)

-- the n nearest variables, if the symbol takes as many arguments, and else those that are needed
abbrev pub variables_for : Vocabulary → ℕ → Form → ℕ → List ℕ
variables_for v n body f = if argument_count v f == n then nearest n else needed n body

-- The variables that the symbol is applied to for the variable of an existential formula over the body, under n
-- universal quantifiers: theirs, all if it takes as many, and else those that stand free there, in the order that is
-- told, as far as it is told of each argument, and the others with the outermost first.
abbrev pub arguments_of : Vocabulary → List (Option ℕ) → ℕ → Form → ℕ → List ℕ
arguments_of v told n body f = ordered (needed n body) told (variables_for v n body f)
