-- The functions of a derivation: one in place of each existential quantifier of the parts that it uses, in their order.
use Rattle.std.specs.Prelude.{ℕ, ◌+◌, Bool, List, [], ◌∷◌}
use Rattle.fof_terms.specs.declared.signature.Symbol.{Symbol}
use Rattle.fof_terms.specs.declared.signature.Kind.TheVariants.{Function}
use Rattle.derivation_items.specs.Words.{Text, numbered_word}
use Rattle.step_clauses.specs.declared.existentials.Existential.{Existential}
use Rattle.given_parts.specs.declared.part.Part.{Part}
use Rattle.given_parts.specs.Chosen.{chosen}

-- those of the parts that are marked
abbrev pub used_existentials : List Bool → List Part → List Existential
used_existentials used parts = chosen (λ k (p : Part). p.existentials) used parts

-- the prefix and the number are its name
abbrev pub function_of : Text → ℕ → Existential → Symbol
function_of prefix k e = record { name = numbered_word prefix k; kind = Function; args = e.around; result = e.sort }

-- numbered from k on
abbrev pub functions_from : Text → ℕ → List Existential → List Symbol
functions_from prefix k [] = []
functions_from prefix k (e ∷ es) = function_of prefix k e ∷ functions_from prefix (k + 1) es
