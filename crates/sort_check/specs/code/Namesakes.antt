-- How a further symbol is noted, as private contracts say it, beside the definitions of specs/Namesakes.
use Rattle.std.specs.Prelude.{ℕ, ◌≡◌, Bool, false, List, Option, Some, None, slice_get, ◌||◌, if◌then◌else◌}
use Rattle.std.specs.Str.{bytes_eq}
use Rattle.fof_terms.specs.declared.signature.Symbol.{Symbol}
use Rattle.sort_check.specs.declared.namesakes.Namesake.{Namesake}
use Rattle.sort_check.specs.declared.namesakes.Namesakes.{Namesakes}
use Rattle.sort_check.specs.Namesakes.{found}
use Rattle.sort_check.specs.Symbols.{Text}
use Rattle.sort_check.specs.Texts.{differs}

-- the second knows this of the name, and of others what the first knows
abbrev pub Puts : Namesakes → Text → Namesake → Namesakes → Type 0
Puts old name entry new = (other : Text) → found new other ≡ (if bytes_eq name other then Some entry else found old other)

-- the symbol at a place differs from another
abbrev pub unlike_at : Option Symbol → Symbol → Bool
unlike_at (Some first) symbol = differs first symbol
unlike_at None symbol = false

-- what is known of the name of a further symbol, which has this number among all
abbrev pub noted : Option Namesake → List Symbol → ℕ → Symbol → Namesake
noted None all number symbol = record { first = number; is_mixed = false }
noted (Some entry) all number symbol = record { first = entry.first; is_mixed = entry.is_mixed || unlike_at (slice_get all entry.first) symbol }
