-- What is known of the symbols of each name: the first one, and whether a further one differs from it.
use Rattle.std.specs.Prelude.{◌≡◌, true, false, List, Option, Some, None, slice_get}
use Rattle.std.specs.List.{list_any}
use Rattle.std.specs.Str.{bytes_eq}
use Rattle.indexmap.specs.IndexMap.{get_by}
use Rattle.fof_terms.specs.declared.signature.Symbol.{Symbol}
use Rattle.sort_check.specs.declared.namesakes.Namesake.{Namesake}
use Rattle.sort_check.specs.declared.namesakes.Namesakes.{Namesakes}
use Rattle.sort_check.specs.Symbols.{Text}
use Rattle.sort_check.specs.Texts.{differs}

-- what is known of the symbols of a name
unfoldable pub found : Namesakes → Text → Option Namesake
found namesakes name = get_by (λ key. bytes_eq name key.items) namesakes.entries

-- This is the first symbol of the name, and another one differs from it or does not.
pub record IsFirst (name : Text) (symbols : List Symbol) (entry : Namesake) : Type 0 where
  pub symbol : Symbol
  pub at : slice_get symbols entry.first ≡ Some symbol
  pub named : bytes_eq symbol.name name ≡ true
  pub mixed : entry.is_mixed ≡ list_any (differs symbol) symbols

-- what is known of the symbols of a name is so; where nothing is known there are none
abbrev pub IsKnown : Text → List Symbol → Option Namesake → Type 0
IsKnown name symbols None = list_any (λ (symbol : Symbol). bytes_eq symbol.name name) symbols ≡ false
IsKnown name symbols (Some entry) = IsFirst name symbols entry

-- so much is known of every name, where these are all symbols
abbrev pub Knows : Namesakes → List Symbol → Type 0
Knows namesakes symbols = (name : Text) → IsKnown name symbols (found namesakes name)
