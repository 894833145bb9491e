-- What the laws of what a text denotes say.
use Rattle.std.specs.Prelude.{◌≡◌, ◌≤◌, ◌⊎◌, max, List, map, Result, Ok, Err}
use Rattle.tptp_base.specs.declared.item.Item.{Item}
use Rattle.tptp_base.specs.Sizes.{Size, list_of, size_of_items}
use Rattle.fof_terms.specs.Sizes.{form_size}
use Rattle.fof_terms.specs.Vocabulary.{Vocabulary}
use Rattle.sort_check.specs.declared.fault.SortFault.{SortFault}
use Rattle.sort_check.specs.declared.fault.SortFault.TheVariants.{Memory}
use Rattle.sort_check.specs.declared.line.Line.{Line}
use Rattle.sort_check.specs.declared.line.TextKind.{TextKind}
use Rattle.sort_check.specs.Texts.{denoted, Gives}

-- the lines, or the first fault
abbrev pub Answer : Type 0
Answer = Result (List Line) SortFault

-- the same lines with the same vocabulary behind them, or the same fault
abbrev pub IsSame : Answer → Vocabulary → Answer → Vocabulary → Type 0
IsSame (Ok lines) v (Ok others) w = (lines ≡ others) × (v ≡ w)
IsSame (Err fault) v (Err other) w = fault ≡ other
IsSame answer v other w = ⊥

-- Two answers are one, but that memory may be wanting.
abbrev pub IsOne : Answer → Vocabulary → Answer → Vocabulary → Type 0
IsOne answer v other w = IsSame answer v other w ⊎ ((answer ≡ Err Memory) ⊎ (other ≡ Err Memory))

-- The items have an answer other than want of memory, and a vocabulary behind it.
abbrev pub HaveAnswer : List Item → Vocabulary → TextKind → Type 0
HaveAnswer items v kind = (answer : Answer) × (new : Vocabulary) × (answer ≡ Err Memory → ⊥) × Gives (denoted items v kind) answer new

abbrev pub size_of_line : Line → Size
size_of_line line = form_size line.form

abbrev pub size_of_lines : List Line → Size
size_of_lines lines = list_of (map size_of_line lines)

-- No list of the lines and their formulas is longer than the longest of the items, or than two, which a connective may
-- make. The formulas together bind no more variables than the items have.
pub record AreNoLarger (items : List Item) (lines : List Line) : Type 0 where
  pub longest : (size_of_lines lines).longest ≤ max 2 (size_of_items items).longest
  pub variables : (size_of_lines lines).variables ≤ (size_of_items items).variables
