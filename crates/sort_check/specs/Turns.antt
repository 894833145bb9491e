-- What a problem denotes whose items are taken one behind the other.
use Rattle.std.specs.Prelude.{◌≡◌, refl, Bool, true, false, List, [], ◌∷◌, Result, Ok, Err, codes}
use Rattle.std.specs.List.{AllByRecursion}
use Rattle.std.specs.Coded.{Coded, code_by, coded×, coded_list, coded_bool}
use Rattle.tptp_base.specs.contracts.item.Item.{the_row}
use Rattle.tptp_base.specs.declared.item.Item.{Item}
use Rattle.tptp_base.specs.declared.item.Item.TheVariants as it
use Rattle.fof_terms.specs.Vocabulary.{Vocabulary}
use Rattle.sort_check.specs.declared.fault.SortFault.{SortFault}
use Rattle.sort_check.specs.declared.line.Line.{Line}
use Rattle.sort_check.specs.declared.line.TextKind.TheVariants.{Problem}
use Rattle.sort_check.specs.declared.progress.Denoted.{Denoted}
use Rattle.sort_check.specs.Texts.{denoted}

-- the sort of individuals alone
abbrev pub first : Vocabulary
first = record { sorts = codes "$i" ∷ []; symbols = [] }

-- the items that were taken, and whether their lines are kept
pub record Taken : Type 0 where
  pub items : List Item
  pub keeps : Bool

-- they are stored as a pair
abbrev pub taken_code : Coded Taken
taken_code =
    code_by (List Item × Bool) (coded× (coded_list the_row.coded) coded_bool) (λ t. (t.items, t.keeps)) (λ p. record { items = p.0; keeps = p.1 }) (λ _. refl)

-- The items whose type lines are taken, those of them that were taken again so far, and whether their lines are kept.
pub record TakenAgain : Type 0 where
  pub whole : List Item
  pub items : List Item
  pub keeps : Bool

abbrev pub taken_again_code : Coded TakenAgain
taken_again_code =
    code_by (List Item × Taken) (coded× (coded_list the_row.coded) taken_code) (λ t. (t.whole, record { items = t.items; keeps = t.keeps })) (λ p. record { whole = p.0; items = p.1.items; keeps = p.1.keeps }) (λ _. refl)

-- the lines, where they are kept
abbrev pub kept : Bool → List Line → List Line
kept true lines = lines
kept false lines = []

abbrev pub is_include : Item → Bool
is_include (it.Include i) = true
is_include (it.Formula a) = false
is_include (it.Comment text) = false

-- no include is among the items
abbrev pub HaveNoInclude : List Item → Type 0
HaveNoInclude items = AllByRecursion (λ (item : Item). is_include item ≡ false) items

-- What the items denote: these lines, kept or not, over the signature; or this fault.
abbrev pub AreDenoted : Taken → Result Denoted SortFault → Type 0
AreDenoted taken (Ok found) =
    (lines : List Line) × (denoted taken.items first Problem ≡ Ok (lines, found.signature))
    × (found.lines ≡ kept taken.keeps lines)
AreDenoted taken (Err fault) = denoted taken.items first Problem ≡ Err fault
