-- What a selection of formulas keeps of a file, as the TPTP technical manual has it. Names are compared as values: the
-- word `'1'` is not the number `1`.
use Rattle.std.specs.Prelude.{not, Bool, false, List, filter, find, None, Some, Ok, Err}
use Rattle.std.specs.declared.option.Option.{Option}
use Rattle.std.specs.List.{list_any}
use Rattle.std.specs.Str.{bytes_eq}
use Rattle.tptp_base.specs.declared.item.Item.{Item}
use Rattle.tptp_base.specs.declared.item.Item.TheVariants.{Formula}
use Rattle.tptp_base.specs.declared.name.Name.{Name}
use Rattle.tptp_base.specs.declared.name.Name.TheVariants.{Word, Integer}
use Rattle.include_resolve.specs.declared.fault.IncludeFault.TheVariants.{UnknownSelection}
use Rattle.include_resolve.specs.declared.problem.Problem.{Problem}
use Rattle.include_resolve.specs.Names.{Text}
use Rattle.include_resolve.specs.Parts.{Answer}

abbrev pub is_same_name : Name → Name → Bool
is_same_name (Word first) (Word second) = bytes_eq first second
is_same_name (Integer first) (Integer second) = bytes_eq first second
is_same_name first second = false

-- whether the name is one of these
abbrev pub is_among : List Name → Name → Bool
is_among names name = list_any (is_same_name name) names

-- whether the item is a formula of this name
abbrev pub is_named : Name → Item → Bool
is_named name (Formula formula) = is_same_name name formula.name
is_named name other = false

-- whether one of the items is
abbrev pub has_formula : List Item → Name → Bool
has_formula items name = list_any (is_named name) items

-- whether the item is a formula of one of these names
abbrev pub is_selected : List Name → Item → Bool
is_selected names (Formula formula) = is_among names formula.name
is_selected names other = false

-- the first of the names that no formula has
abbrev pub unknown_name : List Name → List Item → Option Name
unknown_name names items = find (λ name. not (has_formula items name)) names

-- the formulas of these names, in the order of the file, unless a name is unknown
abbrev pub chosen : Text → List Name → Problem → Option Name → Answer
chosen file names part (Some name) = Err (UnknownSelection file name)
chosen file names part None = Ok (record { files = part.files; items = filter (is_selected names) part.items; read = part.read })

-- what is kept of a file, where a selection is written, of what the file gives
abbrev pub selected : Text → Option (List Name) → Answer → Answer
selected file None answer = answer
selected file (Some names) (Ok part) = chosen file names part (unknown_name names part.items)
selected file (Some names) (Err fault) = Err fault
