-- The same of formulas as a text writes them, of items and of lines.
use Rattle.std.specs.Prelude.{◌≡◌, ◌&&◌, ⊤, Bool, true, List}
use Rattle.std.specs.List.{AllByRecursion}
use Rattle.tptp_base.specs.declared.item.Body.{Body}
use Rattle.tptp_base.specs.declared.item.Body.TheVariants as body
use Rattle.tptp_base.specs.declared.item.Item.{Item}
use Rattle.tptp_base.specs.declared.item.Item.TheVariants as item
use Rattle.tptp_base.specs.declared.surface.Surface.{Surface}
use Rattle.tptp_base.specs.declared.surface.Surface.TheFolds.{fold-Surface}
use Rattle.tptp_base.specs.declared.surface.Surface.TheOpen as fm
use Rattle.sort_check.specs.declared.line.GivenEntry.{GivenEntry}
use Rattle.sort_check.specs.declared.line.Line.{Line}
use Rattle.printed_forms.specs.Lists.{are_listed, has_no_list_of_one}

abbrev pub written_step : fm.Surface-F Bool → Bool
written_step fm.True = true
written_step fm.False = true
written_step (fm.Atom word terms) = true
written_step (fm.Eq left right) = true
written_step (fm.Neq left right) = true
written_step (fm.Not part) = part
written_step (fm.And parts) = are_listed parts
written_step (fm.Or parts) = are_listed parts
written_step (fm.Binary operator left right) = left && right
written_step (fm.Bind quantifier variables part) = part

-- no conjunction and no disjunction of the written formula has one member alone
unfoldable pub writes_no_list_of_one : Surface → Bool
writes_no_list_of_one = fold-Surface Bool written_step

abbrev pub IsBodyListed : Body → Type 0
IsBodyListed (body.Logic formula) = writes_no_list_of_one formula ≡ true
IsBodyListed (body.Typing typing) = ⊤

abbrev pub IsItemListed : Item → Type 0
IsItemListed (item.Comment text) = ⊤
IsItemListed (item.Formula annotated) = IsBodyListed annotated.body
IsItemListed (item.Include include) = ⊤

-- so it is with the formula of each item
abbrev pub AreItemsListed : List Item → Type 0
AreItemsListed items = AllByRecursion IsItemListed items

-- with that of each line
abbrev pub AreLinesListed : List Line → Type 0
AreLinesListed lines = AllByRecursion (λ (line : Line). has_no_list_of_one line.form ≡ true) lines

-- with each given formula
abbrev pub AreGivenListed : List GivenEntry → Type 0
AreGivenListed given = AllByRecursion (λ (entry : GivenEntry). has_no_list_of_one entry.form ≡ true) given
