-- The items of a derivation: type lines, and a formula with a source for each line.
use Rattle.std.specs.Prelude.{ℕ, ◌+◌, List, [], ◌∷◌, codes, Option, Some, None}
use Rattle.tptp_base.specs.declared.place.Place.{Place}
use Rattle.tptp_base.specs.declared.name.Name.TheVariants as name
use Rattle.tptp_base.specs.declared.item.Item.{Item}
use Rattle.tptp_base.specs.declared.item.Item.TheVariants as item
use Rattle.tptp_base.specs.declared.item.Body.{Body}
use Rattle.tptp_base.specs.declared.item.Body.TheVariants as body
use Rattle.tptp_base.specs.declared.item.GTerm.{GTerm}
use Rattle.tptp_base.specs.declared.item.Lang.TheVariants.{Tff}
use Rattle.tptp_base.specs.declared.item.Role.{Role}
use Rattle.tptp_base.specs.declared.item.Role.TheVariants as role
use Rattle.tptp_base.specs.declared.item.Typing.{Typing}
use Rattle.tptp_base.specs.declared.surface.Surface.{Surface}
use Rattle.derivation_items.specs.declared.line.LineSource.{LineSource}
use Rattle.derivation_items.specs.Sources.{source_term}
use Rattle.derivation_items.specs.Words.{Text, numbered_word, printable_text}

-- the place of each item
abbrev pub first_place : Place
first_place = record { file = 0; offset = 0; line = 1; column = 1 }

abbrev pub tff_item : Text → Role → Body → Option GTerm → Item
tff_item word role body source = item.Formula (record { place = first_place; lang = Tff; name = name.Word word; role = role; body = body; source = source; info = None })

-- the type line of that number
abbrev pub typing_item : ℕ → Typing → Item
typing_item k typing = tff_item (numbered_word (codes "y") k) role.Typing (body.Typing typing) None

-- type lines, numbered from k on
abbrev pub typing_items : ℕ → List Typing → List Item
typing_items k [] = []
typing_items k (typing ∷ typings) = typing_item k typing ∷ typing_items (k + 1) typings

-- the item of a line of this name, formula and source, in a derivation from the problem of that file
abbrev pub line_item_of : Text → Text → Surface → LineSource → Item
line_item_of file word formula source = tff_item word role.Plain (body.Logic formula) (Some (source_term (printable_text file) source))
