-- What the laws of the walk through files, and of a resolved problem, say.
use Rattle.std.specs.Prelude.{⊤, ℕ, ◌<◌, List, Contains, Some}
use Rattle.std.specs.declared.option.Option.{Option}
use Rattle.tptp_base.specs.declared.item.Item.{Item}
use Rattle.tptp_base.specs.declared.item.Item.TheVariants.{Comment, Formula, Include}
use Rattle.tptp_base.specs.Store.{Files}
use Rattle.include_resolve.specs.Names.{Text}
use Rattle.include_resolve.specs.Parts.{Answer}
use Rattle.include_resolve.specs.Resolved.{Resolves}
use Rattle.include_resolve.specs.Texts.{IsSpelled}

-- the file gives an answer, with all that it includes
abbrev pub HasAnswer : Files → Option Text → Text → Type 0
HasAnswer files root name = (answer : Answer) × Resolves (Some files) root name answer

-- the item is a comment, or a formula whose place is in one of so many files, and no include
abbrev pub IsResolvedItem : ℕ → Item → Type 0
IsResolvedItem files (Formula formula) = formula.place.file < files
IsResolvedItem files (Comment text) = ⊤
IsResolvedItem files (Include inclusion) = ⊥

-- the item is one of those that the text of some file spells
abbrev pub IsOfSomeText : Item → Type 0
IsOfSomeText item =
    (number : ℕ) × (text : Text) × (items : List Item) × IsSpelled number text items × Contains items item
