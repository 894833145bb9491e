-- What a text can write of a derivation.
use Rattle.std.specs.Prelude.{◌≡◌, ◌≤◌, ◌++◌, true, List, length}
use Rattle.std.specs.List.{list_all, AllByRecursion}
use Rattle.tptp_base.specs.declared.item.Item.{Item}
use Rattle.tptp_base.specs.declared.item.Typing.{Typing}
use Rattle.derivation_items.specs.Items.{typing_items}
use Rattle.derivation_items.specs.Words.{Text}
use Rattle.derivation_items.specs.declared.line.ProofLine.{ProofLine}
use Rattle.printed_forms.specs.Lists.{has_no_list_of_one}
use Rattle.spelled_items.specs.Writable.{AreWritable, is_source, is_typing, is_word}

-- the name of the line can be written, and so can the names in its source
pub record HasNames (line : ProofLine) : Type 0 where
  pub word : is_word line.name ≡ true
  pub source : is_source line.source ≡ true

-- so it is with each of the lines
abbrev pub HaveNames : List ProofLine → Type 0
HaveNames lines = AllByRecursion HasNames lines

-- no conjunction and no disjunction in a line has one member alone
abbrev pub AreListed : List ProofLine → Type 0
AreListed lines = AllByRecursion (λ (line : ProofLine). has_no_list_of_one line.form ≡ true) lines

-- The items are type lines, and then lines of a derivation from the problem of that file. A text can write all of them.
pub record CanBeWritten (file : Text) (items : List Item) : Type 0 where
  pub typings : List Typing
  pub lines : List Item
  pub are : items ≡ typing_items 0 typings ++ lines
  pub few : length typings ≤ 1048576
  pub types : list_all is_typing typings ≡ true
  pub each : AreWritable file lines
