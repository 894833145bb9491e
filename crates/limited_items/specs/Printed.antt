-- The items that a derivation's lines are printed as, with type lines before them.
use Rattle.std.specs.Prelude.{ℕ, ◌≡◌, ◌≤◌, true, List, ◌++◌}
use Rattle.std.specs.List.{AllZip}
use Rattle.tptp_base.specs.declared.item.Item.{Item}
use Rattle.tptp_base.specs.declared.surface.Surface.{Surface}
use Rattle.fof_terms.specs.Vocabulary.{Vocabulary}
use Rattle.fof_terms.specs.declared.form.Form.{Form}
use Rattle.prove_out.specs.Denoting.{Denotes, IsWritable, bound_count}
use Rattle.prove_out.specs.Variables.{is_numbered}
use Rattle.derivation_items.specs.Items.{line_item_of, typing_items}
use Rattle.derivation_items.specs.Typings.{typings_of}
use Rattle.derivation_items.specs.Words.{Text}
use Rattle.derivation_items.specs.declared.line.ProofLine.{ProofLine}
use Rattle.derivation_limits.specs.Nesting.{nesting_of}

-- the formula denotes the form, where a text may have it, and its variables are numbered
pub record Writes (v : Vocabulary) (form : Form) (formula : Surface) : Type 0 where
  pub denotes : IsWritable v form → Denotes v formula form
  pub numbered : is_numbered 0 formula ≡ true

-- the item is the line's, in a derivation from the problem of that file, and its formula is within the limits
pub record IsPrinted (file : Text) (v : Vocabulary) (line : ProofLine) (item : Item) : Type 0 where
  pub formula : Surface
  pub writes : Writes v line.form formula
  pub few_variables : bound_count line.form ≤ 250
  pub flat : nesting_of formula ≤ 250
  pub is : item ≡ line_item_of file line.name formula line.source

-- type lines of the sorts and of the symbols from that number on, and then an item for each line
pub record ArePrinted (file : Text) (v : Vocabulary) (first : ℕ) (lines : List ProofLine) (items : List Item) : Type 0 where
  pub of_lines : List Item
  pub each : AllZip (IsPrinted file v) lines of_lines
  pub are : items ≡ typing_items 0 (typings_of v first) ++ of_lines
