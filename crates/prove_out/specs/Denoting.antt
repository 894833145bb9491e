-- Formulas of a text that denote a form.
use Rattle.std.specs.Prelude.{ℕ, ◌≡◌, ◌≤◌, Bool, true, List, [], Ok}
use Rattle.tptp_base.specs.declared.surface.Surface.{Surface}
use Rattle.tptp_base.specs.declared.item.Lang.TheVariants.{Tff}
use Rattle.fof_terms.specs.Vocabulary.{Vocabulary}
use Rattle.fof_terms.specs.Sorts.{is_sorted}
use Rattle.fof_terms.specs.Sizes.{form_size}
use Rattle.fof_terms.specs.declared.form.Form.{Form}
use Rattle.sort_check.specs.Symbols.{Text}
use Rattle.sort_check.specs.Denotation.{formula}
use Rattle.prove_out.specs.Unambiguous.{IsUnambiguous}

-- As the body of an item of language tff, the formula denotes the form, and brings in no symbol. It does so whatever
-- names the type lines of its text declare, in a problem and in a derivation.
abbrev pub Denotes : Vocabulary → Surface → Form → Type 0
Denotes v a form = (by_place : Bool) (declared : List Text) → formula by_place Tff declared a v ≡ Ok (form, v)

-- how many variables the form binds
abbrev pub bound_count : Form → ℕ
bound_count form = (form_size form).variables

-- The form is closed and well-sorted, in a vocabulary whose names say what they mean, and binds no more variables than
-- a formula may.
pub record IsWritable (v : Vocabulary) (form : Form) : Type 0 where
  pub unambiguous : IsUnambiguous v
  pub sorted : is_sorted v [] form ≡ true
  pub few_variables : bound_count form ≤ 250
