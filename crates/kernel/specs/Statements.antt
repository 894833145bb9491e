-- What a theory contains: its symbols, and the formulas that hold.
use Rattle.std.specs.Prelude.{◌≡◌, ◌-◌, List, [], slice_get, length, Some}
use Rattle.std.specs.List.{All}
use Rattle.fof_terms.specs.Vocabulary.{Vocabulary}
use Rattle.fof_terms.specs.Sorts.{Sorted}
use Rattle.fof_terms.specs.declared.form.Form.{Form, Or}

-- the symbols, and the formulas that hold, each at its number
pub record Statements : Type 0 where
  pub vocabulary : Vocabulary
  pub formulas : List Form

-- each formula is closed and well-sorted
abbrev pub AreClosed : Statements → Type 0
AreClosed t = All (Sorted t.vocabulary []) t.formulas

-- the last formula is falsehood
abbrev pub IsRefuted : Statements → Type 0
IsRefuted t = slice_get t.formulas (length t.formulas - 1) ≡ Some (Or [])
