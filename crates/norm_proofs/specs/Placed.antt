-- Formulas that are well-sorted in some context with room for their quantifiers.
use Rattle.std.specs.Prelude.{ℕ, ◌≤◌, length, List}
use Rattle.fof_terms.specs.declared.form.Form.{Form}
use Rattle.fof_terms.specs.Vocabulary.{Vocabulary}
use Rattle.fof_terms.specs.Sorts.{Sorted}

-- the formula is well-sorted over some signature and some context of at most 1,000,000,000 sorts
abbrev pub SortedSomewhere : Form → Type 0
SortedSomewhere a = (w : Vocabulary) × (v : List ℕ) × (length v ≤ 1000000000) × Sorted w v a
