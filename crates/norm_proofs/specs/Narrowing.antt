-- Formulas that follow from a closed formula, and parts that show them wherever it is shown.
use Rattle.std.specs.Prelude.{ℕ, ◌+◌, ◌≤◌, length, List, []}
use Rattle.fof_terms.specs.declared.form.Form.{Form}
use Rattle.fof_terms.specs.Vocabulary.{Vocabulary}
use Rattle.fof_terms.specs.Sorts.{IsScope, SortedTo}
use Rattle.clause_form.specs.Sizes.{norm_size_of}
use Rattle.kernel.specs.Statements.{Statements}
use Rattle.kernel.specs.Proves.{Proves}
use Rattle.kernel.specs.declared.proof.Proof.{Proof}

-- in every context that has room for n variables more, the part shows the formula
abbrev pub ShowsEverywhere : Statements → ℕ → Form → Proof → Type 0
ShowsEverywhere t n a p = (v : List ℕ) (h : List Form) → IsScope t.vocabulary v → n + length v ≤ 2147483647 → Proves t v h p a

-- The second formula is not larger than the first one, and has no more quantifiers inside each other. Where the first
-- one is closed and p shows it, the second one is closed too and q shows it, with room for so many variables.
pub record LeadsTo (few : ℕ) (a : Form) (p : Proof) (more : ℕ) (b : Form) (q : Proof) : Type 0 where
  pub smaller : norm_size_of b ≤ norm_size_of a
  pub sorted : (w : Vocabulary) (d : ℕ) → d ≤ 2147483647 → SortedTo d w [] a → SortedTo d w [] b
  pub shows : (t : Statements) (d n : ℕ) → d ≤ 2147483647 → SortedTo d t.vocabulary [] a → ShowsEverywhere t (n + few) a p → ShowsEverywhere t (n + more) b q
