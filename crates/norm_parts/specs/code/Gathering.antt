-- A normal form, gathered from its parts, which stand in one conjunction as hypothesis 0.
use Rattle.std.specs.Prelude.{ℕ, ◌≡◌, ◌+◌, ◌≤◌, List, [], ◌∷◌, length, take, flat_map, Some, slice_get}
use Rattle.std.specs.List.{AllByRecursion}
use Rattle.fof_terms.specs.declared.form.Form.{Form, And}
use Rattle.fof_terms.specs.Sorts.{SortedTo, Sorted}
use Rattle.clause_form.specs.ClauseView.{closed_by}
use Rattle.clause_form.specs.Reached.{around}
use Rattle.kernel.specs.Statements.{Statements}
use Rattle.kernel.specs.Proves.{Proves}
use Rattle.kernel.specs.code.Rules.{ProveAll}
use Rattle.kernel.specs.declared.proof.Proof.{Proof, Hyp, AndI, AndE}
use Rattle.norm_proofs.specs.code.Joining.{numbered}
use Rattle.norm_proofs.specs.Numbering.{near}
use Rattle.norm_parts.specs.Parts.{parts_of}

-- the part of that number, at the nearest variables
abbrev pub leaf_tree : ℕ → ℕ → Proof
leaf_tree depth number = near 0 depth (AndE number (Hyp 0))

-- so many of the parts, the first of which has that number
abbrev pub picked_tree : ℕ → ℕ → Proof
picked_tree first count = AndI (numbered (λ number. AndE number (Hyp 0)) first count)

-- from that number on the list has these parts, closed by the sorts
abbrev pub Stand : List Form → ℕ → List ℕ → List Form → Type 0
Stand whole first sorts ps = (i : ℕ) (p : Form) → slice_get ps i ≡ Some p → slice_get whole (first + i) ≡ Some (closed_by sorts p)

-- under so many quantifiers, whose sorts are given the outermost first, and under the closed conjunction of these
pub record IsUnder (t : Statements) (whole : List Form) (depth : ℕ) (sorts : List ℕ) : Type 0 where
  pub closed : Sorted t.vocabulary [] (And whole)
  pub many : length sorts ≡ depth

-- the formula has so many parts, and the proof shows it by their conjunction, where they begin the list
pub record IsGathered (a : Form) (depth : ℕ) (rest : List Form) (made : Proof) (count : ℕ) : Type 0 where
  pub counted : count ≡ length (parts_of a)
  pub shows : (t : Statements) (sorts : List ℕ) (h : List Form) → IsUnder t (take count rest) depth sorts → (few : ℕ) → few + length sorts ≤ 2147483646 → SortedTo few t.vocabulary (around sorts []) a → Stand rest 0 sorts (parts_of a)
      → Proves t (around sorts []) (And (take count rest) ∷ h) made a

-- the proof shows the formula by a conjunction in which its parts begin at that number, as they do in the list
pub record IsMember (a : Form) (depth : ℕ) (rest : List Form) (first : ℕ) (made : Proof) : Type 0 where
  pub shows : (t : Statements) (whole : List Form) (sorts : List ℕ) (h : List Form) → IsUnder t whole depth sorts → (few : ℕ) → few + length sorts ≤ 2147483646 → SortedTo few t.vocabulary (around sorts []) a → Stand whole first sorts (parts_of a)
      → Stand rest first sorts (parts_of a) → Proves t (around sorts []) (And whole ∷ h) made a

-- the same of each of the formulas, the parts of the first of which begin both
pub record AreGathered (as_ : List Form) (depth : ℕ) (rest : List Form) (made : List Proof) (count : ℕ) : Type 0 where
  pub counted : count ≡ length (flat_map parts_of as_)
  pub shows : (t : Statements) (whole : List Form) (sorts : List ℕ) (h : List Form) → IsUnder t whole depth sorts → (few : ℕ) → few + length sorts ≤ 2147483646 → AllByRecursion (SortedTo few t.vocabulary (around sorts [])) as_
      → Stand whole 0 sorts (flat_map parts_of as_) → Stand rest 0 sorts (flat_map parts_of as_) → ProveAll t (around sorts []) (And whole ∷ h) made as_
