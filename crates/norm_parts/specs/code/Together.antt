-- What is shown of the members of a conjunction, wherever the parents are among the formulas.
use Rattle.std.specs.Prelude.{ℕ, ◌≤◌, List, [], ◌∷◌, length}
use Rattle.fof_terms.specs.declared.form.Form.{Form}
use Rattle.fof_terms.specs.Vocabulary.{Vocabulary}
use Rattle.fof_terms.specs.Sorts.{Sorted, IsScope}
use Rattle.clause_form.specs.declared.path.Parent.{Parent}
use Rattle.kernel.specs.Proves.{Proves}
use Rattle.kernel.specs.declared.proof.Proof.{Proof}
use Rattle.derive_kit.specs.Derived.{AreOfTheory}
use Rattle.clause_proofs.specs.Refuting.{theory_of}
use Rattle.norm_parts.specs.declared.instances.Shown.{Shown}

-- a closed formula that is shown over few variables
pub record IsSource (w : Vocabulary) (parents : List Parent) (shown : Shown) : Type 0 where
  pub sorted : Sorted w [] shown.form
  pub shows : (formulas : List Form) → AreOfTheory (theory_of w formulas) parents → (v : List ℕ) (h : List Form) → IsScope w v → length v ≤ 1000000000 → Proves (theory_of w formulas) v h shown.part shown.form

-- over variables of these sorts, the proof shows the formula
abbrev pub ShowsHere : Vocabulary → List Parent → List ℕ → Form → Proof → Type 0
ShowsHere w parents v a p = (formulas h : List Form) → AreOfTheory (theory_of w formulas) parents → Proves (theory_of w formulas) v h p a

-- the same under what is shared
abbrev pub ShowsUnder : Vocabulary → List Parent → List ℕ → Form → Form → Proof → Type 0
ShowsUnder w parents v shared a p = (formulas h : List Form) → AreOfTheory (theory_of w formulas) parents → Proves (theory_of w formulas) v (shared ∷ h) p a

-- the same of each formula
abbrev pub ShowMembers : Vocabulary → List Parent → List ℕ → Form → List Form → List Proof → Type 0
ShowMembers w parents v shared [] [] = Unit {0}
ShowMembers w parents v shared [] (p ∷ ps) = ⊥
ShowMembers w parents v shared (a ∷ as_) [] = ⊥
ShowMembers w parents v shared (a ∷ as_) (p ∷ ps) = ShowsUnder w parents v shared a p × ShowMembers w parents v shared as_ ps

-- whatever the parents are, the proof shows the second formula under the first
abbrev pub ShowsFrom : Vocabulary → List ℕ → Form → Form → Proof → Type 0
ShowsFrom w v a b p = (formulas h : List Form) → Proves (theory_of w formulas) v (a ∷ h) p b
