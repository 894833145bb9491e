-- What private contracts say, beside the definitions of specs/Concludes.
use Rattle.std.specs.Prelude.{ℕ, ◌≡◌, ◌↔◌, ◌+◌, ◌≤◌, List, [], ◌∷◌, length, Option, Some, Bool, IsTrue}
use Rattle.std.specs.List.{AllByRecursion}
use Rattle.fof_terms.specs.Vocabulary.{Vocabulary}
use Rattle.fof_terms.specs.Sorts.{IsScope, Sorted}
use Rattle.fof_terms.specs.declared.form.Form.{Form}
use Rattle.kernel.specs.Statements.{Statements}
use Rattle.kernel.specs.Proves.{Proves}
use Rattle.kernel.specs.declared.proof.Proof.{Proof}

-- the same under a hypothesis, which is to be well-sorted
abbrev pub ConcludesUnder : Statements → List ℕ → List Form → Form → Proof → Option Form → Type 0
ConcludesUnder t v h b p answer = (a : Form) → (answer ≡ Some a) ↔ (Sorted t.vocabulary v b × Proves t v (b ∷ h) p a)

-- the goal, where the rest of its rule holds and it is well-sorted, and else none
abbrev pub Kept : Statements → List ℕ → Form → Bool → Option Form → Type 0
Kept t v goal holds answer = (a : Form) → (answer ≡ Some a) ↔ ((a ≡ goal) × IsTrue holds × Sorted t.vocabulary v goal)

-- the same within a proof, with room for so many variables more, where so many were crossed
pub record IsReach (v : Vocabulary) (scope : List ℕ) (h : List Form) (room crossed : ℕ) : Type 0 where
  pub scope_fits : IsScope v scope
  pub room_left : length scope + room ≡ 2147483647
  pub few_crossed : crossed ≤ length scope
  pub hyps_sorted : AllByRecursion (Sorted v scope) h

-- each proof shows the goal under the member at its place, which is well-sorted
abbrev pub EachUnder : Statements → List ℕ → List Form → Form → List Proof → List Form → Type 0
EachUnder t v h goal [] [] = Unit {0}
EachUnder t v h goal [] (b ∷ bs) = ⊥
EachUnder t v h goal (p ∷ ps) [] = ⊥
EachUnder t v h goal (p ∷ ps) (b ∷ bs) = (Sorted t.vocabulary v b × Proves t v (b ∷ h) p goal) × EachUnder t v h goal ps bs
