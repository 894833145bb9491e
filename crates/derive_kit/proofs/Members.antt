-- Members of short lists, and the sides of what is well-sorted.
use Rattle.std.specs.Prelude.{ℕ, List, ◌∷◌, refl}
use Rattle.fof_terms.specs.declared.form.Form.{Form, Imp}
use Rattle.fof_terms.specs.Sorts.{Sorted}
use Rattle.fof_terms.proofs.Scoped.{sorted_of_imp}
use Rattle.kernel.specs.Statements.{Statements}
use Rattle.kernel.specs.Proves.{Proves}
use Rattle.kernel.proofs.Building.{shown_sorted, by_hyp}
use Rattle.kernel.specs.declared.proof.Proof.{Proof, Hyp}

-- a hypothesis at hand
module _ (t : Statements) (v : List ℕ) (h : List Form) where
  pub first : (a : Form) → Sorted t.vocabulary v a → Proves t v (a ∷ h) (Hyp 0) a
  first a s = by_hyp t v (a ∷ h) 0 a s refl

  pub second : (a b : Form) → Sorted t.vocabulary v b → Proves t v (a ∷ b ∷ h) (Hyp 1) b
  second a b s = by_hyp t v (a ∷ b ∷ h) 1 b s refl

  pub third : (a b c : Form) → Sorted t.vocabulary v c → Proves t v (a ∷ b ∷ c ∷ h) (Hyp 2) c
  third a b c s = by_hyp t v (a ∷ b ∷ c ∷ h) 2 c s refl

  pub left_sorted : (p : Proof) (a b : Form) → Proves t v h p (Imp a b) → Sorted t.vocabulary v a
  left_sorted p a b w = (sorted_of_imp t.vocabulary v 2147483647 a b (shown_sorted t v h p (Imp a b) w)).0

  pub right_sorted : (p : Proof) (a b : Form) → Proves t v h p (Imp a b) → Sorted t.vocabulary v b
  right_sorted p a b w = (sorted_of_imp t.vocabulary v 2147483647 a b (shown_sorted t v h p (Imp a b) w)).1
