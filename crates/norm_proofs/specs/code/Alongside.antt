-- From a formula to the closed clause that a path reaches in it.
use Rattle.std.specs.Prelude.{ℕ, zero, suc, ◌+◌, ◌≡◌, ◌<◌, false, List, [], ◌∷◌, length, Some, slice_get, if◌then◌else◌}
use Rattle.fof_terms.specs.declared.term.Term.{Var}
use Rattle.fof_terms.specs.declared.form.Form.{Form, And, All}
use Rattle.fof_terms.specs.Sorts.{SortedTo, Sorted}
use Rattle.clause_form.specs.declared.clause.Clause.{Clause}
use Rattle.clause_form.specs.ClauseView.{form_of_lits, closed}
use Rattle.clause_form.specs.Norm.{alone}
use Rattle.clause_form.specs.Reached.{around}
use Rattle.kernel.specs.Statements.{Statements}
use Rattle.kernel.specs.Proves.{Proves}
use Rattle.kernel.specs.declared.proof.Proof.{Proof, Hyp, AndE, OrI, OrE, ImpI, ImpE, AllI, AllE}
use Rattle.norm_proofs.specs.code.Applying.{applied, is_itself}
use Rattle.norm_proofs.specs.code.Joining.{numbered}
use Rattle.norm_proofs.specs.Numbering.{general, near}

-- the disjunction of the formulas, one alone being itself, by the one of number k
abbrev pub chosen : List Form → ℕ → Proof → Proof
chosen [] k p = OrI [] k p
chosen (a ∷ []) k p = p
chosen (a ∷ b ∷ as_) k p = OrI (a ∷ b ∷ as_) k p

-- the disjunction of the formulas, by that of n of them from number k on
abbrev pub by_segment : List Form → ℕ → ℕ → Proof → Proof
by_segment as_ k zero p = OrE (alone false as_) p []
by_segment as_ k (suc zero) p = chosen as_ k p
by_segment as_ k (suc (suc n)) p = OrE (alone false as_) p (numbered (λ j. chosen as_ j (Hyp 0)) k (suc (suc n)))

-- the whole closed clause by one that stands in it, with e variables nearer and k literals before
abbrev pub widened : List ℕ → List Form → ℕ → ℕ → ℕ → ℕ → Proof
widened sorts as_ e n k m = general sorts (by_segment as_ k m (near e n (Hyp 0)))

-- the same by the member that leads to that clause
abbrev pub member_tree : Clause → Clause → List Form → ℕ → ℕ → Proof → Proof
member_tree whole c as_ e k q = ImpE (ImpI (closed c) (widened whole.sorts as_ e (length c.sorts) k (length c.lits))) (applied q (Hyp 0))

abbrev pub pick_tree : List Form → ℕ → Proof → Proof
pick_tree as_ k q = ImpI (And as_) (applied q (AndE k (Hyp 0)))

-- itself, where the body leads to itself
unfoldable pub under_tree : ℕ → Form → Proof → Proof
under_tree s a q = if is_itself q then ImpI (All s a) (Hyp 0) else ImpI (All s a) (AllI s (ImpE q (AllE (Var 0) (Hyp 0))))

abbrev pub ArmAt : Clause → List Form → ℕ → Form → Proof → Type 0
ArmAt whole as_ k a p =
    (slice_get as_ k ≡ Some a)
    × ((t : Statements) (v : List ℕ) (h : List Form) → length whole.sorts + length v < 2147483647 → SortedTo 0 t.vocabulary (around whole.sorts v) (form_of_lits whole.lits) → Sorted t.vocabulary v a → Proves t v (a ∷ h) p (closed whole))
