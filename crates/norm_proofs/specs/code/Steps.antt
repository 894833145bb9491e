-- Proofs of implications between two formulas, one way or the other, and how they are put together.
use Rattle.std.specs.Prelude.{ℕ, Bool, true, false, ◌+◌, ◌<◌, length, List, if◌then◌else◌}
use Rattle.fof_terms.specs.declared.form.Form.{Form, Not, Imp}
use Rattle.fof_terms.specs.Sorts.{Sorted}
use Rattle.kernel.specs.Statements.{Statements}
use Rattle.kernel.specs.Proves.{Proves}
use Rattle.kernel.specs.declared.proof.Proof.{Proof, Hyp, ImpI, ImpE, NotI, NotE, Raa}
use Rattle.norm_proofs.specs.code.Applying.{applied, is_itself}

-- the implication from the first formula to the second, or back
abbrev pub aimed : Bool → Form → Form → Form
aimed true a b = Imp a b
aimed false a b = Imp b a

-- in every theory and every context that has room for n variables more and in which the first formula is well-sorted,
-- the proof shows that it implies the second, or back
abbrev pub Between : Bool → ℕ → Proof → Form → Form → Type 0
Between forth n p a b = (t : Statements) (v : List ℕ) (h : List Form) → n + length v < 2147483647 → Sorted t.vocabulary v a → Proves t v h p (aimed forth a b)

-- from the first formula by the middle one to the last, or back
abbrev pub chain_tree : Bool → Form → Form → Proof → Proof → Proof
chain_tree true a c p q = ImpI a (ImpE q (ImpE p (Hyp 0)))
chain_tree false a c p q = ImpI c (ImpE p (ImpE q (Hyp 0)))

-- the same, by one of the two alone where the other goes from a formula to itself
unfoldable pub then_tree : Bool → Form → Form → Proof → Proof → Proof
then_tree forth a c p q = if is_itself p then q else (if is_itself q then p else chain_tree forth a c p q)

-- between the negations, the other way
abbrev pub denied_tree : Bool → Form → Form → Proof → Proof
denied_tree true a b p = ImpI (Not a) (NotI b (NotE (Hyp 1) (applied p (Hyp 0))))
denied_tree false a b p = ImpI (Not b) (NotI a (NotE (Hyp 1) (applied p (Hyp 0))))

-- under two negations
abbrev pub twice_denied_tree : Bool → Form → Proof
twice_denied_tree true a = ImpI (Not (Not a)) (Raa a (NotE (Hyp 1) (Hyp 0)))
twice_denied_tree false a = ImpI a (NotI (Not a) (NotE (Hyp 0) (Hyp 1)))
