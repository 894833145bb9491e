-- What a chain of instances concludes, where the terms are put in place at once.
use Rattle.std.specs.Prelude.{ℕ, ◌≡◌, ◌+◌, ◌≤◌, List, [], ◌∷◌, ◌++◌, length, reverse, Some, None, Option, refl}
use Rattle.std.proofs.Common.{ap, sym, ◌∙◌, arith}
use Rattle.std.proofs.lemmas.List.{reverse-append}
use Rattle.fof_terms.specs.Vocabulary.{Vocabulary}
use Rattle.fof_terms.specs.declared.term.Term.{Term}
use Rattle.fof_terms.specs.declared.form.Form.{Form, All}
use Rattle.fof_terms.specs.Sorts.{sort_of_term, binder_depth}
use Rattle.fof_terms.proofs.SortsFacts.{binder_depth-All}
use Rattle.fof_terms.specs.Instance.{instance_at}
use Rattle.fof_terms.proofs.MoreReaches.{own_reach}
use Rattle.kernel.specs.Statements.{Statements}
use Rattle.kernel.specs.declared.proof.Proof.{Proof, AllE}
use Rattle.proof_check.specs.Concludes.{Concludes}
use Rattle.proof_check.specs.code.JointInstance.{joint_instance_at, IsMovable}
use Rattle.proof_check.proofs.Concluded.{some_same}
use Rattle.proof_check.proofs.ConcludedOver.{all_e_yes, all_e_no, all_e_none}
use Rattle.proof_check.proofs.JointFacts.{joint_instance_at-All, joint_more, joint_all}

pub has_movable : (v : Vocabulary) (scope : List ℕ) (y : Term) (s : ℕ) → length scope ≤ 2147483647 → sort_of_term v scope y ≡ Some s → IsMovable y
has_movable v scope y s few e d = omega (arith, own_reach v scope d y (s, e), few)

pub few_within : (s : ℕ) (a b : Form) → a ≡ All s b → binder_depth a ≤ 2147483647 → binder_depth b ≤ 2147483647
few_within s a b e few = let more : binder_depth b + 1 ≤ 2147483647 = rw (e, binder_depth-All) at few in omega arith

last_term : (y : Term) (ts : List Term) (b : Form) → joint_instance_at (reverse (ts ++ y ∷ [])) 0 b ≡ instance_at y 0 (joint_instance_at (reverse ts) 1 b)
last_term y ts b = ap (λ us. joint_instance_at us 0 b) (reverse-append ts (y ∷ [])) ∙ sym (joint_more y (reverse ts) b 0)

for_all : (ts : List Term) (a : Form) (s : ℕ) (b : Form) → a ≡ All s b → joint_instance_at (reverse ts) 0 a ≡ All s (joint_instance_at (reverse ts) 1 b)
for_all ts a s b e = ap (joint_instance_at (reverse ts) 0) e ∙ joint_instance_at-All (reverse ts) 0 s b

module _ (t : Statements) (v : List ℕ) (h : List Form) (y : Term) (p : Proof) (shown : Option Form) (co : Concludes t v h p shown) where
  pub chain_empty : shown ≡ None → Concludes t v h (AllE y p) None
  chain_empty e = all_e_none t v h y p shown co (λ s b some. let both : None ≡ Some (All s b) = sym e ∙ some in cc)

  module _ (ts : List Term) (a : Form) (e : shown ≡ Some (joint_instance_at (reverse ts) 0 a)) where
    pub chain_more : (s : ℕ) (b : Form) (r : Option Form) → a ≡ All s b → sort_of_term t.vocabulary v y ≡ Some s → r ≡ Some (joint_instance_at (reverse (ts ++ y ∷ [])) 0 b) → Concludes t v h (AllE y p) r
    chain_more s b r is es er = all_e_yes t v h y p shown r s (joint_instance_at (reverse ts) 1 b) co (e ∙ ap Some (for_all ts a s b is)) es (er ∙ ap Some (last_term y ts b))

    pub chain_other : (s : ℕ) (b : Form) → a ≡ All s b → (sort_of_term t.vocabulary v y ≡ Some s → ⊥) → Concludes t v h (AllE y p) None
    chain_other s b is none = all_e_no t v h y p shown s (joint_instance_at (reverse ts) 1 b) co (e ∙ ap Some (for_all ts a s b is)) none

    pub chain_none : ((s : ℕ) (b : Form) → a ≡ All s b → ⊥) → Concludes t v h (AllE y p) None
    chain_none none = all_e_none t v h y p shown co (λ s b some. let found = joint_all (reverse ts) a 0 s b (some_same (sym e ∙ some)) in absurd (none s found.0 found.1))
