-- From a formula to its normal form by way of its negation's, and back.
use Rattle.std.specs.Prelude.{ℕ, Bool, true, false, not, ◌≡◌, ◌+◌, ◌≤◌, ◌<◌, length}
use Rattle.std.proofs.Common.{arith, sym, subst}
use Rattle.fof_terms.specs.declared.form.Form.{Form, Not}
use Rattle.fof_terms.specs.Sorts.{Sorted, binder_depth}
use Rattle.fof_terms.proofs.Scoped.{not_sorted}
use Rattle.clause_form.specs.Norm.{norm_of}
use Rattle.clause_form.proofs.NormSize.{norm_small}
use Rattle.clause_form.proofs.NormSorts.{norm_depth}
use Rattle.clause_form.specs.Sizes.{norm_size_of}
use Rattle.kernel.specs.declared.proof.Proof.{Proof}
use Rattle.norm_proofs.specs.code.Steps.{Between, then_tree, denied_tree, twice_denied_tree}
use Rattle.norm_proofs.proofs.StepsFacts.{other_sorted, roomier, then_shows, denied_shows, twice_denied_shows}
use Rattle.norm_proofs.specs.code.Placed.{IsPlaced}
use Rattle.norm_proofs.specs.code.Recursion.{IsStep}

twice_turned : (forth : Bool) (n : ℕ) (a : Form) → Between forth n (twice_denied_tree (not forth) a) a (Not (Not a))
twice_turned true n a t v h room s = twice_denied_shows false n a t v h room (not_sorted t.vocabulary v 2147483647 (Not a) (not_sorted t.vocabulary v 2147483647 a s))
twice_turned false n a t v h room s = twice_denied_shows true n a t v h room (not_sorted t.vocabulary v 2147483647 (Not a) (not_sorted t.vocabulary v 2147483647 a s))

-- from a formula to what another one's negation leads to, where the formula's negation and the other one are led from one to the
-- other
turned_shows : (forth : Bool) (n : ℕ) (a b c : Form) (p q : Proof) → Between (not forth) n p (Not a) b → Between forth n q (Not b) c
    → Between forth n (then_tree forth a c (twice_denied_tree (not forth) a) (then_tree forth (Not (Not a)) c (denied_tree forth (Not a) b p) q)) a c
turned_shows forth n a b c p q l k =
    then_shows forth n _ _ a (Not (Not a)) c (twice_turned forth n a) (then_shows forth n _ q (Not (Not a)) (Not b) c (denied_shows forth n p (Not a) b l) k)

pub turned_made : (forth : Bool) (n : ℕ) (a b a1 na b1 nn c0 c1 : Form) (p q turned inner outer made : Proof) → made ≡ then_tree forth a1 c0 outer inner → a1 ≡ a → outer ≡ twice_denied_tree (not forth) a
    → inner ≡ then_tree forth nn c1 turned q → nn ≡ Not (Not a) → c1 ≡ norm_of false b → c0 ≡ norm_of false b → turned ≡ denied_tree forth na b1 p → na ≡ Not a → b1 ≡ b
    → Between (not forth) n p (Not a) b → Between forth n q (Not b) (norm_of false b) → Between forth n made a (norm_of false b)
turned_made forth n a b a1 na b1 nn c0 c1 p q turned inner outer made em ea eo ei en e1 e0 et ena eb l k =
    rw (em, ea, eo, ei, en, e1, e0, et, ena, eb) (turned_shows forth n a b (norm_of false b) p q l k)

-- the normal form of the negation
module _ (form b : Form) (is : b ≡ norm_of false form) where
  pub denied_small : norm_size_of form ≤ 100000 → norm_size_of b ≤ 100000
  denied_small le = let less = norm_small form false in rw is (omega arith)

  denied_depth : binder_depth b ≤ binder_depth form
  denied_depth = rw is (norm_depth form false)

  module _ (forth : Bool) (p : Proof) (l : IsStep false (not forth) form p) where
    pub denied_placed : IsPlaced form → IsPlaced b
    denied_placed w =
        let s = other_sorted (not forth) (binder_depth form) p (Not form) (norm_of false form) l w.theory w.scope w.room (not_sorted w.theory.vocabulary w.scope 2147483647 form w.sorted) in
        let room : binder_depth b + length w.scope < 2147483647 = omega (arith, denied_depth, w.room) in
        record { theory = w.theory; scope = w.scope; room = room; sorted = subst (λ a. Sorted w.theory.vocabulary w.scope a) (sym is) s }

    pub turned_done : (q made : Proof) → norm_of false b ≡ norm_of true form → IsStep false forth b q
        → ((n : ℕ) → Between (not forth) n p (Not form) b → Between forth n q (Not b) (norm_of false b) → Between forth n made form (norm_of false b)) → IsStep true forth form made
    turned_done q made same k f =
        let n = binder_depth form in
        let l' : Between (not forth) n p (Not form) b = subst (λ a. Between (not forth) n p (Not form) a) (sym is) l in
        subst (λ a. Between forth n made form a) same (f n l' (roomier forth (binder_depth b) n q (Not b) (norm_of false b) denied_depth k))
