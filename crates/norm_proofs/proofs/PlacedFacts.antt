-- Lemmas on what specs/Placed defines.
use Rattle.std.specs.Prelude.{ℕ, Bool, true, false, ◌≡◌, ◌+◌, ◌≤◌, ◌<◌, ◌^◌, length, map, List, [], ◌∷◌, Some, slice_get}
use Rattle.std.specs.List.{AllByRecursion}
use Rattle.std.proofs.Common.{arith, zero, suc}
use Rattle.fof_terms.specs.declared.form.Form.{Form, Not, Imp, Iff}
use Rattle.fof_terms.specs.Lift.{lift_reach, greatest}
use Rattle.fof_terms.specs.Sorts.{binder_depth, Sorted}
use Rattle.fof_terms.proofs.SortsFacts.{binder_depth-Not, binder_depth-And, binder_depth-Or, binder_depth-Imp, binder_depth-Iff, binder_depth-All, binder_depth-Ex}
use Rattle.fof_terms.specs.Vocabulary.{Vocabulary}
use Rattle.fof_terms.proofs.Scoped.{raised, member_of, sorted_of_not, sorted_of_and, sorted_of_or, sorted_of_imp, sorted_of_iff, sorted_of_all, sorted_of_ex}
use Rattle.fof_terms.proofs.Reaches.{sorted_reach}
use Rattle.clause_form.specs.Norm.{signed, node, quantifier, norm_of}
use Rattle.clause_form.proofs.NormSorts.{norm_depth}
use Rattle.clause_form.specs.Sizes.{norm_size_of}
use Rattle.clause_form.proofs.SizeLaws.{depth_within_size}
use Rattle.kernel.specs.declared.proof.Proof.{Proof}
use Rattle.kernel.specs.Statements.{Statements}
use Rattle.norm_proofs.specs.code.Steps.{Between}
use Rattle.norm_proofs.proofs.StepsFacts.{other_sorted}
use Rattle.norm_proofs.proofs.LinksFacts.{signed_sorted}
use Rattle.norm_proofs.specs.code.Placed.{IsPlaced}
use Rattle.norm_proofs.specs.Placed.{SortedSomewhere}

depth_of_member : (as_ : List Form) (k : ℕ) (a : Form) → slice_get as_ k ≡ Some a → binder_depth a ≤ greatest (map binder_depth as_)
depth_of_member [] k a e = cc
depth_of_member (b ∷ as_) zero a e = let same : b ≡ a = cc in rw same (omega arith)
depth_of_member (b ∷ as_) (suc k) a e = omega (arith, depth_of_member as_ k a e)

pub member_depth : (conj : Bool) (as_ : List Form) (k : ℕ) (a : Form) → slice_get as_ k ≡ Some a → binder_depth a ≤ binder_depth (node conj as_)
member_depth true as_ k a e = rw binder_depth-And (depth_of_member as_ k a e)
member_depth false as_ k a e = rw binder_depth-Or (depth_of_member as_ k a e)

pub quantifier_depth : (conj : Bool) (s : ℕ) (a : Form) → binder_depth (quantifier conj s a) ≡ binder_depth a + 1
quantifier_depth true s a = binder_depth-All s a
quantifier_depth false s a = binder_depth-Ex s a

members_sorted : (conj : Bool) (as_ : List Form) (t : Statements) (v : List ℕ) → Sorted t.vocabulary v (node conj as_) → AllByRecursion (Sorted t.vocabulary v) as_
members_sorted true as_ t v s = sorted_of_and t.vocabulary v 2147483647 as_ s
members_sorted false as_ t v s = sorted_of_or t.vocabulary v 2147483647 as_ s

body_sorted : (conj : Bool) (s : ℕ) (a : Form) (t : Statements) (v : List ℕ) → length v < 2147483647 → Sorted t.vocabulary v (quantifier conj s a) → Sorted t.vocabulary (s ∷ v) a
body_sorted true s a t v room r = raised t.vocabulary (s ∷ v) 2147483646 2147483647 a (omega arith) (sorted_of_all t.vocabulary v 2147483647 2147483646 s a (omega arith) room r)
body_sorted false s a t v room r = raised t.vocabulary (s ∷ v) 2147483646 2147483647 a (omega arith) (sorted_of_ex t.vocabulary v 2147483647 2147483646 s a (omega arith) room r)

-- parts are placed where the whole is
pub placed_not : (form a b : Form) → form ≡ Not a → b ≡ a → IsPlaced form → IsPlaced b
placed_not form a b is e p =
    let s : Sorted p.theory.vocabulary p.scope (Not a) = rw is at p.sorted in
    let room : binder_depth a + length p.scope < 2147483647 = rw (is, binder_depth-Not) at p.room in
    rw e (record { theory = p.theory; scope = p.scope; room = room; sorted = sorted_of_not p.theory.vocabulary p.scope 2147483647 a s })

pub placed_imp : (form l r : Form) → form ≡ Imp l r → IsPlaced form → IsPlaced l × IsPlaced r
placed_imp form l r is p =
    let s : Sorted p.theory.vocabulary p.scope (Imp l r) = rw is at p.sorted in
    let parts = sorted_of_imp p.theory.vocabulary p.scope 2147483647 l r s in
    let room = (rw (is, binder_depth-Imp) at p.room) in
    (record { theory = p.theory; scope = p.scope; room = omega (arith, room); sorted = parts.0 }, record { theory = p.theory; scope = p.scope; room = omega (arith, room); sorted = parts.1 })

pub placed_iff : (form l r : Form) → form ≡ Iff l r → IsPlaced form → IsPlaced l × IsPlaced r
placed_iff form l r is p =
    let s : Sorted p.theory.vocabulary p.scope (Iff l r) = rw is at p.sorted in
    let parts = sorted_of_iff p.theory.vocabulary p.scope 2147483647 l r s in
    let room = (rw (is, binder_depth-Iff) at p.room) in
    (record { theory = p.theory; scope = p.scope; room = omega (arith, room); sorted = parts.0 }, record { theory = p.theory; scope = p.scope; room = omega (arith, room); sorted = parts.1 })

pub placed_same : (form a : Form) → form ≡ a → IsPlaced form → IsPlaced a
placed_same form a is p = rw is at p

pub placed_member : (conj : Bool) (ms : List Form) (k : ℕ) (a : Form) → slice_get ms k ≡ Some a → IsPlaced (node conj ms) → IsPlaced a
placed_member conj ms k a e p =
    let few = member_depth conj ms k a e in
    record { theory = p.theory; scope = p.scope; room = omega (arith, p.room); sorted = member_of (Sorted p.theory.vocabulary p.scope) ms k a (members_sorted conj ms p.theory p.scope p.sorted) e }

pub placed_body : (conj : Bool) (s : ℕ) (a : Form) → IsPlaced (quantifier conj s a) → IsPlaced a
placed_body conj s a p =
    let depth = quantifier_depth conj s a in
    record { theory = p.theory; scope = s ∷ p.scope; room = omega (arith, p.room); sorted = body_sorted conj s a p.theory p.scope (omega (arith, p.room)) p.sorted }

-- the body of a quantifier, and its normal form, may be lifted past the nearest variable
pub body_reach : (conj : Bool) (s : ℕ) (a : Form) → IsPlaced (quantifier conj s a) → lift_reach 1 1 a < 2 ^ 32
body_reach conj s a p =
    let depth = quantifier_depth conj s a in
    let r = body_sorted conj s a p.theory p.scope (omega (arith, p.room)) p.sorted in
    omega (arith, p.room, sorted_reach p.theory.vocabulary a (s ∷ p.scope) 1 (omega arith) r.fits)

pub norm_reach : (conj g forth : Bool) (s : ℕ) (a : Form) (q : Proof) → Between forth (binder_depth a) q (signed g a) (norm_of g a) → IsPlaced (quantifier conj s a) → lift_reach 1 1 (norm_of g a) < 2 ^ 32
norm_reach conj g forth s a q l p =
    let depth = quantifier_depth conj s a in
    let few = norm_depth a g in
    let r = body_sorted conj s a p.theory p.scope (omega (arith, p.room)) p.sorted in
    let rn = other_sorted forth (binder_depth a) q (signed g a) (norm_of g a) l p.theory (s ∷ p.scope) (omega (arith, p.room)) (signed_sorted p.theory (s ∷ p.scope) g a r) in
    omega (arith, p.room, sorted_reach p.theory.vocabulary (norm_of g a) (s ∷ p.scope) 1 (omega arith) rn.fits)

pub placed_start : (a : Form) → norm_size_of a ≤ 100000 → SortedSomewhere a → IsPlaced a
placed_start a le s = record { theory = record { vocabulary = s.0; formulas = [] }; scope = s.1; room = omega (arith, depth_within_size a, le, s.2); sorted = s.3 }

pub start_room : (a : Form) (v : List ℕ) → norm_size_of a ≤ 100000 → length v ≤ 1000000000 → binder_depth a + length v < 2147483647
start_room a v le few = omega (arith, depth_within_size a)
