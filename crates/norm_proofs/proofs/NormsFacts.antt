-- Proofs between formulas and their normal forms, kind by kind.
use Rattle.std.specs.Prelude.{ℕ, Bool, true, false, not, ◌≡◌, ◌+◌, ◌≤◌, ◌<◌, ◌^◌, ◌↔◌, IsTrue, length, map, flat_map, sum, List, [], ◌∷◌, Some, slice_get, refl}
use Rattle.std.specs.List.{AllByRecursion}
use Rattle.std.proofs.Common.{arith, subst, sym, zero, suc}
use Rattle.fof_terms.specs.declared.form.Form.{Form, Not, And, Or, Imp, Iff}
use Rattle.std.proofs.lemmas.List.{length-map}
use Rattle.fof_terms.specs.Sorts.{binder_depth}
use Rattle.clause_form.specs.Norm.{signed, node, members_of, join, quantifier, quantified, norm_of}
use Rattle.clause_form.proofs.NormFacts.{norm_of-Not, norm_of-And, norm_of-Or, norm_of-Imp, norm_of-Iff, norm_of-All, norm_of-Ex}
use Rattle.clause_form.proofs.NormSize.{norm_small, flat_size, norms_size}
use Rattle.clause_form.specs.Sizes.{norm_size_of}
use Rattle.clause_form.proofs.SizesFacts.{norm_size_of-Not, norm_size_of-And, norm_size_of-Or, norm_size_of-Imp, norm_size_of-Iff}
use Rattle.clause_form.proofs.SizeLaws.{sum_cons, few_by_size, depth_within_size}
use Rattle.kernel.specs.declared.proof.Proof.{Proof, Hyp, ImpI}
use Rattle.norm_proofs.specs.code.Steps.{Between, then_tree, denied_tree, twice_denied_tree}
use Rattle.norm_proofs.proofs.StepsFacts.{same_shows, then_shows, denied_shows, twice_denied_shows}
use Rattle.norm_proofs.specs.code.Connectives.{sides, sides_back, both_sides}
use Rattle.norm_proofs.specs.code.Links.{kind_of, arm_tree, Arms}

-- The normal forms by kind.
pub norm_of_node : (conj g : Bool) (ms : List Form) → norm_of g (node conj ms) ≡ join (kind_of conj g) (map (norm_of g) ms)
norm_of_node true g ms = norm_of-And g ms
norm_of_node false g ms = norm_of-Or g ms

pub norm_of_quantifier : (conj g : Bool) (s : ℕ) (a : Form) → norm_of g (quantifier conj s a) ≡ quantified (kind_of conj g) s (norm_of g a)
norm_of_quantifier true g s a = norm_of-All g s a
norm_of_quantifier false g s a = norm_of-Ex g s a

not_not : (g : Bool) → not (not g) ≡ g
not_not true = refl
not_not false = refl

pub norm_of_sides : (g : Bool) (l r : Form) → norm_of g (Or (sides l r)) ≡ norm_of g (Imp l r)
norm_of_sides g l r = rw (norm_of-Or, norm_of-Not, norm_of-Imp) refl

pub norm_of_both : (g : Bool) (l r : Form) → norm_of g (And (both_sides l r)) ≡ norm_of g (Iff l r)
norm_of_both g l r = rw (norm_of-And, norm_of-Or g (sides l r), norm_of-Or g (sides_back l r), norm_of-Not g l, norm_of-Not g r, norm_of-Iff) refl

-- Sizes.
node_size_of : (conj : Bool) (ms : List Form) → norm_size_of (node conj ms) ≡ 1 + sum (map norm_size_of ms)
node_size_of true ms = norm_size_of-And ms
node_size_of false ms = norm_size_of-Or ms

-- a node has no more members than its size, nor has the node of the normal forms when they are joined
pub few_members : (conj : Bool) (ms : List Form) → length ms ≤ norm_size_of (node conj ms)
few_members conj ms = let e = node_size_of conj ms in let few = few_by_size ms in omega arith

all_small : (ms : List Form) → AllByRecursion (λ a. (g : Bool) → norm_size_of (norm_of g a) ≤ norm_size_of a) ms
all_small [] = tt
all_small (a ∷ ms) = (norm_small a, all_small ms)

pub few_joined : (conj kind g : Bool) (ms : List Form) → length (flat_map (members_of kind) (map (norm_of g) ms)) ≤ norm_size_of (node conj ms)
few_joined conj kind g ms =
    let e = node_size_of conj ms in
    let one = few_by_size (flat_map (members_of kind) (map (norm_of g) ms)) in
    let two = flat_size kind (map (norm_of g) ms) in
    let three = norms_size g ms (all_small ms) in
    omega arith

member_size : (ms : List Form) (k : ℕ) (a : Form) → slice_get ms k ≡ Some a → norm_size_of a ≤ sum (map norm_size_of ms)
member_size [] k a e = cc
member_size (b ∷ ms) zero a e = let same : b ≡ a = cc in rw (sum_cons (norm_size_of b) (map norm_size_of ms), same) (omega arith)
member_size (b ∷ ms) (suc k) a e = rw (sum_cons (norm_size_of b) (map norm_size_of ms)) (omega (arith, member_size ms k a e))

pub small_member : (conj : Bool) (ms : List Form) (k : ℕ) (a : Form) → slice_get ms k ≡ Some a → norm_size_of a ≤ norm_size_of (node conj ms)
small_member conj ms k a e = let one = node_size_of conj ms in let two = member_size ms k a e in omega arith

two_sizes : (a b : Form) → sum (map norm_size_of (a ∷ b ∷ [])) ≡ norm_size_of a + norm_size_of b
two_sizes a b = rw (sum_cons (norm_size_of a) (map norm_size_of (b ∷ [])), sum_cons (norm_size_of b) []) (omega arith)

pub sides_size : (l r : Form) → norm_size_of (Or (sides l r)) ≡ norm_size_of (Imp l r)
sides_size l r = rw (norm_size_of-Or, two_sizes (Not l) r, norm_size_of-Not, norm_size_of-Imp) refl

pub sides_back_size : (l r : Form) → norm_size_of (Or (sides_back l r)) ≡ norm_size_of (Imp l r)
sides_back_size l r = rw (norm_size_of-Or, two_sizes l (Not r), norm_size_of-Not, norm_size_of-Imp) refl

pub both_size : (l r : Form) → norm_size_of (And (both_sides l r)) ≡ norm_size_of (Iff l r)
both_size l r =
    let one = sides_size l r in
    let two = sides_back_size l r in
    let three = norm_size_of-Imp l r in
    rw (norm_size_of-And, two_sizes (Or (sides l r)) (Or (sides_back l r)), norm_size_of-Iff) (omega arith)

-- The steps.
pub not_plus : (g forth : Bool) (n : ℕ) (p : Proof) (a b : Form) → g ≡ true → Between forth n p (signed (not g) a) b → Between forth n p (signed g (Not a)) b
not_plus true forth n p a b e l = l
not_plus false forth n p a b e l = absurd (let never : false ≡ true = e in cc)

pub not_minus : (g forth : Bool) (n : ℕ) (p q : Proof) (a b : Form) → g ≡ false → q ≡ then_tree forth (Not (Not a)) b (twice_denied_tree forth a) p
    → Between forth n p (signed (not g) a) b → Between forth n q (signed g (Not a)) b
not_minus true forth n p q a b e is l = absurd (let never : true ≡ false = e in cc)
not_minus false forth n p q a b e is l = rw is (then_shows forth n _ p (Not (Not a)) a b (twice_denied_shows forth n a) l)

pub node_shows : (conj g forth : Bool) (n : ℕ) (ms : List Form) (p q : Proof) → Between forth n p (signed g (node conj ms)) (node (kind_of conj g) (map (norm_of g) ms))
    → Between forth n q (node (kind_of conj g) (map (norm_of g) ms)) (join (kind_of conj g) (map (norm_of g) ms))
    → Between forth n (then_tree forth (signed g (node conj ms)) (join (kind_of conj g) (map (norm_of g) ms)) p q) (signed g (node conj ms)) (norm_of g (node conj ms))
node_shows conj g forth n ms p q k l =
    rw (norm_of_node conj g ms)
    (then_shows forth n p q (signed g (node conj ms)) (node (kind_of conj g) (map (norm_of g) ms)) (join (kind_of conj g) (map (norm_of g) ms)) k l)

-- members that are their own normal forms
pub unlinked_shows : (conj forth : Bool) (n : ℕ) (ms ns : List Form) → ms ≡ ns → Between forth n (ImpI (node conj ms) (Hyp 0)) (node conj ms) (node (kind_of conj true) ns)
unlinked_shows true forth n ms ns e = rw (sym e) (same_shows forth n (And ms))
unlinked_shows false forth n ms ns e = rw (sym e) (same_shows forth n (Or ms))

-- a formula as another of the same normal form, or under minus both negated
pub by_other : (g forth : Bool) (n : ℕ) (a b : Form) (p q : Proof) → Between forth n p (signed g a) (signed g b) → norm_of g b ≡ norm_of g a → Between forth n q (signed g b) (norm_of g b)
    → Between forth n (then_tree forth (signed g a) (norm_of g b) p q) (signed g a) (norm_of g a)
by_other g forth n a b p q l e k =
    subst (λ c. Between forth n (then_tree forth (signed g a) (norm_of g b) p q) (signed g a) c) e (then_shows forth n p q (signed g a) (signed g b) (norm_of g b) l k)

pub signed_plus : (g forth : Bool) (n : ℕ) (a b : Form) (p : Proof) → g ≡ true → Between forth n p a b → Between forth n p (signed g a) (signed g b)
signed_plus true forth n a b p e l = l
signed_plus false forth n a b p e l = absurd (let never : false ≡ true = e in cc)

pub signed_minus : (g forth : Bool) (n : ℕ) (a b : Form) (p q : Proof) → g ≡ false → q ≡ denied_tree forth a b p → Between (not forth) n p a b → Between forth n q (signed g a) (signed g b)
signed_minus true forth n a b p q e is l = absurd (let never : true ≡ false = e in cc)
signed_minus false forth n a b p q e is l = rw is (denied_shows forth n p a b l)

pub pair_arms : (conj g forth : Bool) (n : ℕ) (a b : Form) (p q : Proof) → Between forth n p (signed g a) (norm_of g a) → Between forth n q (signed g b) (norm_of g b)
    → Arms conj g forth n (a ∷ b ∷ []) (a ∷ b ∷ [])
    (arm_tree conj g forth (a ∷ b ∷ []) (map (norm_of g) (a ∷ b ∷ [])) 0 a p ∷ arm_tree conj g forth (a ∷ b ∷ []) (map (norm_of g) (a ∷ b ∷ [])) 1 b q ∷ [])
pair_arms conj g forth n a b p q l k = ((refl, (p, refl, l)), ((refl, (q, refl, k)), tt))

-- Room for code.
pub room : (a : Form) → norm_size_of a ≤ 100000 → binder_depth a < 2 ^ 32
room a le = let few = depth_within_size a in omega arith

pub few_norms : (conj g : Bool) (ms ns : List Form) → ns ≡ map (norm_of g) ms → norm_size_of (node conj ms) ≤ 100000 → length ns ≤ 100000
few_norms conj g ms ns e le = let few = few_members conj ms in rw (e, length-map) (omega arith)

pub few_flat : (conj kind g : Bool) (ms ns : List Form) → ns ≡ map (norm_of g) ms → norm_size_of (node conj ms) ≤ 100000 → length (flat_map (members_of kind) ns) ≤ 100000
few_flat conj kind g ms ns e le = let few = few_joined conj kind g ms in rw e (omega arith)

pub sides_small : (l r : Form) → norm_size_of (Imp l r) ≤ 100000 → (norm_size_of l ≤ 100000) × (norm_size_of r ≤ 100000)
sides_small l r le = let same = norm_size_of-Imp l r in (omega arith, omega arith)

pub iff_small : (l r : Form) → norm_size_of (Iff l r) ≤ 100000 → norm_size_of (Imp l r) ≤ 100000
iff_small l r le = let same = norm_size_of-Iff l r in let other = norm_size_of-Imp l r in omega arith

pub same_if : (b : Bool) (X : Type 0) → (IsTrue b ↔ X) → b ≡ true → X
same_if true X h e = h.0 refl
same_if false X h e = absurd (let never : false ≡ true = e in cc)
