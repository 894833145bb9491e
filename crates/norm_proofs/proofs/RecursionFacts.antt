-- Lemmas on what specs/code/Recursion defines.
use Rattle.std.specs.Prelude.{ℕ, Bool, true, false, not, ◌≡◌, ◌+◌, ◌≤◌, ◌<◌, ◌^◌, ◌-◌, max, length, map, take, get_or, List, [], ◌∷◌, ◌++◌, Some, slice_get, refl}
use Rattle.std.proofs.Common.{arith, sym, subst, ◌∙◌}
use Rattle.fof_terms.specs.declared.form.Form.{Form, Not, Or, Imp, Iff}
use Rattle.fof_terms.specs.Lift.{lift_reach}
use Rattle.fof_terms.specs.Sorts.{binder_depth}
use Rattle.fof_terms.proofs.SortsFacts.{binder_depth-Not, binder_depth-Imp, binder_depth-Iff}
use Rattle.clause_form.specs.Norm.{signed, node, quantifier, quantified, norm_of}
use Rattle.clause_form.proofs.NormFacts.{norm_of-Not}
use Rattle.clause_form.proofs.NormSorts.{norm_depth}
use Rattle.clause_form.specs.Sizes.{norm_size_of}
use Rattle.clause_form.proofs.SizesFacts.{norm_size_of-Not, norm_size_of-All, norm_size_of-Ex}
use Rattle.clause_form.proofs.SizeLaws.{depth_within_size}
use Rattle.kernel.specs.declared.proof.Proof.{Proof, Hyp, ImpI}
use Rattle.norm_proofs.specs.code.Steps.{Between}
use Rattle.norm_proofs.proofs.StepsFacts.{roomier, same_shows}
use Rattle.norm_proofs.specs.code.Connectives.{sides, sides_back}
use Rattle.norm_proofs.specs.code.Links.{kind_of, arm_tree, Arm, PartsFrom}
use Rattle.norm_proofs.proofs.LinksFacts.{parts_more}
use Rattle.norm_proofs.proofs.NormsFacts.{norm_of_quantifier, sides_small, iff_small}
use Rattle.std.proofs.lemmas.List.{map-append}
use Rattle.norm_proofs.proofs.Places.{take_more}
use Rattle.norm_proofs.specs.code.Placed.{IsPlaced}
use Rattle.norm_proofs.proofs.PlacedFacts.{quantifier_depth, member_depth, placed_imp, placed_iff, norm_reach}
use Rattle.norm_proofs.specs.code.Recursion.{IsStep, MemberSteps}

module _ (g forth : Bool) (form : Form) (made : Proof) where
  pub normal_done : (f : Form) → g ≡ true → norm_of true form ≡ form → made ≡ ImpI f (Hyp 0) → f ≡ form → IsStep g forth form made
  normal_done f e same is ef = rw (e, same, is, ef) (same_shows forth (binder_depth form) form)

  pub norm_done : (x b : Form) → form ≡ b → x ≡ norm_of g b → x ≡ norm_of g form
  norm_done x b is e = rw is e

  pub normal_norm : (x f : Form) → g ≡ true → norm_of true form ≡ form → x ≡ f → f ≡ form → x ≡ norm_of g form
  normal_norm x f e same ex ef = rw (e, same, ex, ef) refl

  pub literal_done : norm_of g form ≡ signed g form → Between forth (binder_depth form) made (signed g form) (signed g form) → IsStep g forth form made
  literal_done e l = rw e l

  pub not_done : (body b : Form) → form ≡ Not body → b ≡ body → IsStep g forth (Not b) made → IsStep g forth form made
  not_done body b is e l = rw (is, sym e) l

  pub node_done : (conj : Bool) (ms m1 : List Form) → form ≡ node conj ms → m1 ≡ ms → IsStep g forth (node conj m1) made → IsStep g forth form made
  node_done conj ms m1 is e l = rw (is, sym e) l

  pub quantifier_done : (conj : Bool) (s : ℕ) (a b : Form) → form ≡ quantifier conj s a → b ≡ a → IsStep g forth (quantifier conj s b) made → IsStep g forth form made
  quantifier_done conj s a b is e l = rw (is, sym e) l

  pub imp_done : (p q : Proof) (l r : Form) → form ≡ Imp l r → IsStep (not g) forth l p → IsStep g forth r q
      → ((n : ℕ) → Between forth n p (signed (not g) l) (norm_of (not g) l) → Between forth n q (signed g r) (norm_of g r) → Between forth n made (signed g (Imp l r)) (norm_of g (Imp l r))) → IsStep g forth form made
  imp_done p q l r is h k f =
      let n = max (binder_depth l) (binder_depth r) in
      rw (is, binder_depth-Imp) (f n (roomier forth (binder_depth l) n p _ _ (omega arith) h) (roomier forth (binder_depth r) n q _ _ (omega arith) k))

  pub iff_done : (p q u w one other : Proof) (l r : Form) → form ≡ Iff l r → IsStep (not g) forth l p → IsStep g forth r q
      → ((n : ℕ) → Between forth n p (signed (not g) l) (norm_of (not g) l) → Between forth n q (signed g r) (norm_of g r) → Between forth n one (signed g (Or (sides l r))) (norm_of g (Or (sides l r))))
      → IsStep g forth l u → IsStep (not g) forth r w
      → ((n : ℕ) → Between forth n u (signed g l) (norm_of g l) → Between forth n w (signed (not g) r) (norm_of (not g) r) → Between forth n other (signed g (Or (sides_back l r))) (norm_of g (Or (sides_back l r))))
      → ((n : ℕ) → Between forth n one (signed g (Or (sides l r))) (norm_of g (Or (sides l r))) → Between forth n other (signed g (Or (sides_back l r))) (norm_of g (Or (sides_back l r)))
      → Between forth n made (signed g (Iff l r)) (norm_of g (Iff l r))) → IsStep g forth form made
  iff_done p q u w one other l r is h k f i j f2 f3 =
      let n = max (binder_depth l) (binder_depth r) in
      rw (is, binder_depth-Iff)
      (f3 n (f n (roomier forth (binder_depth l) n p _ _ (omega arith) h) (roomier forth (binder_depth r) n q _ _ (omega arith) k))
      (f2 n (roomier forth (binder_depth l) n u _ _ (omega arith) i) (roomier forth (binder_depth r) n w _ _ (omega arith) j)))

pub negation_done : (g forth : Bool) (made part : Proof) (body : Form) → IsStep (not g) forth body part
    → ((n : ℕ) → Between forth n part (signed (not g) body) (norm_of (not g) body) → Between forth n made (signed g (Not body)) (norm_of (not g) body)) → IsStep g forth (Not body) made
negation_done g forth made part body l f = rw (norm_of-Not, binder_depth-Not) (f (binder_depth body) l)

pub bound_done : (conj g forth : Bool) (made part : Proof) (s : ℕ) (a norm n1 : Form) → norm ≡ norm_of g a → n1 ≡ norm → IsStep g forth a part
    → ((n : ℕ) → binder_depth n1 ≤ binder_depth a → Between forth n part (signed g a) n1 → Between forth (n + 1) made (signed g (quantifier conj s a)) (quantified (kind_of conj g) s n1)) → IsStep g forth (quantifier conj s a) made
bound_done conj g forth made part s a norm n1 en e l f =
    let same : n1 ≡ norm_of g a = e ∙ en in
    let f' : (n : ℕ) → binder_depth (norm_of g a) ≤ binder_depth a → Between forth n part (signed g a) (norm_of g a) → Between forth (n + 1) made (signed g (quantifier conj s a)) (quantified (kind_of conj g) s (norm_of g a)) = rw same at f in
    rw (norm_of_quantifier conj g s a, quantifier_depth conj s a) (f' (binder_depth a) (norm_depth a g) l)

-- What the arms ask.
pub small_not : (form a b : Form) → form ≡ Not a → b ≡ a → norm_size_of form ≤ 100000 → norm_size_of b ≤ 100000
small_not form a b is e le = rw e (rw (is, norm_size_of-Not) at le)

pub small_body : (conj : Bool) (s : ℕ) (a : Form) → norm_size_of (quantifier conj s a) ≤ 100000 → norm_size_of a ≤ 100000
small_body true s a le = let same = norm_size_of-All s a in omega arith
small_body false s a le = let same = norm_size_of-Ex s a in omega arith

module _ (conj : Bool) (s : ℕ) (form a : Form) (is : form ≡ quantifier conj s a) where
  pub body_small : (b : Form) → b ≡ a → norm_size_of form ≤ 100000 → norm_size_of b ≤ 100000
  body_small b e le = rw e (small_body conj s a (rw is at le))

  pub quantifier_placed : (b : Form) → b ≡ a → IsPlaced form → IsPlaced (quantifier conj s b)
  quantifier_placed b e p = rw e (rw is at p)

pub norm_lifts : (conj g forth : Bool) (part : Proof) (s : ℕ) (a norm n1 : Form) → norm ≡ norm_of g a → n1 ≡ norm → IsStep g forth a part → IsPlaced (quantifier conj s a) → lift_reach 1 1 n1 < 2 ^ 32
norm_lifts conj g forth part s a norm n1 en e l p = rw (e, en) (norm_reach conj g forth s a part l p)

pub norm_depth_fits : (g : Bool) (a norm n1 : Form) → norm ≡ norm_of g a → n1 ≡ norm → norm_size_of a ≤ 100000 → binder_depth n1 < 2 ^ 32 - 1
norm_depth_fits g a norm n1 en e le =
    let few = depth_within_size a in
    let less = norm_depth a g in
    rw (e, en) (omega arith)

pub of_imp : (form l r b c : Form) → form ≡ Imp l r → b ≡ l → c ≡ r → form ≡ Imp b c
of_imp form l r b c is e1 e2 = rw (e1, e2) is

pub of_iff : (form l r b c : Form) → form ≡ Iff l r → b ≡ l → c ≡ r → form ≡ Iff b c
of_iff form l r b c is e1 e2 = rw (e1, e2) is

pub node_small : (conj : Bool) (form : Form) (ms m1 : List Form) → form ≡ node conj ms → m1 ≡ ms → norm_size_of form ≤ 100000 → norm_size_of (node conj m1) ≤ 100000
node_small conj form ms m1 is e le = rw e (rw is at le)

pub node_placed : (conj : Bool) (form : Form) (ms m1 : List Form) → form ≡ node conj ms → m1 ≡ ms → IsPlaced form → IsPlaced (node conj m1)
node_placed conj form ms m1 is e p = rw e (rw is at p)

-- the sides of implications and equivalences
pub left_small : (form l r b : Form) → form ≡ Imp l r → b ≡ l → norm_size_of form ≤ 100000 → norm_size_of b ≤ 100000
left_small form l r b is e le = rw e (sides_small l r (rw is at le)).0

pub right_small : (form l r b : Form) → form ≡ Imp l r → b ≡ r → norm_size_of form ≤ 100000 → norm_size_of b ≤ 100000
right_small form l r b is e le = rw e (sides_small l r (rw is at le)).1

pub left_placed : (form l r b : Form) → form ≡ Imp l r → b ≡ l → IsPlaced form → IsPlaced b
left_placed form l r b is e p = rw e (placed_imp form l r is p).0

pub right_placed : (form l r b : Form) → form ≡ Imp l r → b ≡ r → IsPlaced form → IsPlaced b
right_placed form l r b is e p = rw e (placed_imp form l r is p).1

pub left_of_iff_small : (form l r b : Form) → form ≡ Iff l r → b ≡ l → norm_size_of form ≤ 100000 → norm_size_of b ≤ 100000
left_of_iff_small form l r b is e le = rw e (sides_small l r (iff_small l r (rw is at le))).0

pub right_of_iff_small : (form l r b : Form) → form ≡ Iff l r → b ≡ r → norm_size_of form ≤ 100000 → norm_size_of b ≤ 100000
right_of_iff_small form l r b is e le = rw e (sides_small l r (iff_small l r (rw is at le))).1

pub left_of_iff_placed : (form l r b : Form) → form ≡ Iff l r → b ≡ l → IsPlaced form → IsPlaced b
left_of_iff_placed form l r b is e p = rw e (placed_iff form l r is p).0

pub right_of_iff_placed : (form l r b : Form) → form ≡ Iff l r → b ≡ r → IsPlaced form → IsPlaced b
right_of_iff_placed form l r b is e p = rw e (placed_iff form l r is p).1

pub iff_sides_small : (form l r a b : Form) → form ≡ Iff l r → a ≡ l → b ≡ r → norm_size_of form ≤ 100000 → norm_size_of (Imp a b) ≤ 100000
iff_sides_small form l r a b is e1 e2 le = rw (e1, e2) (iff_small l r (rw is at le))

-- one member more
pub part_more : (conj g forth : Bool) (ms ns : List Form) (ps : List Proof) (k : ℕ) (a : Form) (q p : Proof) → k < length ms → slice_get ms k ≡ Some a → a ≡ get_or ms k a → ns ≡ map (norm_of g) ms
    → p ≡ arm_tree conj g forth ms ns k a q → Between forth (binder_depth a) q (signed g a) (norm_of g a) → PartsFrom (Arm conj g forth (binder_depth (node conj ms)) ms) 0 (take k ms) ps
    → PartsFrom (Arm conj g forth (binder_depth (node conj ms)) ms) 0 (take (k + 1) ms) (ps ++ p ∷ [])
part_more conj g forth ms ns ps k a q p lt at is en ep l before =
    let n = binder_depth (node conj ms) in
    let l' = roomier forth (binder_depth a) n q (signed g a) (norm_of g a) (member_depth conj ms k a at) l in
    let ep' : p ≡ arm_tree conj g forth ms (map (norm_of g) ms) k a q = rw en at ep in
    let arm : Arm conj g forth n ms k a p = (at, (q, ep', l')) in
    parts_more (Arm conj g forth n ms) ms ps p k a lt before (subst (λ b. Arm conj g forth n ms k b p) is arm)

pub norms_more : (g : Bool) (ms ns more : List Form) (k : ℕ) (a x y : Form) → slice_get ms k ≡ Some a → more ≡ ns ++ y ∷ [] → y ≡ x → x ≡ norm_of g a → ns ≡ map (norm_of g) (take k ms) → more ≡ map (norm_of g) (take (k + 1) ms)
norms_more g ms ns more k a x y at em ey ex en = rw (em, ey, ex, en, take_more ms k a at, map-append (norm_of g) (take k ms) (a ∷ [])) refl

pub steps_more : (g forth : Bool) (ms : List Form) (ps more : List Proof) (k : ℕ) (a : Form) (p q : Proof) → k < length ms → a ≡ get_or ms k a → more ≡ ps ++ q ∷ [] → q ≡ p → IsStep g forth a p → MemberSteps g forth (take k ms) ps
    → MemberSteps g forth (take (k + 1) ms) more
steps_more g forth ms ps more k a p q lt is em ep step before =
    rw (em, ep) (parts_more (λ i b r. IsStep g forth b r) ms ps p k a lt before (subst (λ b. IsStep g forth b p) is step))
