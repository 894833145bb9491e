-- What the steps of the recursion build, as code meets it.
use Rattle.std.specs.Prelude.{ℕ, Bool, true, false, not, ◌≡◌, map, get_or, List, [], ◌∷◌, refl}
use Rattle.std.proofs.Common.{ap, subst, ◌∙◌}
use Rattle.fof_terms.specs.declared.form.Form.{Form, Not, And, Or, Imp, Iff}
use Rattle.clause_form.specs.Norm.{signed, node, join, norm_of}
use Rattle.clause_form.proofs.NormFacts.{norm_of-Not}
use Rattle.kernel.specs.declared.proof.Proof.{Proof, Hyp, ImpI}
use Rattle.norm_proofs.specs.code.Steps.{Between, then_tree, denied_tree}
use Rattle.norm_proofs.proofs.StepsFacts.{denied_shows}
use Rattle.norm_proofs.specs.code.Connectives.{sides, sides_back, both_sides, imp_tree, iff_tree}
use Rattle.norm_proofs.proofs.ConnectivesFacts.{imp_shows, iff_shows}
use Rattle.norm_proofs.specs.code.Links.{kind_of, arm_tree, Arms, link_tree}
use Rattle.norm_proofs.proofs.LinksFacts.{link_shows}
use Rattle.norm_proofs.proofs.NormsFacts.{norm_of_node, node_shows, unlinked_shows, pair_arms, by_other, norm_of_sides, norm_of_both}

-- the normal forms by those of the members
module _ (g : Bool) where
  pub node_norm : (conj k : Bool) (ms ns : List Form) (made : Form) → made ≡ join k ns → k ≡ kind_of conj g → ns ≡ map (norm_of g) ms → made ≡ norm_of g (node conj ms)
  node_norm conj k ms ns made em ek en = rw (em, ek, en, norm_of_node conj g ms) refl

  pub sides_norms : (ms : List Form) (l r x y : Form) → ms ≡ sides l r → x ≡ norm_of (not g) l → y ≡ norm_of g r → x ∷ y ∷ [] ≡ map (norm_of g) ms
  sides_norms ms l r x y is ex ey = rw (is, ex, ey, norm_of-Not g l) refl

  pub back_norms : (ms : List Form) (l r x y : Form) → ms ≡ sides_back l r → x ≡ norm_of g l → y ≡ norm_of (not g) r → x ∷ y ∷ [] ≡ map (norm_of g) ms
  back_norms ms l r x y is ex ey = rw (is, ex, ey, norm_of-Not g r) refl

  pub both_norms : (ms : List Form) (l r x y : Form) → ms ≡ both_sides l r → x ≡ norm_of g (Or (sides l r)) → y ≡ norm_of g (Or (sides_back l r)) → x ∷ y ∷ [] ≡ map (norm_of g) ms
  both_norms ms l r x y is ex ey = rw (is, ex, ey) refl

module _ (g forth : Bool) (n : ℕ) where
  pub node_made : (conj k1 k2 : Bool) (ms ns : List Form) (made linked joined : Proof) (first last whole : Form) → made ≡ then_tree forth first last linked joined → first ≡ signed g whole → whole ≡ node conj ms
      → last ≡ join k2 ns → k1 ≡ kind_of conj g → k2 ≡ kind_of conj g → ns ≡ map (norm_of g) ms
      → Between forth n linked (signed g (node conj ms)) (node (kind_of conj g) ns) → Between forth n joined (node k1 ns) (join k1 ns) → Between forth n made (signed g (node conj ms)) (norm_of g (node conj ms))
  node_made conj k1 k2 ms ns made linked joined first last whole em ef ew el e1 e2 f k l =
      let l' : Between forth n joined (node (kind_of conj g) (map (norm_of g) ms)) (join (kind_of conj g) (map (norm_of g) ms)) = rw (e1, f) at l in
      let k' : Between forth n linked (signed g (node conj ms)) (node (kind_of conj g) (map (norm_of g) ms)) = rw f at k in
      rw (em, ef, ew, el, e2, f) (node_shows conj g forth n ms linked joined k' l')

  -- a node by the parts of its members, or of members that are their own normal forms
  pub linked_made : (conj : Bool) (ms ns : List Form) (ps : List Proof) (made : Proof) → ns ≡ map (norm_of g) ms → made ≡ link_tree conj g forth ms ns ps → Arms conj g forth n ms ms ps
      → Between forth n made (signed g (node conj ms)) (node (kind_of conj g) ns)
  linked_made conj ms ns ps made f em arms = rw (em, f) (link_shows n ms ps conj g forth arms)

  pub unlinked_made : (conj : Bool) (ms ns : List Form) (made : Proof) (whole : Form) → g ≡ true → ms ≡ ns → made ≡ ImpI whole (Hyp 0) → whole ≡ node conj ms
      → Between forth n made (signed g (node conj ms)) (node (kind_of conj g) ns)
  unlinked_made conj ms ns made whole eg es em ew = rw (em, ew, eg) (unlinked_shows conj forth n ms ns es)

  pub pair_made : (conj : Bool) (ms n1 n2 : List Form) (ps : List Proof) (one other p q : Proof) (x y a b : Form) → ps ≡ one ∷ other ∷ [] → one ≡ arm_tree conj g forth ms n1 0 x p → other ≡ arm_tree conj g forth ms n2 1 y q
      → x ≡ get_or ms 0 x → y ≡ get_or ms 1 y → n1 ≡ map (norm_of g) ms → n2 ≡ map (norm_of g) ms → ms ≡ a ∷ b ∷ [] → Between forth n p (signed g a) (norm_of g a) → Between forth n q (signed g b) (norm_of g b)
      → Arms conj g forth n ms ms ps
  pair_made conj ms n1 n2 ps one other p q x y a b ep eo et ex ey f1 f2 em l k =
      let x' : x ≡ a = ex ∙ ap (λ xs. get_or xs 0 x) em in
      let y' : y ≡ b = ey ∙ ap (λ xs. get_or xs 1 y) em in
      rw (ep, eo, et, f1, f2, x', y', em) (pair_arms conj g forth n a b p q l k)

  -- a node of two members
  abbrev pub ByPair : Bool → List Form → Proof → Proof → Proof → Type 0
  ByPair conj ms p q made = (n : ℕ) (a b : Form) → ms ≡ a ∷ b ∷ [] → Between forth n p (signed g a) (norm_of g a) → Between forth n q (signed g b) (norm_of g b) → Between forth n made (signed g (node conj ms)) (norm_of g (node conj ms))

  pub by_pair : (conj : Bool) (ms : List Form) (p q made : Proof) (a b : Form) → ms ≡ a ∷ b ∷ [] → ByPair conj ms p q made → Between forth n p (signed g a) (norm_of g a) → Between forth n q (signed g b) (norm_of g b)
      → Between forth n made (signed g (node conj (a ∷ b ∷ []))) (norm_of g (node conj (a ∷ b ∷ [])))
  by_pair conj ms p q made a b e f l k = subst (λ xs. Between forth n made (signed g (node conj xs)) (norm_of g (node conj xs))) e (f n a b e l k)

  pub sides_made : (ms : List Form) (p q made : Proof) (l r : Form) → ms ≡ sides l r → ByPair false ms p q made → Between forth n p (signed g (Not l)) (norm_of (not g) l) → Between forth n q (signed g r) (norm_of g r)
      → Between forth n made (signed g (Or (sides l r))) (norm_of g (Or (sides l r)))
  sides_made ms p q made l r e f h k = by_pair false ms p q made (Not l) r e f (rw norm_of-Not h) k

  pub back_made : (ms : List Form) (p q made : Proof) (l r : Form) → ms ≡ sides_back l r → ByPair false ms p q made → Between forth n p (signed g l) (norm_of g l) → Between forth n q (signed g (Not r)) (norm_of (not g) r)
      → Between forth n made (signed g (Or (sides_back l r))) (norm_of g (Or (sides_back l r)))
  back_made ms p q made l r e f h k = by_pair false ms p q made l (Not r) e f h (rw norm_of-Not k)

  pub other_made : (a b first norm : Form) (before inner made : Proof) → made ≡ then_tree forth first norm before inner → first ≡ signed g a → norm ≡ norm_of g b → norm_of g b ≡ norm_of g a
      → Between forth n before (signed g a) (signed g b) → Between forth n inner (signed g b) (norm_of g b) → Between forth n made (signed g a) (norm_of g a)
  other_made a b first norm before inner made em ef en e l k = rw (em, ef, en) (by_other g forth n a b before inner l e k)

  -- by another formula of the same normal form
  abbrev pub ByOther : Form → Form → Proof → Proof → Proof → Type 0
  ByOther whole other turned inner made =
      (n : ℕ) → norm_of g other ≡ norm_of g whole → Between (kind_of g forth) n turned whole other → Between forth n inner (signed g other) (norm_of g other) → Between forth n made (signed g whole) (norm_of g whole)

  pub imp_made : (d : Bool) (whole other l r : Form) (turned inner made : Proof) → whole ≡ Imp l r → other ≡ Or (sides l r) → turned ≡ imp_tree d l r → d ≡ kind_of g forth → ByOther whole other turned inner made
      → Between forth n inner (signed g (Or (sides l r))) (norm_of g (Or (sides l r))) → Between forth n made (signed g (Imp l r)) (norm_of g (Imp l r))
  imp_made d whole other l r turned inner made ew eo et ed f k =
      let f' : ByOther (Imp l r) (Or (sides l r)) turned inner made = rw (ew, eo) at f in
      f' n (norm_of_sides g l r) (rw (et, ed) (imp_shows (kind_of g forth) n l r)) k

  pub iff_made : (d : Bool) (whole other l r : Form) (ms : List Form) (turned inner made p q : Proof) → whole ≡ Iff l r → other ≡ And (both_sides l r) → ms ≡ both_sides l r → turned ≡ iff_tree d l r → d ≡ kind_of g forth
      → ByOther whole other turned inner made → ByPair true ms p q inner → Between forth n p (signed g (Or (sides l r))) (norm_of g (Or (sides l r)))
      → Between forth n q (signed g (Or (sides_back l r))) (norm_of g (Or (sides_back l r))) → Between forth n made (signed g (Iff l r)) (norm_of g (Iff l r))
  iff_made d whole other l r ms turned inner made p q ew eo em et ed f pair h k =
      let f' : ByOther (Iff l r) (And (both_sides l r)) turned inner made = rw (ew, eo) at f in
      f' n (norm_of_both g l r) (rw (et, ed) (iff_shows (kind_of g forth) n l r)) (by_pair true ms p q inner (Or (sides l r)) (Or (sides_back l r)) em pair h k)

pub under_plus : (g forth : Bool) (n : ℕ) (p : Proof) (a b : Form) → g ≡ true → Between (kind_of g forth) n p a b → Between forth n p (signed g a) (signed g b)
under_plus true forth n p a b e l = l
under_plus false forth n p a b e l = absurd (let never : false ≡ true = e in cc)

pub under_minus : (g forth : Bool) (n : ℕ) (p made : Proof) (a b : Form) → g ≡ false → made ≡ denied_tree forth a b p → Between (kind_of g forth) n p a b → Between forth n made (signed g a) (signed g b)
under_minus true forth n p made a b e is l = absurd (let never : true ≡ false = e in cc)
under_minus false forth n p made a b e is l = rw is (denied_shows forth n p a b l)
