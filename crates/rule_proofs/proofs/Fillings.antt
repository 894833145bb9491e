-- Marked literals with a term for the mark, and with variable 0 there.
use Rattle.std.specs.Prelude.{ℕ, ◌≡◌, ◌+◌, ◌<◌, ◌^◌, Bool, true, false, List, [], ◌∷◌, ◌++◌, length, map, max, get_or, slice_get, Some, refl}
use Rattle.std.specs.List.{AllByRecursion}
use Rattle.std.proofs.Common.{ap, sym, subst, ◌∙◌, arith, inl, inr, zero, suc, length-append}
use Rattle.std.proofs.lemmas.List.{length-map}
use Rattle.std.proofs.lemmas.List.Elements.{recursion_from_All}
use Rattle.std.proofs.lemmas.Option.{slice_get_within, get_or_from_slice_get}
use Rattle.fof_terms.specs.declared.term.Term.{Term, Var}
use Rattle.fof_terms.specs.declared.form.Form.{Form, Eq, Or}
use Rattle.fof_terms.specs.Vocabulary.{Vocabulary}
use Rattle.fof_terms.specs.Lift.{greatest, lifted_term, lift_term_reach}
use Rattle.fof_terms.specs.Instance.{instance_term, instance_at}
use Rattle.fof_terms.proofs.LiftingLaws.{here, instance_of_lifted, below_or_above}
use Rattle.fof_terms.specs.Sorts.{sort_of_term, IsScope, SortedTo, Sorted}
use Rattle.fof_terms.proofs.SortsFacts.{sort_of_term-Var}
use Rattle.fof_terms.proofs.Scoped.{eq_sorted, or_sorted}
use Rattle.fof_terms.proofs.Walks.{both_terms, placing_term, same_terms, lifted_sort}
use Rattle.clause_form.specs.declared.clause.Lit.{Lit}
use Rattle.clause_form.specs.ClauseView.{form_of_lit}
use Rattle.clause_form.specs.Covers.{in_lit, lit_image, is_sorted_atom, AreSorted}
use Rattle.clause_form.specs.Images.{image, IsImages}
use Rattle.clause_form.proofs.ImagesFacts.{image-Var, image_sorted, AgreeOn}
use Rattle.clause_form.proofs.ClauseLaws.{lits_agree, lits_sorted}
use Rattle.unify_terms.specs.Substitution.{image_at}
use Rattle.kernel.specs.Statements.{Statements}
use Rattle.kernel.specs.Proves.{Proves}
use Rattle.kernel.specs.declared.proof.Proof.{Proof}
use Rattle.clause_proofs.specs.Bodies.{body_of}
use Rattle.clause_proofs.specs.Refuting.{theory_of}
use Rattle.rule_proofs.specs.code.Rewriting.{filled, with_hole, IsMarked}
use Rattle.clause_proofs.proofs.BodySorts.{lit_sorted}
use Rattle.clause_proofs.proofs.Peeling.{lifted_nothing, imaging, lits_twice, lits_same, instance_body, get_front, get_last, slice_last}
use Rattle.clause_proofs.proofs.TurnedSides.{side_reach}

-- places in lists
pub map_at : (f : Term → Term) (xs : List Term) (k : ℕ) (d e : Term) → k < length xs → get_or (map f xs) k d ≡ f (get_or xs k e)
map_at f [] k d e h = absurd (omega arith)
map_at f (x ∷ xs) zero d e h = refl
map_at f (x ∷ xs) (suc k) d e h = map_at f xs k d e (omega arith)

pub slice_before : (xs ys : List ℕ) (k r : ℕ) → k < length xs → slice_get (xs ++ ys) k ≡ Some r → slice_get xs k ≡ Some r
slice_before [] ys k r h e = absurd (omega arith)
slice_before (x ∷ xs) ys zero r h e = e
slice_before (x ∷ xs) ys (suc k) r h e = slice_before xs ys k r (omega arith) e

one_more : (xs : List ℕ) (y k r : ℕ) → slice_get (xs ++ y ∷ []) k ≡ Some r → length xs < k + 1 → k ≡ length xs
one_more xs y k r e h = let within = slice_get_within (xs ++ y ∷ []) k r e in let size = length-append xs (y ∷ []) in omega (arith, within, size, h)

same_sort : (x y : ℕ) → Some x ≡ Some y → x ≡ y
same_sort x y e = cc

-- bodies of well-sorted literals
module _ (w : Vocabulary) (v : List ℕ) (sc : IsScope w v) where
  each_form : (lits : List Lit) → AllByRecursion (λ (l : Lit). is_sorted_atom w v l.atom ≡ true) lits → AllByRecursion (SortedTo 2147483647 w v) (map form_of_lit lits)
  each_form [] all = tt
  each_form (l ∷ lits) all = (lit_sorted w v l sc all.0, each_form lits all.1)

  body_each : (b : Bool) (lits : List Lit) → AllByRecursion (λ (l : Lit). is_sorted_atom w v l.atom ≡ true) lits → Sorted w v (body_of b lits)
  body_each true lits all = or_sorted w v 2147483647 sc (map form_of_lit lits) (each_form lits all)
  body_each false [] all = or_sorted w v 2147483647 sc [] tt
  body_each false (l ∷ lits) all = lit_sorted w v l sc all.0

  pub body_fits : (b : Bool) (lits : List Lit) → AreSorted w v lits → Sorted w v (body_of b lits)
  body_fits b lits sorted = body_each b lits (recursion_from_All (λ (l : Lit). is_sorted_atom w v l.atom ≡ true) lits sorted.fits)

  term_reach : (t : Term) (s : ℕ) → sort_of_term w v t ≡ Some s → lift_term_reach 1 0 t < 2 ^ 32
  term_reach t s e = side_reach w v t t (eq_sorted w v 2147483647 sc t t s e e)

  all_reach : (ts : List Term) → ((i : ℕ) (t : Term) → slice_get ts i ≡ Some t → lift_term_reach 1 0 t < 2 ^ 32) → greatest (map (lift_term_reach 1 0) ts) < 2 ^ 32
  all_reach [] h = omega arith
  all_reach (t ∷ ts) h = let one = h 0 t refl in let rest = all_reach ts (λ i. h (suc i)) in omega (arith, one, rest)

  pub images_reach : (sorts : List ℕ) (images : List Term) → length images ≡ length sorts → IsImages w sorts v (image_at images) → greatest (map (lift_term_reach 1 0) images) < 2 ^ 32
  images_reach sorts images size fit =
      all_reach images (λ i t at.
      let r = there sorts i (let within = slice_get_within images i t at in omega (arith, within, size)) in
      let is : image_at images i ≡ t = get_or_from_slice_get images i t (Var i) at in
      term_reach t r.0 (ap (sort_of_term w v) (sym is) ∙ fit.sorted i r.0 r.1)) where
        there : (xs : List ℕ) (i : ℕ) → i < length xs → (r : ℕ) × (slice_get xs i ≡ Some r)
        there [] i h = absurd (omega arith)
        there (x ∷ xs) zero h = (x, refl)
        there (x ∷ xs) (suc i) h = there xs i (omega arith)

module _ (w : Vocabulary) (v : List ℕ) (images : List Term) (marked : List Lit) (left : Term) (m : IsMarked w v images marked left) where
  abbrev scope : List ℕ
  scope = m.sorts ++ m.sort ∷ []

  abbrev holes : List Term
  holes = map (lifted_term 1 0) images ++ Var 0 ∷ []

  hole_front : (k : ℕ) → k < length images → image_at holes k ≡ lifted_term 1 0 (image_at images k)
  hole_front k h = get_front (map (lifted_term 1 0) images) (Var 0 ∷ []) k (Var k) (omega (arith, length-map images (lifted_term 1 0))) ∙ map_at (lifted_term 1 0) images k (Var k) (Var k) h

  hole_last : (k : ℕ) → k ≡ length images → image_at holes k ≡ Var 0
  hole_last k e = get_last (map (lifted_term 1 0) images) (Var 0) (Var k) k (omega (arith, length-map images (lifted_term 1 0)))

  pub filled_front : (x : Term) (k : ℕ) → k < length images → image_at (images ++ x ∷ []) k ≡ image_at images k
  filled_front x k h = get_front images (x ∷ []) k (Var k) h

  pub filled_last : (x : Term) (k : ℕ) → k ≡ length images → image_at (images ++ x ∷ []) k ≡ x
  filled_last x k e = get_last images x (Var k) k e

  fills : (x : Term) → AgreeOn scope (λ k. instance_term x 0 (image_at holes k)) (image_at (images ++ x ∷ []))
  fills x = record {
    same = λ k r e. elim (below_or_above k (length images)) [
      | inl b ↦ ap (instance_term x 0) (hole_front k b) ∙ instance_of_lifted x (image_at images k) 0 0 (omega arith) ∙ lifted_nothing (image_at images k) ∙ sym (filled_front x k b)
      | inr b ↦
          let size = m.size in
          let at : k ≡ length images = omega (arith, one_more m.sorts m.sort k r e (omega (arith, size, b)), size) in
          ap (instance_term x 0) (hole_last k at) ∙ here x 0 0 refl ∙ lifted_nothing x ∙ sym (filled_last x k at)
    ];
  }

  walked : (x u : Term) → instance_term x 0 (image (image_at holes) u) ≡ image (λ k. instance_term x 0 (image_at holes k)) u
  walked x =
      same_terms (λ u. instance_term x 0 (image (image_at holes) u)) (image (λ k. instance_term x 0 (image_at holes k))) (both_terms (instance_term x 0) (image (image_at holes)) (placing_term x 0) (imaging (image_at holes))) (imaging (λ k. instance_term x 0 (image_at holes k)))
      (λ k. ap (instance_term x 0) (image-Var (image_at holes) k) ∙ sym (image-Var (λ j. instance_term x 0 (image_at holes j)) k))

  pub hole_filled : (x : Term) → map (in_lit (instance_term x 0)) (with_hole images marked) ≡ filled images marked x
  hole_filled x =
      lits_twice (instance_term x 0) (image (image_at holes)) marked ∙ lits_same (λ u. instance_term x 0 (image (image_at holes) u)) (image (λ k. instance_term x 0 (image_at holes k))) (walked x) marked
      ∙ lits_agree w scope (λ k. instance_term x 0 (image_at holes k)) (image_at (images ++ x ∷ [])) (fills x) marked m.sorted

  hole_images : IsImages w scope (m.sort ∷ v) (image_at holes)
  hole_images = record {
    sorted = λ k r e. elim (below_or_above k (length images)) [
      | inl b ↦
          let size = m.size in
          ap (sort_of_term w (m.sort ∷ v)) (hole_front k b) ∙ lifted_sort w (m.sort ∷ []) v [] (image_at images k) ∙ m.images_sorted.sorted k r (slice_before m.sorts (m.sort ∷ []) k r (omega (arith, size, b)) e)
      | inr b ↦
          let size = m.size in
          let at : k ≡ length m.sorts = one_more m.sorts m.sort k r e (omega (arith, size, b)) in
          let same : m.sort ≡ r = same_sort m.sort r (sym (slice_last m.sorts m.sort k at) ∙ e) in
          ap (sort_of_term w (m.sort ∷ v)) (hole_last k (omega (arith, size, at))) ∙ sort_of_term-Var w (m.sort ∷ v) 0 ∙ ap Some same
    ];
  }

  pub hole_sorted : AreSorted w (m.sort ∷ v) (with_hole images marked)
  hole_sorted = lits_sorted w scope (m.sort ∷ v) (image (image_at holes)) (image_sorted w scope (m.sort ∷ v) (image_at holes) hole_images) marked m.sorted

  fill_images : (x : Term) → sort_of_term w v x ≡ Some m.sort → IsImages w scope v (image_at (images ++ x ∷ []))
  fill_images x sort = record {
    sorted = λ k r e. elim (below_or_above k (length images)) [
      | inl b ↦
          let size = m.size in
          ap (sort_of_term w v) (filled_front x k b) ∙ m.images_sorted.sorted k r (slice_before m.sorts (m.sort ∷ []) k r (omega (arith, size, b)) e)
      | inr b ↦
          let size = m.size in
          let at : k ≡ length m.sorts = one_more m.sorts m.sort k r e (omega (arith, size, b)) in
          let same : m.sort ≡ r = same_sort m.sort r (sym (slice_last m.sorts m.sort k at) ∙ e) in
          ap (sort_of_term w v) (filled_last x k (omega (arith, size, at))) ∙ sort ∙ ap Some same
    ];
  }

  pub filled_sorted : (x : Term) → sort_of_term w v x ≡ Some m.sort → AreSorted w v (filled images marked x)
  filled_sorted x sort = lits_sorted w scope v (image (image_at (images ++ x ∷ []))) (image_sorted w scope v (image_at (images ++ x ∷ [])) (fill_images x sort)) marked m.sorted

  abbrev pub Replaces : ℕ → Form → Proof → Proof → Proof → Type 0
  Replaces s hole own fact p =
      (t : Statements) (v : List ℕ) (h : List Form) (l r : Term) → Sorted t.vocabulary (s ∷ v) hole → Proves t v h own (Eq l r) → sort_of_term t.vocabulary v l ≡ Some s → Proves t v h fact (instance_at l 0 hole) → Proves t v h p (instance_at r 0 hole)

  pub filled_shows : (fs h : List Form) (is_or : Bool) (right : Term) (old : List Lit) (s : ℕ) (hole : Form) (own fact p : Proof) → IsScope w v → length v < 2147483647 → sort_of_term w v left ≡ Some s → s < length w.sorts → hole ≡ body_of is_or (with_hole images marked)
      → old ≡ filled images marked left → Proves (theory_of w fs) v h own (Eq left right) → Proves (theory_of w fs) v h fact (body_of is_or old) → Replaces s hole own fact p → Proves (theory_of w fs) v h p (body_of is_or (filled images marked right))
  filled_shows fs h is_or right old s hole own fact p sc room e there is before equal shown build =
      let t = theory_of w fs in
      let at : m.sort ≡ s = same_sort m.sort s (sym m.left_sort ∙ e) in
      let inner : IsScope w (s ∷ v) = record { few_variables = omega (arith, room); sorts_exist = (there, sc.sorts_exist) } in
      let body : Sorted w (s ∷ v) hole = subst (Sorted w (s ∷ v)) (sym is) (body_fits w (s ∷ v) inner is_or (with_hole images marked) (subst (λ (x : ℕ). AreSorted w (x ∷ v) (with_hole images marked)) at hole_sorted)) in
      let placed : (x : Term) → instance_at x 0 hole ≡ body_of is_or (filled images marked x) = λ x. ap (instance_at x 0) is ∙ instance_body x 0 is_or (with_hole images marked) ∙ ap (body_of is_or) (hole_filled x) in
      let first : Proves t v h fact (instance_at left 0 hole) = subst (λ (a : Form). Proves t v h fact a) (ap (body_of is_or) before ∙ sym (placed left)) shown in
      subst (λ (a : Form). Proves t v h p a) (placed right) (build t v h left right body equal e first)
