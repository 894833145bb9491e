-- What the proofs between the quantifiers in their own order and those in the order of their variables show.
use Rattle.std.specs.Prelude.{ℕ, zero, suc, ◌≡◌, ◌+◌, ◌-◌, ◌<◌, ◌≤◌, Bool, true, false, List, [], ◌∷◌, length, map, get_or, slice_get, Some, refl}
use Rattle.std.specs.List.{AllByRecursion}
use Rattle.std.proofs.Common.{ap, subst, ◌∙◌, arith}
use Rattle.std.proofs.lemmas.List.{length-map}
use Rattle.std.proofs.lemmas.List.Elements.{All-from_recursion}
use Rattle.fof_terms.specs.Vocabulary.{Vocabulary}
use Rattle.fof_terms.specs.declared.form.Form.{Form}
use Rattle.fof_terms.specs.Lift.{lifted}
use Rattle.fof_terms.specs.Sorts.{SortedTo, Sorted, binder_depth}
use Rattle.fof_terms.proofs.Walks.{same_depth}
use Rattle.clause_form.specs.ClauseView.{closed_by}
use Rattle.clause_form.specs.Reached.{around}
use Rattle.kernel.specs.Proves.{Proves}
use Rattle.kernel.proofs.Building.{shown_sorted, by_hyp, by_imp_i}
use Rattle.kernel.specs.declared.proof.Proof.{Hyp}
use Rattle.derive_kit.proofs.Around.{all_around, head_around}
use Rattle.derive_kit.proofs.Members.{right_sorted}
use Rattle.norm_proofs.specs.Numbering.{general}
use Rattle.norm_proofs.specs.code.Steps.{Between}
use Rattle.norm_proofs.proofs.NumberingFacts.{by_general, around_sorted, around_scope}
use Rattle.flat_form.specs.Flat.{new_number, sort_of}
use Rattle.flat_form.specs.Renumbered.{renumbered}
use Rattle.flat_form.proofs.Order.{has}
use Rattle.flat_form.proofs.Places.{down as falling, sorts_down, place, place_below, number_near}
use Rattle.flat_form.proofs.Renumbering.{renumbering}
use Rattle.flat_proofs.specs.code.Permuting.{at_numbers, down, turned_tree}
use Rattle.flat_proofs.proofs.Opened.{closed_lifted, opened_sorts}
use Rattle.flat_proofs.proofs.Permutations.{StandIn, at_numbers_shows}
use Rattle.flat_proofs.proofs.Reordering.{at_place, get_map, scope_sort, first_has, rest_has, forth_body, back_body, back_stand}

same_down : (n : ℕ) → down n ≡ falling n
same_down zero = refl
same_down (suc n) = ap (λ ks. n ∷ ks) (same_down n)

stand_map : (scope : List ℕ) (new sort : ℕ → ℕ) (n : ℕ) → ((k : ℕ) → k < n → slice_get scope (new k) ≡ Some (sort k)) → StandIn scope (map new (down n)) (map sort (down n))
stand_map scope new sort zero each = tt
stand_map scope new sort (suc n) each = (each n (omega arith), stand_map scope new sort n (λ k lt. each k (omega arith)))

module _ (sorts order v : List ℕ) (in_order : (k : ℕ) → k < length sorts → has k order ≡ true) where
  own_sort : (k : ℕ) → k < length sorts → slice_get (around (map (sort_of sorts) order) v) (new_number order (length sorts) k) ≡ Some (sort_of sorts k)
  own_sort k lt =
      let ss = map (sort_of sorts) order in
      let p = place order k in
      let len : length ss ≡ length order = length-map order (sort_of sorts) in
      let less = place_below order k (in_order k lt) in
      let at : length ss - 1 - p ≡ length order - 1 - p = omega arith in
      ap (slice_get (around ss v)) (number_near order (length sorts) k lt)
      ∙ (scope_sort ss v p (omega arith)
      ∙ ap Some (ap (λ i. get_or ss i 0) at ∙ (get_map (sort_of sorts) order (length order - 1 - p) (omega arith) ∙ ap (sort_of sorts) (at_place order k (in_order k lt)))))

  forth_stand : StandIn (around (map (sort_of sorts) order) v) (map (new_number order (length sorts)) (down (length sorts))) sorts
  forth_stand =
      let all : map (sort_of sorts) (down (length sorts)) ≡ sorts = ap (map (sort_of sorts)) (same_down (length sorts)) ∙ sorts_down sorts in
      subst (StandIn (around (map (sort_of sorts) order) v) (map (new_number order (length sorts)) (down (length sorts)))) all
      (stand_map (around (map (sort_of sorts) order) v) (new_number order (length sorts)) (sort_of sorts) (length sorts) own_sort)

module _ (d : ℕ) (sorts order : List ℕ) (u : Form) (few : binder_depth u ≤ d) (in_order : (k : ℕ) → k < length sorts → has k order ≡ true) (below : (q : ℕ) → has q order ≡ true → q < length sorts) where
  abbrev new : ℕ → ℕ
  new = new_number order (length sorts)

  abbrev other : List ℕ
  other = map (sort_of sorts) order

  abbrev moved : Form
  moved = renumbered (new_number order (length sorts)) 0 u

  sort_exists : (w : Vocabulary) → AllByRecursion (λ s. s < length w.sorts) sorts → (k : ℕ) → k < length sorts → sort_of sorts k < length w.sorts
  sort_exists w all k lt = All-from_recursion (λ s. s < length w.sorts) sorts all (length sorts - 1 - k) 0 (omega arith)

  other_exist : (w : Vocabulary) → AllByRecursion (λ s. s < length w.sorts) sorts → (ks : List ℕ) → ((q : ℕ) → has q ks ≡ true → q < length sorts) → AllByRecursion (λ s. s < length w.sorts) (map (sort_of sorts) ks)
  other_exist w all [] h = tt
  other_exist w all (k ∷ ks) h = (sort_exists w all k (h k (first_has k ks)), other_exist w all ks (λ q e. h q (rest_has q k ks e)))

  forth_shows : (n : ℕ) → d + length sorts ≤ n → d + length order ≤ n → Between true n (turned_tree true sorts order u) (closed_by sorts u) (closed_by other moved)
  forth_shows n one two t v h room s =
      let c = closed_by sorts u in
      let nums = map new (down (length sorts)) in
      let len : length other ≡ length order = length-map order (sort_of sorts) in
      let exist = opened_sorts t.vocabulary 2147483647 sorts v u (omega arith) s in
      let scope = around other v in
      let hyps = all_around other (c ∷ h) in
      let sc = around_scope t.vocabulary other v (omega arith) (other_exist t.vocabulary exist order below) s.scope_fits in
      let hyp : Proves t scope hyps (Hyp 0) (lifted (length other) 0 c) = by_hyp t scope hyps 0 (lifted (length other) 0 c) (around_sorted t.vocabulary other v c sc s) (head_around other h c) in
      let none : 0 + length sorts ≡ length sorts = omega arith in
      let form : lifted (length other) 0 c ≡ closed_by sorts (lifted (length order) (length sorts) u) =
      closed_lifted (length other) 0 sorts u ∙ (ap (λ m. closed_by sorts (lifted (length other) m u)) none ∙ ap (λ m. closed_by sorts (lifted m (length sorts) u)) len) in
      let instance = at_numbers_shows t scope hyps nums sorts (lifted (length order) (length sorts) u) (Hyp 0) (forth_stand sorts order v in_order) (subst (λ (b : Form). Proves t scope hyps (Hyp 0) b) form hyp) in
      let shown = subst (λ (b : Form). Proves t scope hyps (at_numbers nums (Hyp 0)) b) (forth_body order (length sorts) in_order u) instance in
      let full = shown_sorted t scope hyps (at_numbers nums (Hyp 0)) moved shown in
      let depth : binder_depth moved ≡ binder_depth u = same_depth _ _ (renumbering new) u 0 in
      let sorted_moved : SortedTo d t.vocabulary scope moved = record { scope_fits = full.scope_fits; few_binders = omega arith; fits = full.fits } in
      by_imp_i t v h c (closed_by other moved) (general other (at_numbers nums (Hyp 0))) s (by_general t d other v (c ∷ h) (at_numbers nums (Hyp 0)) moved (omega arith) sorted_moved shown)

  back_shows : (n : ℕ) → d + length sorts ≤ n → d + length order ≤ n → Between false n (turned_tree false sorts order u) (closed_by sorts u) (closed_by other moved)
  back_shows n one two t v h room s =
      let c = closed_by sorts u in
      let f = closed_by other moved in
      let len : length other ≡ length order = length-map order (sort_of sorts) in
      let sf : Sorted t.vocabulary v f = right_sorted t v [] (turned_tree true sorts order u) c f (forth_shows n one two t v [] room s) in
      let exist = opened_sorts t.vocabulary 2147483647 sorts v u (omega arith) s in
      let scope = around sorts v in
      let hyps = all_around sorts (f ∷ h) in
      let sc = around_scope t.vocabulary sorts v (omega arith) exist s.scope_fits in
      let hyp : Proves t scope hyps (Hyp 0) (lifted (length sorts) 0 f) = by_hyp t scope hyps 0 (lifted (length sorts) 0 f) (around_sorted t.vocabulary sorts v f sc sf) (head_around sorts h f) in
      let none : 0 + length other ≡ length order = omega arith in
      let form : lifted (length sorts) 0 f ≡ closed_by other (lifted (length sorts) (length order) moved) =
      closed_lifted (length sorts) 0 other moved ∙ ap (λ m. closed_by other (lifted (length sorts) m moved)) none in
      let instance = at_numbers_shows t scope hyps order other (lifted (length sorts) (length order) moved) (Hyp 0) (back_stand sorts order v in_order below) (subst (λ (b : Form). Proves t scope hyps (Hyp 0) b) form hyp) in
      let shown = subst (λ (b : Form). Proves t scope hyps (at_numbers order (Hyp 0)) b) (back_body order (length sorts) in_order u) instance in
      let full = shown_sorted t scope hyps (at_numbers order (Hyp 0)) u shown in
      let sorted_u : SortedTo d t.vocabulary scope u = record { scope_fits = full.scope_fits; few_binders = few; fits = full.fits } in
      by_imp_i t v h f c (general sorts (at_numbers order (Hyp 0))) sf (by_general t d sorts v (f ∷ h) (at_numbers order (Hyp 0)) u (omega arith) sorted_u shown)

  pub turned_shows : (forth : Bool) (n : ℕ) → d + length sorts ≤ n → d + length order ≤ n → Between forth n (turned_tree forth sorts order u) (closed_by sorts u) (closed_by other moved)
  turned_shows true = forth_shows
  turned_shows false = back_shows
