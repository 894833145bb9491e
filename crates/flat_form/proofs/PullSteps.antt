-- What is pulled out, as code meets it.
use Rattle.std.specs.Prelude.{ℕ, ◌≡◌, ◌+◌, ◌-◌, ◌<◌, ◌≤◌, ◌^◌, Bool, List, [], ◌∷◌, ◌++◌, length, map, flat_map, take, get_or}
use Rattle.std.specs.List.{All as Each}
use Rattle.std.proofs.Common.{ap, sym, subst, ◌∙◌, arith, inr, length-append, append_assoc}
use Rattle.std.proofs.lemmas.List.{append-nil}
use Rattle.fof_terms.specs.Lift.{lift_reach}
use Rattle.fof_terms.specs.Sorts.{binder_depth}
use Rattle.fof_terms.specs.declared.form.Form.{Form, All}
use Rattle.clause_form.specs.Norm.{node, members_of, joined_flat}
use Rattle.clause_form.specs.Sizes.{norm_size_of}
use Rattle.clause_form.proofs.SizeLaws.{depth_within_size}
use Rattle.flat_form.specs.Flat.{Pulled, kept, sorts_of, pulled, pull_reach}
use Rattle.flat_form.specs.Renumbered.{renumbered}
use Rattle.flat_form.specs.Numbers.{listed, HasRoomAt}
use Rattle.flat_form.specs.code.Numbers.{placed, placed_body, HasPlaces}
use Rattle.flat_form.proofs.Bodies.{placed_bodies}
use Rattle.flat_form.proofs.Lists.{sorts_more, flat_more, count_within}
use Rattle.flat_form.proofs.Placing.{node_placed, kept_placed, under_placed, start_placed}
use Rattle.flat_form.proofs.PulledFacts.{node_sorts, all_sorts, all_body, count-All}

-- a formula that is kept
module _ (total : ℕ) (places sorts : List ℕ) (a : Form) (h : HasPlaces total places sorts a) where
  pub keep_room : HasRoomAt total (length places) (0 + binder_depth a) (lift_reach total (length places + 0) a)
  keep_room =
      let none : length places ≡ length places + 0 = omega arith in
      (omega (arith, h.depth), inr (subst (λ (n : ℕ). lift_reach total n a < 2 ^ 32) none h.room))

  pub keep_sorts : pulled a ≡ kept a → sorts ≡ sorts ++ (pulled a).sorts
  keep_sorts is = sym (ap (λ (p : Pulled). sorts ++ p.sorts) is ∙ append-nil sorts)

  pub keep_body : (made : Form) → pulled a ≡ kept a → made ≡ renumbered (listed places total) 0 a → made ≡ placed_body places total (length sorts) a
  keep_body made is e = e ∙ kept_placed places total (length sorts) a is

-- under a universal quantifier
module _ (total : ℕ) (places sorts : List ℕ) (s : ℕ) (a : Form) (h : HasPlaces total places sorts (All s a)) where
  pub room_for_one : length sorts + 1 ≤ total
  room_for_one = omega (arith, count-All s a, h.count)

  pub under_sorts : (more last : List ℕ) → more ≡ sorts ++ s ∷ [] → last ≡ more ++ (pulled a).sorts → last ≡ sorts ++ (pulled (All s a)).sorts
  under_sorts more last one two =
      two ∙ (ap (λ xs. xs ++ (pulled a).sorts) one ∙ (append_assoc sorts (s ∷ []) (pulled a).sorts ∙ ap (λ xs. sorts ++ xs) (sym (all_sorts s a))))

  pub under_body : (more more_places : List ℕ) (made : Form) → more ≡ sorts ++ s ∷ [] → more_places ≡ places ++ (total - 1 - length sorts) ∷ []
      → made ≡ placed_body more_places total (length more) a → made ≡ placed_body places total (length sorts) (All s a)
  under_body more more_places made one two e =
      let n = length (pulled a).sorts in
      let start : length more ≡ length sorts + 1 = ap length one ∙ length-append sorts (s ∷ []) in
      let count : n + 1 ≡ length (pulled (All s a)).sorts = sym (count-All s a) in
      e
      ∙ (ap (λ m. renumbered (placed more_places total m n) 0 (pulled a).body) start
      ∙ (under_placed places more_places total (length sorts) n two (pulled a).body
      ∙ (ap (λ m. renumbered (placed places total (length sorts) m) 0 (pulled a).body) count ∙ ap (renumbered (placed places total (length sorts) (length (pulled (All s a)).sorts)) 0) (sym (all_body s a)))))

-- the members of a node
module _ (total : ℕ) (places sorts : List ℕ) (g : Bool) (as_ : List Form) where
  module _ (i : ℕ) (a : Form) (now next : List ℕ) (lt : i < length as_) (is : a ≡ get_or as_ i a) (met : now ≡ sorts ++ sorts_of (map pulled (take i as_))) where
    pub next_sorts : next ≡ now ++ (pulled a).sorts → next ≡ sorts ++ sorts_of (map pulled (take (i + 1) as_))
    next_sorts e =
        let same : (pulled a).sorts ≡ (pulled (get_or as_ i a)).sorts = ap (λ b. (pulled b).sorts) is in
        e
        ∙ (ap (λ xs. xs ++ (pulled a).sorts) met
        ∙ (append_assoc sorts (sorts_of (map pulled (take i as_))) (pulled a).sorts ∙ ap (λ xs. sorts ++ xs) (ap (λ xs. sorts_of (map pulled (take i as_)) ++ xs) same ∙ sym (sorts_more as_ i a lt))))

    pub next_flat : (places' : List ℕ) (body : Form) (flat flat' : List Form) → places' ≡ places → flat ≡ flat_map (members_of g) (placed_bodies places total (length sorts) (map pulled (take i as_)))
        → body ≡ placed_body places' total (length now) a → flat' ≡ flat ++ members_of g body → flat' ≡ flat_map (members_of g) (placed_bodies places total (length sorts) (map pulled (take (i + 1) as_)))
    next_flat places' body flat flat' kept_so one two three =
        let start : length now ≡ length sorts + length (sorts_of (map pulled (take i as_))) = ap length met ∙ length-append sorts (sorts_of (map pulled (take i as_))) in
        let at : body ≡ placed_body places total (length sorts + length (sorts_of (map pulled (take i as_)))) (get_or as_ i a) =
        two ∙ (ap (λ ps. placed_body ps total (length now) a) kept_so ∙ (ap (λ m. placed_body places total m a) start ∙ ap (placed_body places total (length sorts + length (sorts_of (map pulled (take i as_))))) is)) in
        flat_more places total (length sorts) g as_ i a body flat flat' lt one at three

  pub node_done : (made : Form) (flat : List Form) → flat ≡ flat_map (members_of g) (placed_bodies places total (length sorts) (map pulled as_)) → made ≡ joined_flat g flat → made ≡ placed_body places total (length sorts) (node g as_)
  node_done made flat e m = m ∙ (ap (joined_flat g) e ∙ node_placed places total (length sorts) g as_)

  pub node_sorts_done : (last : List ℕ) → last ≡ sorts ++ sorts_of (map pulled as_) → last ≡ sorts ++ (pulled (node g as_)).sorts
  node_sorts_done last e = e ∙ ap (λ xs. sorts ++ xs) (sym (node_sorts g as_))

-- at the start
module _ (a : Form) (size : norm_size_of a ≤ 100000) where
  pub start_places : (total : ℕ) (places sorts : List ℕ) → total ≡ length (pulled a).sorts → places ≡ [] → sorts ≡ [] → pull_reach a < 2 ^ 32 → HasPlaces total places sorts a
  start_places total places sorts is none empty far =
      let no_places : length places ≡ 0 = ap length none in
      let no_sorts : length sorts ≡ 0 = ap length empty in
      record {
        count = omega arith;
        few = omega (arith, count_within a);
        small = subst (Each (λ n. n < 2147483648)) (sym none) (λ i d lt. absurd (omega arith));
        depth = omega (arith, depth_within_size a);
        room = subst (λ (n : ℕ). lift_reach total n a < 2 ^ 32) (sym no_places) (subst (λ (n : ℕ). lift_reach n 0 a < 2 ^ 32) (sym is) far);
      }

  pub start_body : (total : ℕ) (places sorts : List ℕ) (made : Form) → total ≡ length (pulled a).sorts → places ≡ [] → sorts ≡ [] → made ≡ placed_body places total (length sorts) a → made ≡ (pulled a).body
  start_body total places sorts made is none empty e =
      e
      ∙ (ap (λ ps. placed_body ps total (length sorts) a) none
      ∙ (ap (λ (xs : List ℕ). placed_body [] total (length xs) a) empty
      ∙ (ap (λ m. renumbered (placed [] total 0 m) 0 (pulled a).body) (sym is) ∙ start_placed total (pulled a).body)))
