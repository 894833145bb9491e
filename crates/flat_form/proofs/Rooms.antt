-- Room for new numbers and for places in the parts of a formula.
use Rattle.std.specs.Prelude.{ℕ, zero, suc, ◌≡◌, ◌+◌, ◌-◌, ◌<◌, ◌≤◌, ◌^◌, Bool, true, false, List, [], ◌∷◌, ◌++◌, length, map, take, get_or}
use Rattle.std.specs.List.{All as Each}
use Rattle.std.proofs.Common.{ap, sym, subst, ◌∙◌, arith, inl, inr, length-append}
use Rattle.std.proofs.lemmas.List.Elements.{All-push}
use Rattle.fof_terms.specs.Lift.{greatest, lift_reach}
use Rattle.fof_terms.proofs.LiftFacts.{lift_reach-And, lift_reach-Or, lift_reach-All}
use Rattle.fof_terms.specs.Sorts.{binder_depth}
use Rattle.fof_terms.proofs.SortsFacts.{binder_depth-And, binder_depth-Or, binder_depth-All}
use Rattle.fof_terms.specs.declared.form.Form.{Form, All}
use Rattle.clause_form.proofs.Below.{below_greatest}
use Rattle.clause_form.specs.Norm.{node}
use Rattle.flat_form.specs.Flat.{pulled, sorts_of}
use Rattle.flat_form.specs.Numbers.{HasRoomAt}
use Rattle.flat_form.specs.code.Numbers.{HasPlaces}
use Rattle.flat_form.proofs.Lists.{sorts_within}
use Rattle.flat_form.proofs.PulledFacts.{node_sorts, count-All}

pub room_less : (outside listed deepest deep reach less : ℕ) → HasRoomAt outside listed deepest reach → deep ≤ deepest → less ≤ reach → HasRoomAt outside listed deep less
room_less outside listed deepest deep reach less (deep_enough, inl h) le_d le = (omega arith, inl h)
room_less outside listed deepest deep reach less (deep_enough, inr h) le_d le = (omega arith, inr (omega arith))

pub each_room : {X : Type 0} (outside listed : ℕ) (deep reach : X → ℕ) (depth : ℕ) (xs : List X) → HasRoomAt outside listed (depth + greatest (map deep xs)) (greatest (map reach xs))
    → Each (λ x. HasRoomAt outside listed (depth + deep x) (reach x)) xs
each_room outside listed deep reach depth [] h k d lt = absurd (omega arith)
each_room outside listed deep reach depth (x ∷ xs) h zero d lt = room_less outside listed _ (depth + deep x) _ (reach x) h (omega arith) (omega arith)
each_room outside listed deep reach depth (x ∷ xs) h (suc k) d lt =
    each_room outside listed deep reach depth xs (room_less outside listed _ (depth + greatest (map deep xs)) _ (greatest (map reach xs)) h (omega arith) (omega arith)) k d (omega arith)

pub each_reach : {X : Type 0} (outside listed depth : ℕ) (reach : X → ℕ) (xs : List X) → HasRoomAt outside listed depth (greatest (map reach xs)) → Each (λ x. HasRoomAt outside listed depth (reach x)) xs
each_reach outside listed depth reach [] h k d lt = absurd (omega arith)
each_reach outside listed depth reach (x ∷ xs) h zero d lt = room_less outside listed depth depth _ (reach x) h (omega arith) (omega arith)
each_reach outside listed depth reach (x ∷ xs) h (suc k) d lt =
    each_reach outside listed depth reach xs (room_less outside listed depth depth _ (greatest (map reach xs)) h (omega arith) (omega arith)) k d (omega arith)

node_depth : (g : Bool) (as_ : List Form) → binder_depth (node g as_) ≡ greatest (map binder_depth as_)
node_depth true as_ = binder_depth-And as_
node_depth false as_ = binder_depth-Or as_

node_reach : (by from : ℕ) (g : Bool) (as_ : List Form) → lift_reach by from (node g as_) ≡ greatest (map (lift_reach by from) as_)
node_reach by from true as_ = lift_reach-And by from as_
node_reach by from false as_ = lift_reach-Or by from as_

-- a member of a node, behind what was pulled out of those before it
pub places_member : (total : ℕ) (places places' sorts sorts' : List ℕ) (g : Bool) (as_ : List Form) (i : ℕ) (a : Form) → HasPlaces total places sorts (node g as_)
    → i < length as_ → a ≡ get_or as_ i a → sorts' ≡ sorts ++ sorts_of (map pulled (take i as_)) → places' ≡ places → HasPlaces total places' sorts' a
places_member total places places' sorts sorts' g as_ i a h lt is met kept =
    let one : length sorts' ≡ length sorts + length (sorts_of (map pulled (take i as_))) = ap length met ∙ length-append sorts (sorts_of (map pulled (take i as_))) in
    let two = sorts_within as_ i a lt in
    let three : length (pulled (get_or as_ i a)).sorts ≡ length (pulled a).sorts = ap (λ (b : Form). length (pulled b).sorts) (sym is) in
    let four : length (pulled (node g as_)).sorts ≡ length (sorts_of (map pulled as_)) = ap length (node_sorts g as_) in
    let deep = node_depth g as_ in
    let far = node_reach total (length places) g as_ in
    let depths = below_greatest binder_depth 2147483648 as_ (omega (arith, h.depth)) i a lt in
    let reaches = below_greatest (lift_reach total (length places)) (2 ^ 32) as_ (omega (arith, h.room)) i a lt in
    record {
      count = omega (arith, h.count);
      few = h.few;
      small = subst (Each (λ n. n < 2147483648)) (sym kept) h.small;
      depth = subst (λ (b : Form). binder_depth b < 2147483648) (sym is) depths;
      room = subst (λ (ps : List ℕ). lift_reach total (length ps) a < 2 ^ 32) (sym kept) (subst (λ (b : Form). lift_reach total (length places) b < 2 ^ 32) (sym is) reaches);
    }

-- the body of a universal quantifier
pub places_body : (total : ℕ) (places places' sorts sorts' : List ℕ) (s : ℕ) (a : Form) → HasPlaces total places sorts (All s a)
    → places' ≡ places ++ (total - 1 - length sorts) ∷ [] → sorts' ≡ sorts ++ s ∷ [] → HasPlaces total places' sorts' a
places_body total places places' sorts sorts' s a h kept met =
    let one : length sorts' ≡ length sorts + 1 = ap length met ∙ length-append sorts (s ∷ []) in
    let two = count-All s a in
    let more : length places' ≡ length places + 1 = ap length kept ∙ length-append places ((total - 1 - length sorts) ∷ []) in
    let deep = binder_depth-All s a in
    let far = lift_reach-All total (length places) s a in
    let below : lift_reach total (length places + 1) a < 2 ^ 32 = omega (arith, h.room) in
    record {
      count = omega (arith, h.count);
      few = h.few;
      small = subst (Each (λ n. n < 2147483648)) (sym kept) (All-push (λ n. n < 2147483648) places (total - 1 - length sorts) h.small (omega (arith, h.few)));
      depth = omega (arith, h.depth);
      room = subst (λ (n : ℕ). lift_reach total n a < 2 ^ 32) (sym more) below;
    }
