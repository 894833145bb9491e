-- The walk for functions in place of existential variables, as code meets its steps.
use Rattle.std.specs.Prelude.{ℕ, ◌≡◌, ◌+◌, ◌-◌, ◌≤◌, ◌<◌, Bool, true, false, List, [], ◌∷◌, ◌++◌, length, map, sum, take, drop, get_or, Option, Some, None, refl}
use Rattle.std.specs.List.{AllByRecursion as Each, All as Every, list_all}
use Rattle.std.proofs.Common.{ap, sym, subst, ◌∙◌, arith, zero, suc, add-one}
use Rattle.std.proofs.lemmas.List.{drop-drop, drop_at, length-append, length-drop}
use Rattle.fof_terms.specs.declared.term.Term.{Term}
use Rattle.fof_terms.specs.declared.form.Form.{Form, All, Ex}
use Rattle.fof_terms.specs.Instance.{instance_of, instance_at, instance_term}
use Rattle.fof_terms.proofs.LiftingLaws.{each_true}
use Rattle.fof_terms.specs.Lift.{greatest}
use Rattle.fof_terms.specs.Sorts.{binder_depth, sort_of_term, is_sorted}
use Rattle.fof_terms.proofs.SortsFacts.{binder_depth-And, binder_depth-Or, is_sorted-And, is_sorted-Or}
use Rattle.fof_terms.specs.Vocabulary.{Vocabulary}
use Rattle.clause_form.specs.Norm.{node}
use Rattle.clause_form.proofs.SizeLaws.{sum_cons}
use Rattle.clause_form.specs.Sizes.{norm_size_of}
use Rattle.clause_form.proofs.SizesFacts.{norm_size_of-Atom, norm_size_of-Eq, norm_size_of-Not, norm_size_of-And, norm_size_of-Or, norm_size_of-Imp, norm_size_of-Iff, norm_size_of-All, norm_size_of-Ex}
use Rattle.fof_terms.proofs.Induction.{form_induction}
use Rattle.fof_terms.proofs.Walks.{FormWalk, placing}
use Rattle.skolem_fresh.proofs.Freely.{at}
use Rattle.skolem_fresh.specs.declared.just.Use.{Use}
use Rattle.skolem_fresh.specs.declared.leaves.Leaf.{Leaf}
use Rattle.skolem_fresh.specs.Choosing.{IsWithin}
use Rattle.skolem_fresh.specs.SkolemRule.{MayReplace}
use Rattle.skolem_fresh.specs.code.Skolemizing.{IsReplaced, IsWalked, IsWalkedTo, AreWalked, AreWalkedTo}
use Rattle.skolem_fresh.specs.Uses.{value_of}
use Rattle.skolem_fresh.proofs.Walking.{one_more, none_more, none_walked, node_walked, node_none, all_walked, all_none, some_walked, some_none, unreplaced}
use Rattle.skolem_fresh.proofs.Opened.{within_value}

pub taken_snoc : {X : Type 0} (xs : List X) (i : ℕ) (x : X) → i < length xs → x ≡ get_or xs i x → take (suc i) xs ≡ take i xs ++ x ∷ []
taken_snoc [] i x h e = absurd (omega arith)
taken_snoc (y ∷ xs) zero x h e = ap (λ z. z ∷ []) (sym e)
taken_snoc (y ∷ xs) (suc i) x h e = ap (λ ys. y ∷ ys) (taken_snoc xs i x (omega arith) e)

pub whole_from : {X : Type 0} (xs : List X) (i : ℕ) (x : X) → i < length xs → x ≡ get_or xs i x → xs ≡ take i xs ++ x ∷ drop (suc i) xs
whole_from [] i x h e = absurd (omega arith)
whole_from (y ∷ xs) zero x h e = ap (λ z. z ∷ xs) (sym e)
whole_from (y ∷ xs) (suc i) x h e = ap (λ ys. y ∷ ys) (whole_from xs i x (omega arith) e)

module _ (v : Vocabulary) (scope : List ℕ) where
  -- Each of some formulas.
  pub walk_more : (forms made made' : List Form) (i : ℕ) (form next : Form) (found : Option Form) (leaves mid left : List Leaf) (old us new : List Use) → i < length forms → form ≡ get_or forms i form → found ≡ Some next → made' ≡ made ++ next ∷ []
      → AreWalkedTo v scope (take i forms) made leaves mid old us → IsWalked v scope form mid left us new found → AreWalkedTo v scope (take (i + 1) forms) made' leaves left old new
  walk_more forms made made' i form next found leaves mid left old us new lt is e em w x =
      let x' : IsWalkedTo v scope form next mid left us new = subst (IsWalked v scope form mid left us new) e x in
      let both : AreWalkedTo v scope (take i forms ++ form ∷ []) (made ++ next ∷ []) leaves left old new = one_more v scope (take i forms) made form leaves mid old us w next left new x' in
      let taken : take (i + 1) forms ≡ take i forms ++ form ∷ [] = (rw add-one refl) ∙ taken_snoc forms i form lt is in
      subst (λ xs. AreWalkedTo v scope (take (i + 1) forms) xs leaves left old new) (sym em) (subst (λ xs. AreWalkedTo v scope xs (made ++ next ∷ []) leaves left old new) (sym taken) both)

  pub walk_stops : (forms made : List Form) (i : ℕ) (form : Form) (found : Option Form) (leaves mid left : List Leaf) (old us new : List Use) → i < length forms → form ≡ get_or forms i form → found ≡ None
      → AreWalkedTo v scope (take i forms) made leaves mid old us → IsWalked v scope form mid left us new found → AreWalked v scope forms leaves left old new None
  walk_stops forms made i form found leaves mid left old us new lt is e w x =
      let x' : IsWalked v scope form mid left us new None = subst (IsWalked v scope form mid left us new) e x in
      subst (λ xs. AreWalked v scope xs leaves left old new None) (sym (whole_from forms i form lt is)) (none_more v scope (take i forms) made form leaves mid old us w (drop (suc i) forms) left left new new x')

  pub walk_starts : (forms : List Form) (leaves : List Leaf) (uses : List Use) (made : List Form) → made ≡ [] → AreWalkedTo v scope (take 0 forms) made leaves leaves uses uses
  walk_starts forms leaves uses made e = subst (λ xs. AreWalkedTo v scope [] xs leaves leaves uses uses) (sym e) (none_walked v scope leaves uses)

  -- A node.
  pub node_done : (g : Bool) (form : Form) (members as_ : List Form) (leaves left : List Leaf) (old new : List Use) (found : Option (List Form)) (made : List Form) → form ≡ node g as_ → members ≡ as_ → found ≡ Some made
      → AreWalked v scope members leaves left old new found → IsWalked v scope form leaves left old new (Some (node g made))
  node_done g form members as_ leaves left old new found made is em e w =
      let w' : AreWalkedTo v scope members made leaves left old new = subst (AreWalked v scope members leaves left old new) e w in
      subst (λ a. IsWalkedTo v scope a (node g made) leaves left old new) (sym (is ∙ ap (node g) (sym em))) (node_walked v g scope members leaves left old new made w')

  pub node_fails : (g : Bool) (form : Form) (members as_ : List Form) (leaves left : List Leaf) (old new : List Use) (found : Option (List Form)) → form ≡ node g as_ → members ≡ as_ → found ≡ None
      → AreWalked v scope members leaves left old new found → IsWalked v scope form leaves left old new None
  node_fails g form members as_ leaves left old new found is em e w =
      let w' : AreWalked v scope members leaves left old new None = subst (AreWalked v scope members leaves left old new) e w in
      subst (λ a. IsWalked v scope a leaves left old new None) (sym (is ∙ ap (node g) (sym em))) (node_none v g scope members leaves left old new w')

  node_depth : (g : Bool) (as_ : List Form) → binder_depth (node g as_) ≡ greatest (map binder_depth as_)
  node_depth true as_ = binder_depth-And as_
  node_depth false as_ = binder_depth-Or as_

  node_fits : (g : Bool) (as_ : List Form) → is_sorted v scope (node g as_) ≡ list_all (is_sorted v scope) as_
  node_fits true as_ = is_sorted-And v scope as_
  node_fits false as_ = is_sorted-Or v scope as_

  pub members_within : (g : Bool) (form : Form) (members as_ : List Form) → form ≡ node g as_ → members ≡ as_ → IsWithin v scope form → Each (IsWithin v scope) members
  members_within g form members as_ is em w =
      let w' : IsWithin v scope (node g as_) = subst (IsWithin v scope) is w in
      let room : binder_depth (node g as_) + length scope ≤ 1000000000 = w'.room in
      let same = node_depth g as_ in
      let few : binder_depth (node g as_) ≤ 2147483647 = w'.sorted.few_binders in
      subst (Each (IsWithin v scope)) (sym em) (each as_ (omega arith) (omega arith) (each_true (is_sorted v scope) as_ (sym (node_fits g as_) ∙ w'.sorted.fits))) where
        each : (xs : List Form) → greatest (map binder_depth xs) + length scope ≤ 1000000000 → greatest (map binder_depth xs) ≤ 2147483647 → Each (λ a. is_sorted v scope a ≡ true) xs → Each (IsWithin v scope) xs
        each [] h k f = tt
        each (x ∷ xs) h k f = (
          record { room = omega arith; sorted = record { scope_fits = (subst (IsWithin v scope) is w).sorted.scope_fits; few_binders = omega arith; fits = f.0 } },
          each xs (omega arith) (omega arith) f.1,
        )

  -- A universal quantifier.
  pub all_done : (sc : List ℕ) (s : ℕ) (form body b0 : Form) (leaves left : List Leaf) (old new : List Use) (found : Option Form) (made boxed : Form) → sc ≡ s ∷ scope → form ≡ All s b0 → body ≡ b0 → found ≡ Some made → boxed ≡ made
      → IsWalked v sc body leaves left old new found → IsWalked v scope form leaves left old new (Some (All s boxed))
  all_done sc s form body b0 leaves left old new found made boxed es is eb e em w =
      let w' : IsWalkedTo v (s ∷ scope) body made leaves left old new = subst (λ x. IsWalked v x body leaves left old new (Some made)) es (subst (IsWalked v sc body leaves left old new) e w) in
      subst (λ a. IsWalkedTo v scope a (All s boxed) leaves left old new) (sym (is ∙ ap (All s) (sym eb))) (subst (λ b. IsWalkedTo v scope (All s body) (All s b) leaves left old new) (sym em) (all_walked v scope s body leaves left old new made w'))

  pub all_fails : (sc : List ℕ) (s : ℕ) (form body b0 : Form) (leaves left : List Leaf) (old new : List Use) (found : Option Form) → sc ≡ s ∷ scope → form ≡ All s b0 → body ≡ b0 → found ≡ None
      → IsWalked v sc body leaves left old new found → IsWalked v scope form leaves left old new None
  all_fails sc s form body b0 leaves left old new found es is eb e w =
      let w' : IsWalked v (s ∷ scope) body leaves left old new None = subst (λ x. IsWalked v x body leaves left old new None) es (subst (IsWalked v sc body leaves left old new) e w) in
      subst (λ a. IsWalked v scope a leaves left old new None) (sym (is ∙ ap (All s) (sym eb))) (all_none v scope s body leaves left old new w')

  -- An existential quantifier.
  module _ (outer s : ℕ) (form body b0 : Form) (own leaves : List Leaf) (old mid : List Use) (found : Option Form) (is_outer : outer ≡ length scope) (is : form ≡ Ex s b0) (eb : body ≡ b0) (el : own ≡ leaves)
      (r : IsReplaced v scope outer s body own old mid found) where
    form_is : form ≡ Ex s body
    form_is = is ∙ ap (Ex s) (sym eb)

    at_leaves : IsReplaced v scope outer s body leaves old mid found
    at_leaves = subst (λ ls. IsReplaced v scope outer s body ls old mid found) el r

    pub some_fails : found ≡ None → IsWalked v scope form leaves leaves old mid None
    some_fails e = subst (λ a. IsWalked v scope a leaves leaves old mid None) (sym form_is) (unreplaced v scope outer s body leaves is_outer leaves old mid (subst (IsReplaced v scope outer s body leaves old mid) e at_leaves))

    module _ (next boxed : Form) (e : found ≡ Some boxed) (en : next ≡ boxed) where
      replaced_by : IsReplaced v scope outer s body leaves old mid (Some next)
      replaced_by = subst (IsReplaced v scope outer s body leaves old mid) (e ∙ ap Some (sym en)) at_leaves

      pub some_done : (left : List Leaf) (new : List Use) (answer : Option Form) → IsWalked v scope next leaves left mid new answer → IsWalked v scope form leaves left old new answer
      some_done left new None w = subst (λ a. IsWalked v scope a leaves left old new None) (sym form_is) (some_none v scope outer s body leaves is_outer next old mid replaced_by left new w)
      some_done left new (Some b) w = subst (λ a. IsWalkedTo v scope a b leaves left old new) (sym form_is) (some_walked v scope outer s body leaves is_outer next old mid replaced_by b left new w)

      pub next_has_room : IsWithin v scope form → IsWithin v scope next
      next_has_room w =
          let u = replaced_by.0 in
          let m : MayReplace v scope u s body = replaced_by.1.1 in
          let fits : sort_of_term v scope (value_of u) ≡ Some s = m.fits ∙ ap Some m.sort in
          subst (IsWithin v scope) (sym replaced_by.3) (within_value v scope s body (subst (IsWithin v scope) form_is w) (value_of u) fits)

-- Terms that are passed.
pub few_terms : (own own' whole after : List Leaf) (at n : ℕ) → own ≡ own' → n ≡ length own → length whole - at < n → drop at whole ≡ own' ++ after → ⊥
few_terms own own' whole after at n e en lt is =
    let more : length (drop at whole) ≡ length own' + length after = ap length is ∙ length-append own' after in
    let left : length (drop at whole) ≡ length whole - at = length-drop at whole in
    let same = ap length e in
    omega arith

pub terms_passed : (own own' whole after : List Leaf) (at n : ℕ) → own ≡ own' → n ≡ length own → drop at whole ≡ own' ++ after → after ≡ drop (at + n) whole
terms_passed own own' whole after at n e en is =
    let first : drop n (drop at whole) ≡ after = ap (drop n) (is ∙ ap (λ (ls : List Leaf). ls ++ after) (sym e)) ∙ drop_at own after n (sym en) in
    sym first ∙ drop-drop n at whole

-- The sizes of parts.
pub node_size : (g : Bool) (form : Form) (members as_ : List Form) → form ≡ node g as_ → members ≡ as_ → norm_size_of form ≡ 1 + sum (map norm_size_of members)
node_size true form members as_ is em = ap norm_size_of is ∙ norm_size_of-And as_ ∙ ap (λ xs. 1 + sum (map norm_size_of xs)) (sym em)
node_size false form members as_ is em = ap norm_size_of is ∙ norm_size_of-Or as_ ∙ ap (λ xs. 1 + sum (map norm_size_of xs)) (sym em)

pub all_size : (s : ℕ) (form body b0 : Form) → form ≡ All s b0 → body ≡ b0 → norm_size_of form ≡ 1 + norm_size_of body
all_size s form body b0 is eb = ap norm_size_of is ∙ norm_size_of-All s b0 ∙ ap (λ b. 1 + norm_size_of b) (sym eb)

sizes_walk : (f : ℕ → Term → Term) (g : ℕ → Form → Form) → FormWalk f g → (a : Form) (d : ℕ) → norm_size_of (g d a) ≡ norm_size_of a
sizes_walk f g w = form_induction _ (record {
  atom = λ p ts d. rw (w.atom, norm_size_of-Atom, norm_size_of-Atom) refl;
  eq = λ l r d. rw (w.eq, norm_size_of-Eq, norm_size_of-Eq) refl;
  not = λ a ih d. rw (w.not, norm_size_of-Not, norm_size_of-Not) (ih d);
  and = λ as_ all d. rw (w.and, norm_size_of-And, norm_size_of-And) (ap (λ n. 1 + sum n) (sizes_same (g d) as_ (at (λ d a. norm_size_of (g d a) ≡ norm_size_of a) as_ d all)));
  or = λ as_ all d. rw (w.or, norm_size_of-Or, norm_size_of-Or) (ap (λ n. 1 + sum n) (sizes_same (g d) as_ (at (λ d a. norm_size_of (g d a) ≡ norm_size_of a) as_ d all)));
  imp = λ a b ih jh d. rw (w.imp, norm_size_of-Imp, norm_size_of-Imp, ih d, jh d) refl;
  iff = λ a b ih jh d. rw (w.iff, norm_size_of-Iff, norm_size_of-Iff, ih d, jh d) refl;
  all = λ s a ih d. rw (w.all, norm_size_of-All, norm_size_of-All, ih (d + 1)) refl;
  ex = λ s a ih d. rw (w.ex, norm_size_of-Ex, norm_size_of-Ex, ih (d + 1)) refl;
}) where
  sizes_same : (h : Form → Form) (as_ : List Form) → Each (λ a. norm_size_of (h a) ≡ norm_size_of a) as_ → map norm_size_of (map h as_) ≡ map norm_size_of as_
  sizes_same h [] all = refl
  sizes_same h (a ∷ as_) all = rw (all.0, sizes_same h as_ all.1) refl

pub instance_size : (x : Term) (a : Form) → norm_size_of (instance_of a x) ≡ norm_size_of a
instance_size x a = sizes_walk (instance_term x) (instance_at x) (placing x (λ d. d) (λ d. refl)) a 0

pub next_size : (v : Vocabulary) (scope : List ℕ) (outer s : ℕ) (form body b0 : Form) (own : List Leaf) (old mid : List Use) (found : Option Form) (next boxed : Form) → form ≡ Ex s b0 → body ≡ b0 → found ≡ Some boxed → next ≡ boxed
    → IsReplaced v scope outer s body own old mid found → norm_size_of form ≡ 1 + norm_size_of next
next_size v scope outer s form body b0 own old mid found next boxed is eb e en r =
    let r' : IsReplaced v scope outer s body own old mid (Some boxed) = subst (IsReplaced v scope outer s body own old mid) e r in
    let same : norm_size_of next ≡ norm_size_of body = ap norm_size_of (en ∙ r'.3) ∙ instance_size (value_of r'.0) body in
    ap norm_size_of is ∙ norm_size_of-Ex s b0 ∙ ap (λ b. 1 + norm_size_of b) (sym eb) ∙ ap (λ n. 1 + n) (sym same)

member_size : (forms : List Form) → Every (λ a. norm_size_of a ≤ sum (map norm_size_of forms)) forms
member_size [] k d lt = absurd (omega arith)
member_size (a ∷ forms) zero d lt = let first = sum_cons (norm_size_of a) (map norm_size_of forms) in omega arith
member_size (a ∷ forms) (suc k) d lt =
    let first = sum_cons (norm_size_of a) (map norm_size_of forms) in
    let rest = member_size forms k d (omega arith) in
    omega arith

-- one of some things of which something holds
pub each_at : {X : Type 0} (P : X → Type 0) (xs : List X) (i : ℕ) (x : X) → Each P xs → i < length xs → x ≡ get_or xs i x → P x
each_at P [] i x h lt is = absurd (omega arith)
each_at P (y ∷ xs) zero x h lt is = subst P (sym is) h.0
each_at P (y ∷ xs) (suc i) x h lt is = each_at P xs i x h.1 (omega arith) is

pub one_size : (forms : List Form) (i : ℕ) (a : Form) → i < length forms → a ≡ get_or forms i a → norm_size_of a ≤ sum (map norm_size_of forms)
one_size forms i a lt is = subst (λ b. norm_size_of b ≤ sum (map norm_size_of forms)) (sym is) (member_size forms i a lt)

-- The whole formula stands under no quantifier.
pub whole_within : (v : Vocabulary) (a : Form) (scope : List ℕ) → scope ≡ [] → IsWithin v [] a → IsWithin v scope a
whole_within v a scope e w = subst (λ sc. IsWithin v sc a) (sym e) w

pub whole_walked : (v : Vocabulary) (a : Form) (scope : List ℕ) (leaves left : List Leaf) (old new : List Use) (answer : Option Form) → scope ≡ [] → IsWalked v scope a leaves left old new answer → IsWalked v [] a leaves left old new answer
whole_walked v a scope leaves left old new answer e w = subst (λ sc. IsWalked v sc a leaves left old new answer) e w

pub outer_more : (outer s : ℕ) (scope sc : List ℕ) → sc ≡ s ∷ scope → outer ≡ length scope → outer + 1 ≡ length sc
outer_more outer s scope sc e o = let more : length sc ≡ suc (length scope) = ap length e in omega arith
