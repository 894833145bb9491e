-- Existential quantifiers that are opened, one after another.
use Rattle.std.specs.Prelude.{ℕ, ◌≡◌, ◌+◌, ◌-◌, ◌<◌, ◌≤◌, ◌^◌, Bool, true, false, IsTrue, ◌↔◌, List, [], ◌∷◌, ◌++◌, length, map, Option, Some, None, Result, Ok, Err, IfOk, refl}
use Rattle.std.specs.List.{AllByRecursion as Each}
use Rattle.std.specs.Option.{option_map}
use Rattle.std.proofs.Common.{ap, sym, subst, ◌∙◌, arith, append_assoc, ◌⊎◌, inl, inr, zero, suc}
use Rattle.fof_terms.specs.declared.term.Term.{Term, Var}
use Rattle.fof_terms.specs.declared.term.Term.TheOpen as term
use Rattle.fof_terms.specs.declared.term.Term.TheViews.{out-Term}
use Rattle.fof_terms.specs.declared.form.Form.{Form, Ex}
use Rattle.fof_terms.specs.Vocabulary.{Vocabulary}
use Rattle.fof_terms.proofs.Trees.{Ex-injective}
use Rattle.fof_terms.proofs.Induction.{form_induction}
use Rattle.fof_terms.specs.Instance.{instance_of, instance_at, instance_term, instance_reach}
use Rattle.fof_terms.specs.Variables.{has_variable}
use Rattle.fof_terms.specs.Sorts.{SortedTo, sort_of_term, binder_depth}
use Rattle.fof_terms.proofs.SortsFacts.{binder_depth-Ex}
use Rattle.fof_terms.proofs.Scoped.{sorted_of_ex}
use Rattle.fof_terms.proofs.Moved.{body_instance_sorted, of_lifted_over}
use Rattle.fof_terms.proofs.MoreReaches.{instance_reach_fits}
use Rattle.fof_terms.proofs.PlaceReach.{place_reach}
use Rattle.fof_terms.proofs.Unused.{unused_back}
use Rattle.fof_terms.proofs.Walks.{FormWalk, placing, same_depth}
use Rattle.skolem_fresh.specs.declared.just.Use.{Use}
use Rattle.skolem_fresh.specs.declared.leaves.Leaf.{Leaf}
use Rattle.skolem_fresh.specs.code.Leaves.{leaves_of}
use Rattle.skolem_fresh.specs.code.Leading.{leading}
use Rattle.skolem_fresh.proofs.LeadingFacts.{leading-Atom, leading-Eq, leading-Not, leading-And, leading-Or, leading-Imp, leading-Iff, leading-All, leading-Ex}
use Rattle.clause_form.specs.ClauseView.{all_there}
use Rattle.skolem_fresh.specs.code.Reading.{read, read_or, found_term, use_of, use_in, used, variable_of}
use Rattle.skolem_fresh.specs.Uses.{value_of, Fits}
use Rattle.skolem_fresh.specs.ChoiceRule.{IsOpened}
use Rattle.skolem_fresh.specs.Choosing.{IsWithin}
use Rattle.skolem_fresh.specs.code.Choosing.{IsNext, IsRead}
use Rattle.skolem_fresh.proofs.Finding.{read_off}

pub on_ok : {X E : Type 0} {P Q : X → Type 0} (r : Result X E) → ((x : X) → P x → Q x) → IfOk r P → IfOk r Q
on_ok (Ok x) f p = f x p
on_ok (Err e) f p = p

-- the parts of what has room
module _ (v : Vocabulary) (scope : List ℕ) (s : ℕ) (body : Form) (w : IsWithin v scope (Ex s body)) where
  pub body_room : binder_depth body + 1 + length scope ≤ 1000000000
  body_room = let room : binder_depth (Ex s body) + length scope ≤ 1000000000 = w.room in rw binder_depth-Ex at room

  pub body_sorted : SortedTo 2147483647 v (s ∷ scope) body
  body_sorted = let room = body_room in sorted_of_ex v scope 2147483647 2147483647 s body (omega arith) (omega arith) w.sorted

  pub within_value : (x : Term) → sort_of_term v scope x ≡ Some s → IsWithin v scope (instance_of body x)
  within_value x e = record {
    room = let room = body_room in let same : binder_depth (instance_at x 0 body) ≡ binder_depth body = same_depth (instance_term x) (instance_at x) (placing x (λ d. d) (λ d. refl)) body 0 in omega arith;
    sorted = let r = body_sorted in body_instance_sorted v scope 2147483647 s body x e w.sorted.scope_fits r.few_binders r.fits;
  }

  pub within_unused : has_variable 0 body ≡ false → IsWithin v scope (instance_of body (Var 0))
  within_unused off = record {
    room = let room = body_room in let same : binder_depth (instance_at (Var 0) 0 body) ≡ binder_depth body = same_depth (instance_term (Var 0)) (instance_at (Var 0)) (placing (Var 0) (λ d. d) (λ d. refl)) body 0 in omega arith;
    sorted = of_lifted_over v scope 2147483647 s (instance_at (Var 0) 0 body) (subst (SortedTo 2147483647 v (s ∷ scope)) (sym (unused_back (Var 0) body 0 off)) body_sorted);
  }

  pub value_reaches : (x : Term) → sort_of_term v scope x ≡ Some s → instance_reach x 0 body < 2 ^ 32
  value_reaches x e = let room = body_room in instance_reach_fits v scope x s body e (omega arith) (omega arith)

  pub unused_reaches : instance_reach (Var 0) 0 body < 2 ^ 32
  unused_reaches = let room = body_room in omega (arith, place_reach body 0)

-- the sort of what is read is the one that was asked for
sort_of_use : (s : ℕ) (f : ℕ) (r : Option (List ℕ)) (u : Use) → option_map (used f s) r ≡ Some u → u.sort ≡ s
sort_of_use s f None u e = cc
sort_of_use s f (Some xs) u e = let same : used f s xs ≡ u = cc in sym (ap (λ (w : Use). w.sort) same)

sort_in : (d s : ℕ) (y : term.Term-F Term) (u : Use) → use_in d s y ≡ Some u → u.sort ≡ s
sort_in d s (term.Var k) u e = cc
sort_in d s (term.App f ts) u e = sort_of_use s f (all_there (map (variable_of d) ts)) u e

use_sort : (d s : ℕ) (t : Term) (u : Use) → use_of d s t ≡ Some u → u.sort ≡ s
unfolding use_of
use_sort d s t u e = sort_in d s (out-Term t) u e

read_or_sort : (r : Option Use) (found : Option Term) (d s : ℕ) (u : Use) → (r ≡ Some u → u.sort ≡ s) → read_or r found d s ≡ Some u → u.sort ≡ s
read_or_sort r None d s u h e = h e
read_or_sort r (Some t) d s u h e = use_sort d s t u e

pub read_sort : (s : ℕ) (ls ms : List Leaf) (u : Use) → read s ls ms ≡ Some u → u.sort ≡ s
read_sort s [] ms u e = cc
read_sort s (l ∷ ls) [] u e = cc
read_sort s (l ∷ ls) (m ∷ ms) u e = read_or_sort (read s ls ms) (found_term l.depth l.term m.term) m.depth s u (read_sort s ls ms u) e

-- a formula that begins with existential quantifiers is existential
pub leading_none : (a : Form) → ((s : ℕ) (b : Form) → a ≡ Ex s b → ⊥) → leading a ≡ 0
leading_none = form_induction (λ a. ((s : ℕ) (b : Form) → a ≡ Ex s b → ⊥) → leading a ≡ 0) (record {
  atom = λ p ts none. leading-Atom p ts;
  eq = λ l r none. leading-Eq l r;
  not = λ a ih none. leading-Not a;
  and = λ as_ all none. leading-And as_;
  or = λ as_ all none. leading-Or as_;
  imp = λ a b ih jh none. leading-Imp a b;
  iff = λ a b ih jh none. leading-Iff a b;
  all = λ s a ih none. leading-All s a;
  ex = λ s a ih none. absurd (none s a refl);
})

-- how many quantifiers it begins with
leading_walk : (f : ℕ → Term → Term) (g : ℕ → Form → Form) → FormWalk f g → (a : Form) (d : ℕ) → leading (g d a) ≡ leading a
leading_walk f g w = form_induction _ (record {
  atom = λ p ts d. rw (w.atom, leading-Atom, leading-Atom) refl;
  eq = λ l r d. rw (w.eq, leading-Eq, leading-Eq) refl;
  not = λ a ih d. rw (w.not, leading-Not, leading-Not) refl;
  and = λ as_ all d. rw (w.and, leading-And, leading-And) refl;
  or = λ as_ all d. rw (w.or, leading-Or, leading-Or) refl;
  imp = λ a b ih jh d. rw (w.imp, leading-Imp, leading-Imp) refl;
  iff = λ a b ih jh d. rw (w.iff, leading-Iff, leading-Iff) refl;
  all = λ s a ih d. rw (w.all, leading-All, leading-All) refl;
  ex = λ s a ih d. rw (w.ex, leading-Ex, leading-Ex, ih (d + 1)) refl;
})

pub leading_instance : (x : Term) (a : Form) → leading (instance_of a x) ≡ leading a
leading_instance x a = leading_walk (instance_term x) (instance_at x) (placing x (λ d. d) (λ d. refl)) a 0

pub leading_opened : (k : ℕ) (uses : List Use) (a b : Form) → IsOpened k uses a b → leading a ≡ k + leading b
leading_opened zero uses a b o = let same : b ≡ a = o.1 in rw same (omega arith)
leading_opened (suc k) uses a b o =
    elim o.3 [
      | inl h ↦
          let next = leading_opened k h.1.1 (instance_of o.1 (value_of h.1.0)) b h.1.4 in
          let same = leading_instance (value_of h.1.0) o.1 in
          let first : leading a ≡ leading o.1 + 1 = ap leading o.2 ∙ leading-Ex o.0 o.1 in
          omega arith
      | inr h ↦
          let next = leading_opened k uses (instance_of o.1 (Var 0)) b h.1 in
          let same = leading_instance (Var 0) o.1 in
          let first : leading a ≡ leading o.1 + 1 = ap leading o.2 ∙ leading-Ex o.0 o.1 in
          omega arith
    ]

-- What one step and the rest make.
module _ (v : Vocabulary) (scope : List ℕ) (k s : ℕ) (form body right : Form) (is : form ≡ Ex s body) (leaves : List Leaf) (of_right : leaves ≡ leaves_of 0 right) where
  read_here : (u : Use) (rest : List Use) → has_variable 0 body ≡ true → u.sort ≡ s → IsOpened k rest (instance_of body (value_of u)) right → read s (leaves_of 0 body) leaves ≡ Some u
  read_here u rest has e o = rw (of_right, sym e) (read_off k u rest body right has o)

  some_right : (u w : Use) (x : Option Use) → x ≡ Some u → x ≡ Some w → w ≡ u
  some_right u w x e f = cc

  -- the ways in which the formula is opened, in terms of this body
  abbrev Ways : List Use → Type 0
  Ways uses = ((has_variable 0 body ≡ true) × ((u : Use) × (rest : List Use) × (uses ≡ u ∷ rest) × (u.sort ≡ s) × IsOpened k rest (instance_of body (value_of u)) right))
      ⊎ ((has_variable 0 body ≡ false) × IsOpened k uses (instance_of body (Var 0)) right)

  ways : (uses : List Use) → IsOpened (suc k) uses form right → Ways uses
  ways uses o =
      let same = Ex-injective o.0 s o.1 body (sym o.2 ∙ is) in
      elim o.3 [
        | inl h ↦
            let has : has_variable 0 body ≡ true = ap (has_variable 0) (sym same.1) ∙ h.0 in
            let opened : IsOpened k h.1.1 (instance_of body (value_of h.1.0)) right = subst (λ b. IsOpened k h.1.1 (instance_of b (value_of h.1.0)) right) same.1 h.1.4 in
            inl (has, (h.1.0, h.1.1, h.1.2, h.1.3 ∙ same.0, opened))
        | inr h ↦
            let has : has_variable 0 body ≡ false = ap (has_variable 0) (sym same.1) ∙ h.0 in
            inr (has, subst (λ b. IsOpened k uses (instance_of b (Var 0)) right) same.1 h.1)
      ]

  pub none_read : (old new : List Use) → IsNext v scope s body leaves old new None → IsRead v scope (suc k) form right old new false
  none_read old new n = record {
    sound = λ e. cc;
    complete = λ more o fits. absurd (no_way more o fits);
  } where
    no_way : (more : List Use) → IsOpened (suc k) more form right → Each (Fits v scope) more → ⊥
    no_way more o fits =
        elim (ways more o) [
          | inl h ↦
              let fits' : Each (Fits v scope) (h.1.0 ∷ h.1.1) = subst (Each (Fits v scope)) h.1.2 fits in
              n.1 h.1.0 (read_here h.1.0 h.1.1 h.0 h.1.3 h.1.4) fits'.0
          | inr h ↦ let never : true ≡ false = sym n.0 ∙ h.0 in cc
        ]

  module _ (old mid new : List Use) (next : Form) (answer : Bool) (n : IsNext v scope s body leaves old mid (Some next)) (r : IsRead v scope k next right mid new answer) where
    found : answer ≡ true → (more : List Use) × (new ≡ old ++ more) × IsOpened (suc k) more form right × Each (Fits v scope) more
    found e =
        let rest = r.sound e in
        elim n [
          | inl h ↦
              let opened : IsOpened k rest.0 (instance_of body (Var 0)) right = subst (λ a. IsOpened k rest.0 a right) h.2 rest.2 in
              (rest.0, rest.1 ∙ ap (λ (us : List Use). us ++ rest.0) h.1, (s, body, is, inr (h.0, opened)), rest.3)
          | inr h ↦
              let u = h.1.0 in
              let opened : IsOpened k rest.0 (instance_of body (value_of u)) right = subst (λ a. IsOpened k rest.0 a right) h.1.4 rest.2 in
              let all : new ≡ old ++ (u ∷ rest.0) = rest.1 ∙ ap (λ (us : List Use). us ++ rest.0) h.1.3 ∙ append_assoc old (u ∷ []) rest.0 in
              (u ∷ rest.0, all, (s, body, is, inl (h.0, (u, rest.0, refl, read_sort s (leaves_of 0 body) leaves u h.1.1, opened))), (h.1.2, rest.3))
        ]

    alone : (more : List Use) → IsOpened (suc k) more form right → Each (Fits v scope) more → (answer ≡ true) × (new ≡ old ++ more)
    alone more o fits =
        elim (ways more o) [
          | inl w ↦
              let u = w.1.0 in
              let at : read s (leaves_of 0 body) leaves ≡ Some u = read_here u w.1.1 w.0 w.1.3 w.1.4 in
              let fits' : Each (Fits v scope) (u ∷ w.1.1) = subst (Each (Fits v scope)) w.1.2 fits in
              elim n [
                | inl h ↦ let never : true ≡ false = sym w.0 ∙ h.0 in cc
                | inr h ↦
                    let same : h.1.0 ≡ u = some_right u h.1.0 (read s (leaves_of 0 body) leaves) at h.1.1 in
                    let opened : IsOpened k w.1.1 next right = subst (λ a. IsOpened k w.1.1 a right) (sym (h.1.4 ∙ ap (λ x. instance_of body (value_of x)) same)) w.1.4 in
                    let done = r.complete w.1.1 opened fits'.1 in
                    (done.0, done.1 ∙ ap (λ (us : List Use). us ++ w.1.1) h.1.3 ∙ append_assoc old (h.1.0 ∷ []) w.1.1 ∙ ap (λ x. old ++ (x ∷ w.1.1)) same ∙ ap (λ (us : List Use). old ++ us) (sym w.1.2))
              ]
          | inr w ↦
              elim n [
                | inl h ↦
                    let opened : IsOpened k more next right = subst (λ a. IsOpened k more a right) (sym h.2) w.1 in
                    let done = r.complete more opened fits in
                    (done.0, done.1 ∙ ap (λ (us : List Use). us ++ more) h.1)
                | inr h ↦ let never : true ≡ false = sym h.0 ∙ w.0 in cc
              ]
        ]

    pub some_read : IsRead v scope (suc k) form right old new answer
    some_read = record { sound = found; complete = alone }

-- what one step makes has as many leading quantifiers as the body
pub next_leading : (v : Vocabulary) (scope : List ℕ) (s : ℕ) (body : Form) (leaves : List Leaf) (old new : List Use) (next : Form) → IsNext v scope s body leaves old new (Some next) → leading next ≡ leading body
next_leading v scope s body leaves old new next n =
    elim n [
      | inl h ↦ ap leading h.2 ∙ leading_instance (Var 0) body
      | inr h ↦ ap leading h.1.4 ∙ leading_instance (value_of h.1.0) body
    ]

pub next_within : (v : Vocabulary) (scope : List ℕ) (s : ℕ) (body : Form) (leaves : List Leaf) (old new : List Use) (next : Form) → IsWithin v scope (Ex s body) → IsNext v scope s body leaves old new (Some next) → IsWithin v scope next
next_within v scope s body leaves old new next w n =
    elim n [
      | inl h ↦ rw h.2 (within_unused v scope s body w h.0)
      | inr h ↦ let fits : sort_of_term v scope (value_of h.1.0) ≡ Some s = h.1.2 ∙ ap Some (read_sort s (leaves_of 0 body) leaves h.1.0 h.1.1) in rw h.1.4 (within_value v scope s body w (value_of h.1.0) fits)
    ]

-- As code meets these steps.
module _ (v : Vocabulary) (scope : List ℕ) (s : ℕ) (body : Form) (leaves slice : List Leaf) (h : Bool) (on_ : h ≡ true) (has : h ≡ has_variable 0 body) (own : slice ≡ leaves_of 0 body) (r : Option Use) (found : Use)
    (is_read : r ≡ read s slice leaves) (there : r ≡ Some found) where
  it_occurs : has_variable 0 body ≡ true
  it_occurs = sym has ∙ on_

  is_found : read s (leaves_of 0 body) leaves ≡ Some found
  is_found = ap (λ ls. read s ls leaves) (sym own) ∙ sym is_read ∙ there

  its_sort : found.sort ≡ s
  its_sort = read_sort s (leaves_of 0 body) leaves found is_found

  pub misfit : (b : Bool) (value : Term) (old new : List Use) → value ≡ value_of found → b ≡ false → (IsTrue b ↔ (sort_of_term v scope value ≡ Some s)) → IsNext v scope s body leaves old new None
  misfit b value old new ev unfit test = (
    it_occurs,
    λ u at fits.
        let same : u ≡ found = one_use u found (read s (leaves_of 0 body) leaves) at is_found in
        let fits' : sort_of_term v scope (value_of found) ≡ Some found.sort = subst (Fits v scope) same fits in
        let t : IsTrue b = test.1 (ap (sort_of_term v scope) ev ∙ fits' ∙ ap Some its_sort) in
        cc,
  ) where
    one_use : (u w : Use) (x : Option Use) → x ≡ Some u → x ≡ Some w → u ≡ w
    one_use u w x e f = cc

  value_fits : (b : Bool) (value : Term) → value ≡ value_of found → b ≡ true → (IsTrue b ↔ (sort_of_term v scope value ≡ Some s)) → sort_of_term v scope (value_of found) ≡ Some s
  value_fits b value ev fitting test = ap (sort_of_term v scope) (sym ev) ∙ test.0 fitting

  pub fit_reaches : (b : Bool) (value : Term) → IsWithin v scope (Ex s body) → value ≡ value_of found → b ≡ true → (IsTrue b ↔ (sort_of_term v scope value ≡ Some s)) → instance_reach value 0 body < 2 ^ 32
  fit_reaches b value w ev fitting test = rw ev (value_reaches v scope s body w (value_of found) (value_fits b value ev fitting test))

  pub fit : (b : Bool) (value : Term) (old new : List Use) (made next : Form) → value ≡ value_of found → b ≡ true → (IsTrue b ↔ (sort_of_term v scope value ≡ Some s)) → new ≡ old ++ found ∷ [] → made ≡ instance_of body value → next ≡ made
      → IsNext v scope s body leaves old new (Some next)
  fit b value old new made next ev fitting test en em ex =
      inr (it_occurs, (found, is_found, value_fits b value ev fitting test ∙ ap Some (sym its_sort), en, ex ∙ em ∙ ap (instance_of body) ev))

pub own_leaves : (body : Form) (slice own start : List Leaf) → slice ≡ own → own ≡ start ++ leaves_of 0 body → start ≡ [] → slice ≡ leaves_of 0 body
own_leaves body slice own start e f g = e ∙ f ∙ ap (λ (ls : List Leaf). ls ++ leaves_of 0 body) g

pub more_than_none : (count : ℕ) → (count ≡ 0 → ⊥) → suc (count - 1) ≡ count
more_than_none count n = omega arith

module _ (v : Vocabulary) (scope : List ℕ) (count s : ℕ) (form body b0 : Form) (leaves : List Leaf) (old mid : List Use) (field : Option Form) (some : count ≡ 0 → ⊥) (is : form ≡ Ex s b0) (eb : body ≡ b0) (n : IsNext v scope s body leaves old mid field) where
  form_is : form ≡ Ex s body
  form_is = is ∙ ap (Ex s) (sym eb)

  pub step_none : (right : Form) → leaves ≡ leaves_of 0 right → field ≡ None → IsRead v scope count form right old mid false
  step_none right el ef =
      let n' : IsNext v scope s body leaves old mid None = subst (IsNext v scope s body leaves old mid) ef n in
      subst (λ k. IsRead v scope k form right old mid false) (more_than_none count some) (none_read v scope (count - 1) s form body right form_is leaves el old mid n')

  module _ (next next' : Form) (ef : field ≡ Some next) (en : next' ≡ next) where
    next_is : IsNext v scope s body leaves old mid (Some next')
    next_is = subst (IsNext v scope s body leaves old mid) (ef ∙ ap Some (sym en)) n

    pub step_some : (right : Form) (new : List Use) (answer : Bool) → leaves ≡ leaves_of 0 right → IsRead v scope (count - 1) next' right mid new answer → IsRead v scope count form right old new answer
    step_some right new answer el r =
        subst (λ k. IsRead v scope k form right old new answer) (more_than_none count some) (some_read v scope (count - 1) s form body right form_is leaves el old mid new next' answer next_is r)

    pub step_within : IsWithin v scope form → IsWithin v scope next'
    step_within w = next_within v scope s body leaves old mid next' (subst (IsWithin v scope) form_is w) next_is

    pub step_enough : count ≤ leading form → count - 1 ≤ leading next'
    step_enough le =
        let same = next_leading v scope s body leaves old mid next' next_is in
        let first : leading form ≡ leading body + 1 = ap leading form_is ∙ leading-Ex s body in
        omega arith
