-- What solid formulas consist of, and that they stay solid under a change of variables.
use Rattle.std.specs.Prelude.{ℕ, ◌≡◌, ◌+◌, ◌-◌, ◌<◌, ◌==◌, ◌||◌, ◌⊎◌, Bool, true, false, not, List, [], ◌∷◌, ◌++◌, map, flat_map, refl}
use Rattle.std.specs.List.{AllByRecursion, list_any}
use Rattle.std.proofs.Common.{ap, sym, subst, ◌∙◌, arith, inl, inr}
use Rattle.std.proofs.lemmas.Bool.Decides.{nat_tests}
use Rattle.std.proofs.lemmas.List.{append-nil}
use Rattle.std.proofs.lemmas.List.Concat.{flat_map-cons}
use Rattle.fof_terms.specs.declared.term.Term.{Term, Var}
use Rattle.fof_terms.specs.declared.form.Form.{Form, Atom, Eq, And, Or, All, Ex}
use Rattle.fof_terms.specs.declared.form.Form.TheViews.{out-Form, outs-Atom, outs-Eq, outs-Not, outs-And, outs-Or, outs-All, outs-Ex}
use Rattle.fof_terms.proofs.Induction.{term_induction, form_induction}
use Rattle.fof_terms.specs.Instance.{instance_term, instance_at}
use Rattle.fof_terms.proofs.InstanceFacts.{instance_term-App, instance_at-Atom, instance_at-Eq, instance_at-Not, instance_at-And, instance_at-Or, instance_at-Imp, instance_at-Iff, instance_at-All, instance_at-Ex}
use Rattle.fof_terms.proofs.LiftingLaws.{smaller, greater}
use Rattle.fof_terms.specs.Variables.{has_in_term, has_variable}
use Rattle.fof_terms.proofs.VariablesFacts.{has_in_term-Var, has_in_term-App, has_variable-Atom, has_variable-Eq, has_variable-Not, has_variable-And, has_variable-Or, has_variable-Imp, has_variable-Iff, has_variable-All, has_variable-Ex}
use Rattle.clause_form.specs.Norm.{node, quantifier, members_of, ends}
use Rattle.clause_form.proofs.Joined.{members_cases, ends_case}
use Rattle.skolem_fresh.specs.code.Leaves.{leaves_of}
use Rattle.skolem_fresh.proofs.LeavesFacts.{leaves_of-And, leaves_of-Or}
use Rattle.skolem_fresh.specs.code.Solid.{IsSolid, AreSolid, an_atom, an_equation, a_denied_atom, a_denied_equation, a_node, a_quantifier, no_member, a_member}
use Rattle.skolem_fresh.proofs.SolidFacts.{AreSome, SolidIn}
use Rattle.skolem_fresh.proofs.Freely.{one_of}

-- By its kind.
pub solid_in : (a : Form) → IsSolid a → SolidIn (out-Form a)
solid_in a (an_atom p ts) = subst SolidIn (sym (outs-Atom p ts)) tt
solid_in a (an_equation l r) = subst SolidIn (sym (outs-Eq l r)) tt
solid_in a (a_denied_atom p ts) = subst SolidIn (sym (outs-Not (Atom p ts))) (inl (p, ts, refl))
solid_in a (a_denied_equation l r) = subst SolidIn (sym (outs-Not (Eq l r))) (inr (l, r, refl))
solid_in a (a_node true b bs h) = subst SolidIn (sym (outs-And (b ∷ bs))) h
solid_in a (a_node false b bs h) = subst SolidIn (sym (outs-Or (b ∷ bs))) h
solid_in a (a_quantifier true s b e h) = subst SolidIn (sym (outs-All s b)) (e, h)
solid_in a (a_quantifier false s b e h) = subst SolidIn (sym (outs-Ex s b)) (e, h)

pub node_solid : (g : Bool) (as_ : List Form) → IsSolid (node g as_) → AreSome as_
node_solid true as_ h = subst SolidIn (outs-And as_) (solid_in (And as_) h)
node_solid false as_ h = subst SolidIn (outs-Or as_) (solid_in (Or as_) h)

pub quantifier_solid : (g : Bool) (s : ℕ) (a : Form) → IsSolid (quantifier g s a) → (has_variable 0 a ≡ true) × IsSolid a
quantifier_solid true s a h = subst SolidIn (outs-All s a) (solid_in (All s a) h)
quantifier_solid false s a h = subst SolidIn (outs-Ex s a) (solid_in (Ex s a) h)

pub first_solid : (a : Form) (as_ : List Form) → AreSolid (a ∷ as_) → IsSolid a × AreSolid as_
first_solid a as_ h = go (a ∷ as_) h refl where
  go : (xs : List Form) → AreSolid xs → xs ≡ a ∷ as_ → IsSolid a × AreSolid as_
  go xs no_member e = cc
  go xs (a_member x ys f r) e =
      let first : x ≡ a = cc in
      let rest : ys ≡ as_ = cc in
      (subst IsSolid first f, subst AreSolid rest r)

pub some_solid : (as_ : List Form) → AreSome as_ → AreSolid as_
some_solid [] h = absurd h
some_solid (a ∷ as_) h = h

pub append_solid : (as_ bs : List Form) → AreSolid as_ → AreSolid bs → AreSolid (as_ ++ bs)
append_solid [] bs h k = k
append_solid (a ∷ as_) bs h k = let parts = first_solid a as_ h in a_member a (as_ ++ bs) parts.0 (append_solid as_ bs parts.1 k)

-- no node that such a formula is joined to ends by it
pub not_ended : (g : Bool) (a : Form) → IsSolid a → ends g a ≡ false
not_ended g a h = go (ends g a) (ends_case g a) where
  go : (b : Bool) → (b ≡ true → a ≡ node (not g) []) → b ≡ false
  go true e = absurd (node_solid (not g) [] (subst IsSolid (e refl) h))
  go false e = refl

-- its members, as those of a node of that sign
pub members_solid : (g : Bool) (a : Form) → IsSolid a → AreSome (members_of g a)
members_solid g a h =
    elim (members_cases g a) [
      | inl k ↦ subst AreSome (sym k.2) (node_solid g k.0 (subst IsSolid k.1 h))
      | inr k ↦ subst AreSome (sym k) (a_member a [] h no_member)
    ]

pub node_leaves : (g : Bool) (d : ℕ) (as_ : List Form) → leaves_of d (node g as_) ≡ flat_map (leaves_of d) as_
node_leaves true d as_ = leaves_of-And d as_
node_leaves false d as_ = leaves_of-Or d as_

pub members_leaves : (g : Bool) (d : ℕ) (a : Form) → flat_map (leaves_of d) (members_of g a) ≡ leaves_of d a
members_leaves g d a =
    elim (members_cases g a) [
      | inl k ↦ ap (flat_map (leaves_of d)) k.2 ∙ sym (ap (leaves_of d) k.1 ∙ node_leaves g d k.0)
      | inr k ↦ ap (flat_map (leaves_of d)) k ∙ flat_map-cons (leaves_of d) a [] ∙ append-nil (leaves_of d a)
    ]

-- A variable that stands in a formula and is not replaced stands in the instance, where it may be one number nearer.
abbrev pub Passes : ℕ → ℕ → ℕ → Type 0
Passes d j k = ((j < d) × (k ≡ j)) ⊎ ((d < j) × (j ≡ k + 1))

deeper_passes : (d j k : ℕ) → Passes d j k → Passes (d + 1) (j + 1) (k + 1)
deeper_passes d j k p =
    elim p [
      | inl h ↦ inl (omega (arith, h.0), omega (arith, h.1))
      | inr h ↦ inr (omega (arith, h.0), omega (arith, h.1))
    ]

any_of : {X Y : Type 0} (p : X → Bool) (q : Y → Bool) (f : X → Y) (xs : List X) → AllByRecursion (λ x. p x ≡ true → q (f x) ≡ true) xs → list_any p xs ≡ true → list_any q (map f xs) ≡ true
any_of p q f [] all e = cc
any_of p q f (x ∷ xs) all e =
    elim (one_of (p x) (list_any p xs) e) [
      | inl h ↦ rw (all.0 h) refl
      | inr h ↦ or_right (q (f x)) (list_any q (map f xs)) (any_of p q f xs all.1 h)
    ] where
      or_right : (a b : Bool) → b ≡ true → (a || b) ≡ true
      or_right true b e = refl
      or_right false b e = e

either_of : (a b c d : Bool) → (a ≡ true → c ≡ true) → (b ≡ true → d ≡ true) → (a || b) ≡ true → (c || d) ≡ true
either_of a b true d f g e = refl
either_of true b false d f g e = let never : false ≡ true = f refl in cc
either_of false b false d f g e = g e

same_var : (k : ℕ) → has_in_term k (Var k) ≡ true
same_var k = rw has_in_term-Var (grind (arith, nat_tests))

module _ (x : Term) where
  passed : (d j k : ℕ) → Passes d j k → instance_term x d (Var j) ≡ Var k
  passed d j k p =
      elim p [
        | inl h ↦ let same : k ≡ j = h.1 in rw same (smaller x d j h.0)
        | inr h ↦ let same : j - 1 ≡ k = omega (arith, h.1) in greater x d j h.0 ∙ ap Var same
      ]

  abbrev Term_keeps : ℕ → ℕ → ℕ → Term → Type 0
  Term_keeps d j k t = has_in_term j t ≡ true → has_in_term k (instance_term x d t) ≡ true

  var_keeps : (d j k i : ℕ) → Passes d j k → (i == j) ≡ true → has_in_term k (instance_term x d (Var i)) ≡ true
  var_keeps d j k i p e =
      let same : i ≡ j = grind (arith, nat_tests) in
      rw (same, passed d j k p) (same_var k)

  term_keeps : (d j k : ℕ) → Passes d j k → (t : Term) → Term_keeps d j k t
  term_keeps d j k p = term_induction _ (record {
    var = λ i e. var_keeps d j k i p (rw has_in_term-Var at e);
    app = λ f ts all e. rw (instance_term-App, has_in_term-App) (any_of (has_in_term j) (has_in_term k) (instance_term x d) ts all (rw has_in_term-App at e));
  })

  each_term : (d j k : ℕ) → Passes d j k → (ts : List Term) → AllByRecursion (Term_keeps d j k) ts
  each_term d j k p [] = tt
  each_term d j k p (t ∷ ts) = (term_keeps d j k p t, each_term d j k p ts)

  abbrev Keeps : Form → Type 0
  Keeps a = (d j k : ℕ) → Passes d j k → has_variable j a ≡ true → has_variable k (instance_at x d a) ≡ true

  all_keep : (d j k : ℕ) → Passes d j k → (as_ : List Form) → AllByRecursion Keeps as_ → AllByRecursion (λ a. has_variable j a ≡ true → has_variable k (instance_at x d a) ≡ true) as_
  all_keep d j k p [] all = tt
  all_keep d j k p (a ∷ as_) all = (all.0 d j k p, all_keep d j k p as_ all.1)

  pub keeps : (a : Form) → Keeps a
  keeps = form_induction _ (record {
    atom = λ q ts d j k p e. rw (instance_at-Atom, has_variable-Atom) (any_of (has_in_term j) (has_in_term k) (instance_term x d) ts (each_term d j k p ts) (rw has_variable-Atom at e));
    eq = λ l r d j k p e. rw (instance_at-Eq, has_variable-Eq) (either_of (has_in_term j l) (has_in_term j r) _ _ (term_keeps d j k p l) (term_keeps d j k p r) (rw has_variable-Eq at e));
    not = λ a ih d j k p e. rw (instance_at-Not, has_variable-Not) (ih d j k p (rw has_variable-Not at e));
    and = λ as_ all d j k p e. rw (instance_at-And, has_variable-And) (any_of (has_variable j) (has_variable k) (instance_at x d) as_ (all_keep d j k p as_ all) (rw has_variable-And at e));
    or = λ as_ all d j k p e. rw (instance_at-Or, has_variable-Or) (any_of (has_variable j) (has_variable k) (instance_at x d) as_ (all_keep d j k p as_ all) (rw has_variable-Or at e));
    imp = λ a b ih jh d j k p e. rw (instance_at-Imp, has_variable-Imp) (either_of (has_variable j a) (has_variable j b) _ _ (ih d j k p) (jh d j k p) (rw has_variable-Imp at e));
    iff = λ a b ih jh d j k p e. rw (instance_at-Iff, has_variable-Iff) (either_of (has_variable j a) (has_variable j b) _ _ (ih d j k p) (jh d j k p) (rw has_variable-Iff at e));
    all = λ s a ih d j k p e. rw (instance_at-All, has_variable-All) (ih (d + 1) (j + 1) (k + 1) (deeper_passes d j k p) (rw has_variable-All at e));
    ex = λ s a ih d j k p e. rw (instance_at-Ex, has_variable-Ex) (ih (d + 1) (j + 1) (k + 1) (deeper_passes d j k p) (rw has_variable-Ex at e));
  })

  quantifier_instance : (g : Bool) (d s : ℕ) (a : Form) → instance_at x d (quantifier g s a) ≡ quantifier g s (instance_at x (d + 1) a)
  quantifier_instance true d s a = instance_at-All x d s a
  quantifier_instance false d s a = instance_at-Ex x d s a

  node_instance : (g : Bool) (d : ℕ) (as_ : List Form) → instance_at x d (node g as_) ≡ node g (map (instance_at x d) as_)
  node_instance true d as_ = instance_at-And x d as_
  node_instance false d as_ = instance_at-Or x d as_

  mutual
    -- an instance of a solid formula is solid
    pub instance_solid : (a : Form) (d : ℕ) → IsSolid a → IsSolid (instance_at x d a)
    instance_solid a d (an_atom p ts) = rw (instance_at-Atom x d p ts) (an_atom p (map (instance_term x d) ts))
    instance_solid a d (an_equation l r) = rw (instance_at-Eq x d l r) (an_equation (instance_term x d l) (instance_term x d r))
    instance_solid a d (a_denied_atom p ts) = rw (instance_at-Not x d (Atom p ts), instance_at-Atom x d p ts) (a_denied_atom p (map (instance_term x d) ts))
    instance_solid a d (a_denied_equation l r) = rw (instance_at-Not x d (Eq l r), instance_at-Eq x d l r) (a_denied_equation (instance_term x d l) (instance_term x d r))
    instance_solid a d (a_node g b bs h) = subst IsSolid (sym (node_instance g d (b ∷ bs))) (a_node g (instance_at x d b) (map (instance_at x d) bs) (instances_solid (b ∷ bs) d h))
    instance_solid a d (a_quantifier g s b e h) =
        subst IsSolid (sym (quantifier_instance g d s b)) (a_quantifier g s (instance_at x (d + 1) b) (keeps b (d + 1) 0 0 (inl (omega arith, refl)) e) (instance_solid b (d + 1) h))

    instances_solid : (as_ : List Form) (d : ℕ) → AreSolid as_ → AreSolid (map (instance_at x d) as_)
    instances_solid as_ d no_member = no_member
    instances_solid as_ d (a_member b bs h k) = a_member (instance_at x d b) (map (instance_at x d) bs) (instance_solid b d h) (instances_solid bs d k)
