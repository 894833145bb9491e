-- The terms of a formula under changes of variables.
use Rattle.std.specs.Prelude.{ℕ, ◌≡◌, ◌+◌, ◌||◌, Bool, true, false, List, [], ◌∷◌, ◌++◌, map, flat_map, refl}
use Rattle.std.specs.List.{AllByRecursion, list_any}
use Rattle.std.proofs.Common.{ap, sym, subst, ◌∙◌, arith}
use Rattle.std.proofs.lemmas.Simd.{map-map}
use Rattle.std.proofs.lemmas.List.{map-append}
use Rattle.std.proofs.lemmas.List.Concat.{flat_map-cons}
use Rattle.fof_terms.specs.declared.term.Term.{Term}
use Rattle.fof_terms.specs.declared.form.Form.{Form, Atom, Eq, Not, And, Or, Imp, Iff, All, Ex}
use Rattle.fof_terms.proofs.Induction.{form_induction}
use Rattle.fof_terms.proofs.Walks.{FormWalk}
use Rattle.fof_terms.specs.Variables.{has_in_term, has_variable}
use Rattle.fof_terms.proofs.VariablesFacts.{has_variable-Atom, has_variable-Eq, has_variable-Not, has_variable-And, has_variable-Or, has_variable-Imp, has_variable-Iff, has_variable-All, has_variable-Ex}
use Rattle.skolem_fresh.specs.declared.leaves.Leaf.{Leaf}
use Rattle.skolem_fresh.specs.code.Leaves.{leaf, leaves_of}
use Rattle.skolem_fresh.proofs.LeavesFacts.{leaves_of-Atom, leaves_of-Eq, leaves_of-Not, leaves_of-And, leaves_of-Or, leaves_of-Imp, leaves_of-Iff, leaves_of-All, leaves_of-Ex}
use Rattle.skolem_fresh.proofs.Freely.{at}

-- the terms changed, each by the change for its depth
abbrev pub changed : (ℕ → Term → Term) → Leaf → Leaf
changed f l = leaf l.depth (f l.depth l.term)

or_assoc : (a b c : Bool) → ((a || b) || c) ≡ (a || (b || c))
or_assoc true b c = refl
or_assoc false b c = refl

or_none : (a b : Bool) → (a || b) ≡ (a || (b || false))
or_none true b = refl
or_none false true = refl
or_none false false = refl

pub any_append : {X : Type 0} (p : X → Bool) (xs ys : List X) → list_any p (xs ++ ys) ≡ (list_any p xs || list_any p ys)
any_append p [] ys = refl
any_append p (x ∷ xs) ys = ap (λ b. p x || b) (any_append p xs ys) ∙ sym (or_assoc (p x) (list_any p xs) (list_any p ys))

flat_agree : {X Y : Type 0} (f g : X → List Y) (xs : List X) → AllByRecursion (λ x. f x ≡ g x) xs → flat_map f xs ≡ flat_map g xs
flat_agree f g [] e = refl
flat_agree f g (x ∷ xs) e = rw (flat_map-cons f x xs, flat_map-cons g x xs, e.0, flat_agree f g xs e.1) refl

map_flat : {X Y Z : Type 0} (h : Y → Z) (f : X → List Y) (xs : List X) → map h (flat_map f xs) ≡ flat_map (λ x. map h (f x)) xs
map_flat h f [] = refl
map_flat h f (x ∷ xs) = rw (flat_map-cons f x xs, flat_map-cons (λ x. map h (f x)) x xs, map-append, map_flat h f xs) refl

flat_of_map : {X Y Z : Type 0} (h : Y → List Z) (v : X → Y) (xs : List X) → flat_map h (map v xs) ≡ flat_map (λ x. h (v x)) xs
flat_of_map h v [] = refl
flat_of_map h v (x ∷ xs) = rw (flat_map-cons h (v x) (map v xs), flat_map-cons (λ x. h (v x)) x xs, flat_of_map h v xs) refl

module _ (f : ℕ → Term → Term) (g : ℕ → Form → Form) (w : FormWalk f g) where
  abbrev Goal : ℕ → Form → Type 0
  Goal d a = leaves_of d (g d a) ≡ map (changed f) (leaves_of d a)

  all_leaves : (d : ℕ) (as_ : List Form) → AllByRecursion (λ a. (d : ℕ) → Goal d a) as_ → flat_map (leaves_of d) (map (g d) as_) ≡ map (changed f) (flat_map (leaves_of d) as_)
  all_leaves d as_ all =
      flat_of_map (leaves_of d) (g d) as_ ∙ flat_agree (λ a. leaves_of d (g d a)) (λ a. map (changed f) (leaves_of d a)) as_ (at Goal as_ d all) ∙ sym (map_flat (changed f) (leaves_of d) as_)

  pub walk_leaves : (a : Form) (d : ℕ) → Goal d a
  walk_leaves = form_induction _ (record {
    atom = λ p ts d. rw (w.atom, leaves_of-Atom, leaves_of-Atom) (map-map (leaf d) (f d) ts ∙ sym (map-map (changed f) (leaf d) ts));
    eq = λ l r d. rw (w.eq, leaves_of-Eq, leaves_of-Eq) refl;
    not = λ a ih d. rw (w.not, leaves_of-Not, leaves_of-Not) (ih d);
    and = λ as_ all d. rw (w.and, leaves_of-And, leaves_of-And) (all_leaves d as_ all);
    or = λ as_ all d. rw (w.or, leaves_of-Or, leaves_of-Or) (all_leaves d as_ all);
    imp = λ a b ih jh d. rw (w.imp, leaves_of-Imp, leaves_of-Imp, map-append, ih d, jh d) refl;
    iff = λ a b ih jh d. rw (w.iff, leaves_of-Iff, leaves_of-Iff, map-append, ih d, jh d) refl;
    all = λ s a ih d. rw (w.all, leaves_of-All, leaves_of-All) (ih (d + 1));
    ex = λ s a ih d. rw (w.ex, leaves_of-Ex, leaves_of-Ex) (ih (d + 1));
  })

-- the same terms under one quantifier more
abbrev pub deeper : Leaf → Leaf
deeper l = leaf (l.depth + 1) l.term

abbrev Deep : ℕ → Form → Type 0
Deep d a = leaves_of (d + 1) a ≡ map deeper (leaves_of d a)

all_deep : (d : ℕ) (as_ : List Form) → AllByRecursion (λ a. (d : ℕ) → Deep d a) as_ → flat_map (leaves_of (d + 1)) as_ ≡ map deeper (flat_map (leaves_of d) as_)
all_deep d as_ all = flat_agree (leaves_of (d + 1)) (λ a. map deeper (leaves_of d a)) as_ (at Deep as_ d all) ∙ sym (map_flat deeper (leaves_of d) as_)

pub deeper_leaves : (a : Form) (d : ℕ) → Deep d a
deeper_leaves = form_induction _ (record {
  atom = λ p ts d. rw (leaves_of-Atom, leaves_of-Atom) (sym (map-map deeper (leaf d) ts));
  eq = λ l r d. rw (leaves_of-Eq, leaves_of-Eq) refl;
  not = λ a ih d. rw (leaves_of-Not, leaves_of-Not) (ih d);
  and = λ as_ all d. rw (leaves_of-And, leaves_of-And) (all_deep d as_ all);
  or = λ as_ all d. rw (leaves_of-Or, leaves_of-Or) (all_deep d as_ all);
  imp = λ a b ih jh d. rw (leaves_of-Imp, leaves_of-Imp, map-append, ih d, jh d) refl;
  iff = λ a b ih jh d. rw (leaves_of-Iff, leaves_of-Iff, map-append, ih d, jh d) refl;
  all = λ s a ih d. rw (leaves_of-All, leaves_of-All) (ih (d + 1));
  ex = λ s a ih d. rw (leaves_of-Ex, leaves_of-Ex) (ih (d + 1));
})

-- the variable outside of the formula stands in one of its terms
abbrev pub stands : ℕ → Leaf → Bool
stands n l = has_in_term (n + l.depth) l.term

abbrev Stands : ℕ × ℕ → Form → Type 0
Stands p a = has_variable (p.0 + p.1) a ≡ list_any (stands p.0) (leaves_of p.1 a)

pub any_of_map : {X Y : Type 0} (p : Y → Bool) (f : X → Y) (xs : List X) → list_any p (map f xs) ≡ list_any (λ x. p (f x)) xs
any_of_map p f [] = refl
any_of_map p f (x ∷ xs) = ap (λ b. p (f x) || b) (any_of_map p f xs)

pub any_flat : {X Y : Type 0} (p : X → Bool) (q : Y → Bool) (f : X → List Y) (xs : List X) → AllByRecursion (λ x. p x ≡ list_any q (f x)) xs → list_any p xs ≡ list_any q (flat_map f xs)
any_flat p q f [] e = refl
any_flat p q f (x ∷ xs) e = rw (flat_map-cons f x xs, any_append, e.0, any_flat p q f xs e.1) refl

out_one : (n d : ℕ) (a : Form) → has_variable (n + (d + 1)) a ≡ list_any (stands n) (leaves_of (d + 1) a) → has_variable (n + d + 1) a ≡ list_any (stands n) (leaves_of (d + 1) a)
out_one n d a e = let same : n + (d + 1) ≡ n + d + 1 = omega arith in subst (λ k. has_variable k a ≡ list_any (stands n) (leaves_of (d + 1) a)) same e

pub stands_in : (a : Form) (p : ℕ × ℕ) → Stands p a
stands_in = form_induction _ (record {
  atom = λ q ts p. rw (has_variable-Atom, leaves_of-Atom) (sym (any_of_map (stands p.0) (leaf p.1) ts));
  eq = λ l r p. rw (has_variable-Eq, leaves_of-Eq) (or_none (has_in_term (p.0 + p.1) l) (has_in_term (p.0 + p.1) r));
  not = λ a ih p. rw (has_variable-Not, leaves_of-Not) (ih p);
  and = λ as_ all p. rw (has_variable-And, leaves_of-And) (any_flat (has_variable (p.0 + p.1)) (stands p.0) (leaves_of p.1) as_ (at Stands as_ p all));
  or = λ as_ all p. rw (has_variable-Or, leaves_of-Or) (any_flat (has_variable (p.0 + p.1)) (stands p.0) (leaves_of p.1) as_ (at Stands as_ p all));
  imp = λ a b ih jh p. rw (has_variable-Imp, leaves_of-Imp, any_append, ih p, jh p) refl;
  iff = λ a b ih jh p. rw (has_variable-Iff, leaves_of-Iff, any_append, ih p, jh p) refl;
  all = λ s a ih p. rw (has_variable-All, leaves_of-All) (out_one p.0 p.1 a (ih (p.0, p.1 + 1)));
  ex = λ s a ih p. rw (has_variable-Ex, leaves_of-Ex) (out_one p.0 p.1 a (ih (p.0, p.1 + 1)));
})
