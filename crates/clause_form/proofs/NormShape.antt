-- The shape of a normal form: negations stand at atoms and equations alone, and there are no implications.
use Rattle.std.specs.Prelude.{ℕ, ◌+◌, ◌≡◌, Bool, true, false, not, List, [], ◌∷◌, map, refl}
use Rattle.std.specs.List.{AllByRecursion, list_all}
use Rattle.std.proofs.Common.{ap, sym, ◌∙◌, ◌⊎◌, inl, inr}
use Rattle.fof_terms.proofs.Trees.{fold-Atom, fold-Eq, fold-Not, fold-And, fold-Or, fold-Imp, fold-Iff, fold-All, fold-Ex}
use Rattle.fof_terms.proofs.Induction.{form_induction}
use Rattle.fof_terms.proofs.LiftingLaws.{both}
use Rattle.fof_terms.specs.Variables.{has_variable}
use Rattle.fof_terms.proofs.Walks.{FormWalk, placing}
use Rattle.fof_terms.specs.declared.term.Term.{Term, Var}
use Rattle.fof_terms.specs.declared.form.Form.{Form, Atom, Eq, Not, And, Or, Imp, Iff, All, Ex}
use Rattle.fof_terms.specs.declared.form.Form.TheFolds.{fold-Form}
use Rattle.clause_form.proofs.Joined.{Memberwise, join_keeps}
use Rattle.clause_form.specs.Norm.{signed, node, join, quantifier, quantified, norm_of}
use Rattle.clause_form.proofs.NormFacts.{quantified-kept, quantified-dropped, norm_of-Atom, norm_of-Eq, norm_of-Not, norm_of-And, norm_of-Or, norm_of-Imp, norm_of-Iff, norm_of-All, norm_of-Ex}
use Rattle.fof_terms.specs.declared.form.Form.TheOpen as form

-- the formula is an atom or an equation; it has negations at these alone, and no implications
pub record Shape : Type 0 where
  pub atomic : Bool
  pub normal : Bool

abbrev shape_of : Bool → Bool → Shape
shape_of atomic normal = record { atomic = atomic; normal = normal }

abbrev pub shape_step : form.Form-F Shape → Shape
shape_step (form.Atom p ts) = shape_of true true
shape_step (form.Eq l r) = shape_of true true
shape_step (form.Not a) = shape_of false a.atomic
shape_step (form.And as_) = shape_of false (list_all (λ (a : Shape). a.normal) as_)
shape_step (form.Or as_) = shape_of false (list_all (λ (a : Shape). a.normal) as_)
shape_step (form.Imp a b) = shape_of false false
shape_step (form.Iff a b) = shape_of false false
shape_step (form.All s a) = shape_of false a.normal
shape_step (form.Ex s a) = shape_of false a.normal

unfoldable pub shape : Form → Shape
shape = fold-Form Shape shape_step

pub shape-Atom : (p : ℕ) (ts : List Term) → shape (Atom p ts) ≡ shape_step (form.Atom p ts)
unfolding shape
shape-Atom p ts = fold-Atom Shape shape_step p ts

pub shape-Eq : (l r : Term) → shape (Eq l r) ≡ shape_step (form.Eq l r)
unfolding shape
shape-Eq l r = fold-Eq Shape shape_step l r

pub shape-Not : (a : Form) → shape (Not a) ≡ shape_step (form.Not (shape a))
unfolding shape
shape-Not a = fold-Not Shape shape_step a

pub shape-And : (as_ : List Form) → shape (And as_) ≡ shape_step (form.And (map shape as_))
unfolding shape
shape-And as_ = fold-And Shape shape_step as_

pub shape-Or : (as_ : List Form) → shape (Or as_) ≡ shape_step (form.Or (map shape as_))
unfolding shape
shape-Or as_ = fold-Or Shape shape_step as_

pub shape-Imp : (a b : Form) → shape (Imp a b) ≡ shape_step (form.Imp (shape a) (shape b))
unfolding shape
shape-Imp a b = fold-Imp Shape shape_step a b

pub shape-Iff : (a b : Form) → shape (Iff a b) ≡ shape_step (form.Iff (shape a) (shape b))
unfolding shape
shape-Iff a b = fold-Iff Shape shape_step a b

pub shape-All : (s : ℕ) (a : Form) → shape (All s a) ≡ shape_step (form.All s (shape a))
unfolding shape
shape-All s a = fold-All Shape shape_step s a

pub shape-Ex : (s : ℕ) (a : Form) → shape (Ex s a) ≡ shape_step (form.Ex s (shape a))
unfolding shape
shape-Ex s a = fold-Ex Shape shape_step s a

abbrev pub IsNormal : Form → Type 0
IsNormal a = (shape a).normal ≡ true

pub all_normal : (as_ : List Form) → list_all (λ (x : Shape). x.normal) (map shape as_) ≡ true → AllByRecursion IsNormal as_
all_normal [] e = tt
all_normal (a ∷ as_) e = let parts = both (shape a).normal (list_all (λ (x : Shape). x.normal) (map shape as_)) e in (parts.0, all_normal as_ parts.1)

normal_all : (as_ : List Form) → AllByRecursion IsNormal as_ → list_all (λ (x : Shape). x.normal) (map shape as_) ≡ true
normal_all [] h = refl
normal_all (a ∷ as_) h = rw (h.0, normal_all as_ h.1) refl

pub and_normal : (as_ : List Form) → (shape (And as_)).normal ≡ list_all (λ (x : Shape). x.normal) (map shape as_)
and_normal as_ = ap (λ (x : Shape). x.normal) (shape-And as_)

pub or_normal : (as_ : List Form) → (shape (Or as_)).normal ≡ list_all (λ (x : Shape). x.normal) (map shape as_)
or_normal as_ = ap (λ (x : Shape). x.normal) (shape-Or as_)

normal_nodes : Memberwise IsNormal
normal_nodes = record { make = make; take = take } where
  make : (g : Bool) (as_ : List Form) → AllByRecursion IsNormal as_ → IsNormal (node g as_)
  make true as_ h = and_normal as_ ∙ normal_all as_ h
  make false as_ h = or_normal as_ ∙ normal_all as_ h

  take : (g : Bool) (as_ : List Form) → IsNormal (node g as_) → AllByRecursion IsNormal as_
  take true as_ h = all_normal as_ (sym (and_normal as_) ∙ h)
  take false as_ h = all_normal as_ (sym (or_normal as_) ∙ h)

signed_atom : (g : Bool) (p : ℕ) (ts : List Term) → IsNormal (signed g (Atom p ts))
signed_atom true p ts = ap (λ (x : Shape). x.normal) (shape-Atom p ts)
signed_atom false p ts = ap (λ (x : Shape). x.normal) (shape-Not (Atom p ts)) ∙ ap (λ (x : Shape). x.atomic) (shape-Atom p ts)

signed_eq : (g : Bool) (l r : Term) → IsNormal (signed g (Eq l r))
signed_eq true l r = ap (λ (x : Shape). x.normal) (shape-Eq l r)
signed_eq false l r = ap (λ (x : Shape). x.normal) (shape-Not (Eq l r)) ∙ ap (λ (x : Shape). x.atomic) (shape-Eq l r)

-- a change of variables alone changes no shape
same_each : (f : Form → Form) (as_ : List Form) → AllByRecursion (λ a. shape (f a) ≡ shape a) as_ → map shape (map f as_) ≡ map shape as_
same_each f [] h = refl
same_each f (a ∷ as_) h = rw (h.0, same_each f as_ h.1) refl

at_depth : (g : ℕ → Form → Form) (as_ : List Form) (d : ℕ) → AllByRecursion (λ a. (d : ℕ) → shape (g d a) ≡ shape a) as_ → AllByRecursion (λ a. shape (g d a) ≡ shape a) as_
at_depth g [] d h = tt
at_depth g (a ∷ as_) d h = (h.0 d, at_depth g as_ d h.1)

same_shape : (f : ℕ → Term → Term) (g : ℕ → Form → Form) → FormWalk f g → (a : Form) (d : ℕ) → shape (g d a) ≡ shape a
same_shape f g w = form_induction _ (record {
  atom = λ p ts d. rw (w.atom, shape-Atom, shape-Atom) refl;
  eq = λ l r d. rw (w.eq, shape-Eq, shape-Eq) refl;
  not = λ a ih d. rw (w.not, shape-Not, shape-Not, ih d) refl;
  and = λ as_ all d. rw (w.and, shape-And, shape-And, same_each (g d) as_ (at_depth g as_ d all)) refl;
  or = λ as_ all d. rw (w.or, shape-Or, shape-Or, same_each (g d) as_ (at_depth g as_ d all)) refl;
  imp = λ a b ih jh d. rw (w.imp, shape-Imp, shape-Imp) refl;
  iff = λ a b ih jh d. rw (w.iff, shape-Iff, shape-Iff) refl;
  all = λ s a ih d. rw (w.all, shape-All, shape-All, ih (d + 1)) refl;
  ex = λ s a ih d. rw (w.ex, shape-Ex, shape-Ex, ih (d + 1)) refl;
})

either : (b : Bool) → (b ≡ true) ⊎ (b ≡ false)
either true = inl refl
either false = inr refl

normal_quantifier : (g : Bool) (s : ℕ) (a : Form) → IsNormal a → IsNormal (quantifier g s a)
normal_quantifier true s a h = ap (λ (x : Shape). x.normal) (shape-All s a) ∙ h
normal_quantifier false s a h = ap (λ (x : Shape). x.normal) (shape-Ex s a) ∙ h

normal_quantified : (g : Bool) (s : ℕ) (a : Form) → IsNormal a → IsNormal (quantified g s a)
normal_quantified g s a h =
    elim (either (has_variable 0 a)) [
      | inl e ↦ rw (quantified-kept g s a e) (normal_quantifier g s a h)
      | inr e ↦ rw (quantified-dropped g s a e) (ap (λ (x : Shape). x.normal) (same_shape _ _ (placing (Var 0) (λ d. d) (λ d. refl)) a 0) ∙ h)
    ]

norms : (g : Bool) (as_ : List Form) → AllByRecursion (λ a. (g : Bool) → IsNormal (norm_of g a)) as_ → AllByRecursion IsNormal (map (norm_of g) as_)
norms g [] all = tt
norms g (a ∷ as_) all = (all.0 g, norms g as_ all.1)

-- a normal form has negations at atoms and equations alone
pub norm_is_normal : (a : Form) (g : Bool) → IsNormal (norm_of g a)
norm_is_normal = form_induction _ (record {
  atom = λ p ts g. rw norm_of-Atom (signed_atom g p ts);
  eq = λ l r g. rw norm_of-Eq (signed_eq g l r);
  not = λ a ih g. rw norm_of-Not (ih (not g));
  and = λ as_ all g. rw norm_of-And (join_keeps IsNormal normal_nodes g (map (norm_of g) as_) (norms g as_ all));
  or = λ as_ all g. rw norm_of-Or (join_keeps IsNormal normal_nodes (not g) (map (norm_of g) as_) (norms g as_ all));
  imp = λ a b ih jh g. rw norm_of-Imp (join_keeps IsNormal normal_nodes (not g) (norm_of (not g) a ∷ norm_of g b ∷ []) (ih (not g), (jh g, tt)));
  iff = λ a b ih jh g.
      let xs = norm_of (not g) a ∷ norm_of g b ∷ [] in
      let ys = norm_of g a ∷ norm_of (not g) b ∷ [] in
      let first = join_keeps IsNormal normal_nodes (not g) xs (ih (not g), (jh g, tt)) in
      let second = join_keeps IsNormal normal_nodes (not g) ys (ih g, (jh (not g), tt)) in
      rw norm_of-Iff (join_keeps IsNormal normal_nodes g (join (not g) xs ∷ join (not g) ys ∷ []) (first, (second, tt)));
  all = λ s a ih g. rw norm_of-All (normal_quantified g s (norm_of g a) (ih g));
  ex = λ s a ih g. rw norm_of-Ex (normal_quantified (not g) s (norm_of g a) (ih g));
})
