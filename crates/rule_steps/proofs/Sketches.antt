-- The heads of a clause by its shape, and a change of variables alone.
use Rattle.std.specs.Prelude.{ℕ, ◌≡◌, ◌+◌, List, [], ◌∷◌, map, refl}
use Rattle.std.specs.List.{AllByRecursion}
use Rattle.std.proofs.Common.{ap}
use Rattle.std.proofs.lemmas.Simd.{map-map}
use Rattle.fof_terms.specs.declared.term.Term.{Term}
use Rattle.fof_terms.specs.declared.form.Form.{Form, Atom, Eq, Not, And, Or, Imp, Iff, All, Ex}
use Rattle.fof_terms.proofs.Trees.{fold-Atom, fold-Eq, fold-Not, fold-And, fold-Or, fold-Imp, fold-Iff, fold-All, fold-Ex}
use Rattle.fof_terms.specs.declared.form.Form.TheOpen as form
use Rattle.fof_terms.proofs.Induction.{form_induction}
use Rattle.fof_terms.proofs.Walks.{FormWalk}
use Rattle.clause_form.specs.ClauseView.{all_there}
use Rattle.rule_steps.specs.code.Outline.{Sketch, sketch_step, sketch, head_in}

pub sketch-Atom : (p : ℕ) (ts : List Term) → sketch (Atom p ts) ≡ sketch_step (form.Atom p ts)
unfolding sketch
sketch-Atom p ts = fold-Atom Sketch sketch_step p ts

pub sketch-Eq : (l r : Term) → sketch (Eq l r) ≡ sketch_step (form.Eq l r)
unfolding sketch
sketch-Eq l r = fold-Eq Sketch sketch_step l r

pub sketch-Not : (a : Form) → sketch (Not a) ≡ sketch_step (form.Not (sketch a))
unfolding sketch
sketch-Not a = fold-Not Sketch sketch_step a

pub sketch-And : (as_ : List Form) → sketch (And as_) ≡ sketch_step (form.And (map sketch as_))
unfolding sketch
sketch-And as_ = fold-And Sketch sketch_step as_

pub sketch-Or : (as_ : List Form) → sketch (Or as_) ≡ sketch_step (form.Or (map sketch as_))
unfolding sketch
sketch-Or as_ = fold-Or Sketch sketch_step as_

pub sketch-Imp : (a b : Form) → sketch (Imp a b) ≡ sketch_step (form.Imp (sketch a) (sketch b))
unfolding sketch
sketch-Imp a b = fold-Imp Sketch sketch_step a b

pub sketch-Iff : (a b : Form) → sketch (Iff a b) ≡ sketch_step (form.Iff (sketch a) (sketch b))
unfolding sketch
sketch-Iff a b = fold-Iff Sketch sketch_step a b

pub sketch-All : (s : ℕ) (a : Form) → sketch (All s a) ≡ sketch_step (form.All s (sketch a))
unfolding sketch
sketch-All s a = fold-All Sketch sketch_step s a

pub sketch-Ex : (s : ℕ) (a : Form) → sketch (Ex s a) ≡ sketch_step (form.Ex s (sketch a))
unfolding sketch
sketch-Ex s a = fold-Ex Sketch sketch_step s a

pub ruleset sketch_equations = (sketch-Atom, sketch-Eq, sketch-Not, sketch-And, sketch-Or, sketch-Imp, sketch-Iff, sketch-All, sketch-Ex)

-- a disjunction has the heads of its members
pub heads-Or : (as_ : List Form) → (sketch (Or as_)).heads ≡ all_there (map (λ a. (sketch a).head) as_)
heads-Or as_ = rw (sketch-Or as_) (ap all_there (map-map head_in sketch as_))

pub ruleset heads_equations = (sketch-Atom, sketch-Eq, sketch-Not, sketch-And, heads-Or, sketch-Imp, sketch-Iff, sketch-All, sketch-Ex)

module _ (f : ℕ → Term → Term) (w : ℕ → Form → Form) (walk : FormWalk f w) where
  abbrev Stays : Form → Type 0
  Stays a = (d : ℕ) → sketch (w d a) ≡ sketch a

  each : (d : ℕ) (as_ : List Form) → AllByRecursion Stays as_ → map sketch (map (w d) as_) ≡ map sketch as_
  each d [] all = refl
  each d (a ∷ as_) all = rw (all.0 d, each d as_ all.1) refl

  -- a change of variables alone leaves the heads
  pub walk_keeps : (a : Form) (d : ℕ) → sketch (w d a) ≡ sketch a
  walk_keeps = form_induction Stays (record {
    atom = λ p ts d. rw (walk.atom d p ts, sketch-Atom p (map (f d) ts), sketch-Atom p ts) refl;
    eq = λ l r d. rw (walk.eq d l r, sketch-Eq (f d l) (f d r), sketch-Eq l r) refl;
    not = λ a ih d. rw (walk.not d a, sketch-Not (w d a), sketch-Not a, ih d) refl;
    and = λ as_ ih d. rw (walk.and d as_, sketch-And (map (w d) as_), sketch-And as_) refl;
    or = λ as_ ih d. rw (walk.or d as_, sketch-Or (map (w d) as_), sketch-Or as_, each d as_ ih) refl;
    imp = λ a b ih jh d. rw (walk.imp d a b, sketch-Imp (w d a) (w d b), sketch-Imp a b) refl;
    iff = λ a b ih jh d. rw (walk.iff d a b, sketch-Iff (w d a) (w d b), sketch-Iff a b) refl;
    all = λ s a ih d. rw (walk.all d s a, sketch-All s (w (d + 1) a), sketch-All s a, ih (d + 1)) refl;
    ex = λ s a ih d. rw (walk.ex d s a, sketch-Ex s (w (d + 1) a), sketch-Ex s a) refl;
  })
