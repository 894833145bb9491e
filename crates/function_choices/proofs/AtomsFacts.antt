-- Lemmas on what specs/Atoms defines.
use Rattle.std.specs.Prelude.{ℕ, ◌+◌, ◌≡◌, List, [], ◌∷◌, ◌++◌, flat_map, refl}
use Rattle.std.proofs.Common.{ap, sym, ◌∙◌, append_assoc}
use Rattle.std.proofs.lemmas.List.Folds.{flat_map-map}
use Rattle.fof_terms.proofs.Trees.{fold-Atom, fold-Eq, fold-Not, fold-And, fold-Or, fold-Imp, fold-Iff, fold-All, fold-Ex}
use Rattle.fof_terms.specs.declared.term.Term.{Term}
use Rattle.fof_terms.specs.declared.form.Form.{Form, Atom, Eq, Not, And, Or, Imp, Iff, All, Ex}
use Rattle.clause_form.specs.declared.clause.AtomOf.TheVariants.{Pred, Eq as Equation}
use Rattle.function_choices.specs.declared.atoms.Placed.{Placed}
use Rattle.function_choices.specs.Atoms.{placed, atoms_step, atoms_at}

-- The equations of this word.
pub atoms_at-Atom : (depth p : ℕ) (ts : List Term) → atoms_at depth (Atom p ts) ≡ placed depth (Pred p ts) ∷ []
unfolding atoms_at
atoms_at-Atom depth p ts = ap (λ g. g depth) (fold-Atom (ℕ → List Placed) atoms_step p ts)

pub atoms_at-Eq : (depth : ℕ) (l r : Term) → atoms_at depth (Eq l r) ≡ placed depth (Equation l r) ∷ []
unfolding atoms_at
atoms_at-Eq depth l r = ap (λ g. g depth) (fold-Eq (ℕ → List Placed) atoms_step l r)

pub atoms_at-Not : (depth : ℕ) (a : Form) → atoms_at depth (Not a) ≡ atoms_at depth a
unfolding atoms_at
atoms_at-Not depth a = ap (λ g. g depth) (fold-Not (ℕ → List Placed) atoms_step a)

pub atoms_at-And : (depth : ℕ) (as_ : List Form) → atoms_at depth (And as_) ≡ flat_map (atoms_at depth) as_
unfolding atoms_at
atoms_at-And depth as_ = ap (λ g. g depth) (fold-And (ℕ → List Placed) atoms_step as_) ∙ flat_map-map (λ a. a depth) _ as_

pub atoms_at-Or : (depth : ℕ) (as_ : List Form) → atoms_at depth (Or as_) ≡ flat_map (atoms_at depth) as_
unfolding atoms_at
atoms_at-Or depth as_ = ap (λ g. g depth) (fold-Or (ℕ → List Placed) atoms_step as_) ∙ flat_map-map (λ a. a depth) _ as_

pub atoms_at-Imp : (depth : ℕ) (a b : Form) → atoms_at depth (Imp a b) ≡ atoms_at depth a ++ atoms_at depth b
unfolding atoms_at
atoms_at-Imp depth a b = ap (λ g. g depth) (fold-Imp (ℕ → List Placed) atoms_step a b)

pub atoms_at-Iff : (depth : ℕ) (a b : Form) → atoms_at depth (Iff a b) ≡ atoms_at depth a ++ atoms_at depth b
unfolding atoms_at
atoms_at-Iff depth a b = ap (λ g. g depth) (fold-Iff (ℕ → List Placed) atoms_step a b)

pub atoms_at-All : (depth s : ℕ) (a : Form) → atoms_at depth (All s a) ≡ atoms_at (depth + 1) a
unfolding atoms_at
atoms_at-All depth s a = ap (λ g. g depth) (fold-All (ℕ → List Placed) atoms_step s a)

pub atoms_at-Ex : (depth s : ℕ) (a : Form) → atoms_at depth (Ex s a) ≡ atoms_at (depth + 1) a
unfolding atoms_at
atoms_at-Ex depth s a = ap (λ g. g depth) (fold-Ex (ℕ → List Placed) atoms_step s a)

pub ruleset atoms_equations = (atoms_at-Atom, atoms_at-Eq, atoms_at-Not, atoms_at-And, atoms_at-Or, atoms_at-Imp, atoms_at-Iff, atoms_at-All, atoms_at-Ex)

-- atoms that are added in two steps
in_two : (xs ys zs old mid new : List Placed) → xs ≡ ys ++ zs → mid ≡ old ++ ys → new ≡ mid ++ zs → new ≡ old ++ xs
in_two xs ys zs old mid new e f g = g ∙ ap (λ (ls : List Placed). ls ++ zs) f ∙ append_assoc old ys zs ∙ ap (λ (ls : List Placed). old ++ ls) (sym e)

module _ (d : ℕ) (l0 r0 l r form : Form) (old mid new : List Placed) where
  pub imp_atoms : form ≡ Imp l0 r0 → l ≡ l0 → r ≡ r0 → mid ≡ old ++ atoms_at d l → new ≡ mid ++ atoms_at d r → new ≡ old ++ atoms_at d form
  imp_atoms is el er f g =
      let whole : atoms_at d form ≡ atoms_at d l ++ atoms_at d r = ap (atoms_at d) is ∙ atoms_at-Imp d l0 r0 ∙ (rw (el, er) refl) in
      in_two (atoms_at d form) (atoms_at d l) (atoms_at d r) old mid new whole f g

  pub iff_atoms : form ≡ Iff l0 r0 → l ≡ l0 → r ≡ r0 → mid ≡ old ++ atoms_at d l → new ≡ mid ++ atoms_at d r → new ≡ old ++ atoms_at d form
  iff_atoms is el er f g =
      let whole : atoms_at d form ≡ atoms_at d l ++ atoms_at d r = ap (atoms_at d) is ∙ atoms_at-Iff d l0 r0 ∙ (rw (el, er) refl) in
      in_two (atoms_at d form) (atoms_at d l) (atoms_at d r) old mid new whole f g
