-- Terms that are added in two steps.
use Rattle.std.specs.Prelude.{ℕ, ◌≡◌, List, [], ◌∷◌, ◌++◌, refl}
use Rattle.std.proofs.Common.{ap, sym, ◌∙◌, append_assoc}
use Rattle.fof_terms.specs.declared.term.Term.{Term}
use Rattle.fof_terms.specs.declared.form.Form.{Form, Eq, Imp, Iff}
use Rattle.skolem_fresh.specs.declared.leaves.Leaf.{Leaf}
use Rattle.skolem_fresh.specs.code.Leaves.{leaf, leaves_of}
use Rattle.skolem_fresh.proofs.LeavesFacts.{leaves_of-Eq, leaves_of-Imp, leaves_of-Iff}

in_two : (xs ys zs old mid new : List Leaf) → xs ≡ ys ++ zs → mid ≡ old ++ ys → new ≡ mid ++ zs → new ≡ old ++ xs
in_two xs ys zs old mid new e f g = g ∙ ap (λ (ls : List Leaf). ls ++ zs) f ∙ append_assoc old ys zs ∙ ap (λ (ls : List Leaf). old ++ ls) (sym e)

pub two_leaves : (d : ℕ) (l r : Term) (form : Form) (old mid new : List Leaf) → form ≡ Eq l r → mid ≡ old ++ leaf d l ∷ [] → new ≡ mid ++ leaf d r ∷ [] → new ≡ old ++ leaves_of d form
two_leaves d l r form old mid new is f g = in_two (leaves_of d form) (leaf d l ∷ []) (leaf d r ∷ []) old mid new (ap (leaves_of d) is ∙ leaves_of-Eq d l r) f g

module _ (d : ℕ) (l0 r0 l r form : Form) (old mid new : List Leaf) where
  pub imp_leaves : form ≡ Imp l0 r0 → l ≡ l0 → r ≡ r0 → mid ≡ old ++ leaves_of d l → new ≡ mid ++ leaves_of d r → new ≡ old ++ leaves_of d form
  imp_leaves is el er f g =
      let whole : leaves_of d form ≡ leaves_of d l ++ leaves_of d r = ap (leaves_of d) is ∙ leaves_of-Imp d l0 r0 ∙ (rw (el, er) refl) in
      in_two (leaves_of d form) (leaves_of d l) (leaves_of d r) old mid new whole f g

  pub iff_leaves : form ≡ Iff l0 r0 → l ≡ l0 → r ≡ r0 → mid ≡ old ++ leaves_of d l → new ≡ mid ++ leaves_of d r → new ≡ old ++ leaves_of d form
  iff_leaves is el er f g =
      let whole : leaves_of d form ≡ leaves_of d l ++ leaves_of d r = ap (leaves_of d) is ∙ leaves_of-Iff d l0 r0 ∙ (rw (el, er) refl) in
      in_two (leaves_of d form) (leaves_of d l) (leaves_of d r) old mid new whole f g
