-- The normal form of a well-sorted formula is well-sorted.
use Rattle.std.specs.Prelude.{ℕ, ◌≡◌, Bool, true, false, not, nat_lt, List, [], ◌∷◌, length, map, refl}
use Rattle.std.specs.List.{AllByRecursion, list_all}
use Rattle.std.proofs.Common.{ap, sym, ◌∙◌, inl, inr, ◌⊎◌}
use Rattle.fof_terms.specs.declared.term.Term.{Var}
use Rattle.fof_terms.specs.declared.form.Form.{Form}
use Rattle.fof_terms.proofs.Induction.{form_induction}
use Rattle.fof_terms.specs.Instance.{instance_at}
use Rattle.fof_terms.proofs.LiftingLaws.{both, each_true}
use Rattle.fof_terms.specs.Lift.{lifted}
use Rattle.fof_terms.specs.Sorts.{is_sorted}
use Rattle.fof_terms.proofs.SortsFacts.{is_sorted-Not, is_sorted-And, is_sorted-Or, is_sorted-Imp, is_sorted-Iff, is_sorted-All, is_sorted-Ex}
use Rattle.fof_terms.proofs.Unused.{unused_back}
use Rattle.fof_terms.specs.Variables.{has_variable}
use Rattle.fof_terms.specs.Vocabulary.{Vocabulary}
use Rattle.fof_terms.proofs.Walks.{lifted_fits}
use Rattle.clause_form.proofs.Joined.{Memberwise, join_keeps}
use Rattle.clause_form.specs.Norm.{signed, node, join, quantifier, quantified, norm_of}
use Rattle.clause_form.proofs.NormFacts.{quantified-kept, quantified-dropped, norm_of-Atom, norm_of-Eq, norm_of-Not, norm_of-And, norm_of-Or, norm_of-Imp, norm_of-Iff, norm_of-All, norm_of-Ex}

all_true : {X : Type 0} (f : X → Bool) (xs : List X) → AllByRecursion (λ x. f x ≡ true) xs → list_all f xs ≡ true
all_true f [] h = refl
all_true f (x ∷ xs) h = rw (h.0, all_true f xs h.1) refl

either : (b : Bool) → (b ≡ true) ⊎ (b ≡ false)
either true = inl refl
either false = inr refl

module _ (v : Vocabulary) where
  abbrev Fits : List ℕ → Form → Type 0
  Fits scope a = is_sorted v scope a ≡ true

  fits_nodes : (scope : List ℕ) → Memberwise (Fits scope)
  fits_nodes scope = record { make = make; take = take } where
    make : (g : Bool) (as_ : List Form) → AllByRecursion (Fits scope) as_ → Fits scope (node g as_)
    make true as_ h = rw is_sorted-And (all_true (is_sorted v scope) as_ h)
    make false as_ h = rw is_sorted-Or (all_true (is_sorted v scope) as_ h)

    take : (g : Bool) (as_ : List Form) → Fits scope (node g as_) → AllByRecursion (Fits scope) as_
    take true as_ h = each_true (is_sorted v scope) as_ (rw is_sorted-And at h)
    take false as_ h = each_true (is_sorted v scope) as_ (rw is_sorted-Or at h)

  signed_fits : (scope : List ℕ) (g : Bool) (a : Form) → Fits scope a → Fits scope (signed g a)
  signed_fits scope true a h = h
  signed_fits scope false a h = rw is_sorted-Not h

  quantifier_fits : (scope : List ℕ) (g : Bool) (s : ℕ) (a : Form) → nat_lt s (length v.sorts) ≡ true → Fits (s ∷ scope) a → Fits scope (quantifier g s a)
  quantifier_fits scope true s a lt h = rw (is_sorted-All, lt, h) refl
  quantifier_fits scope false s a lt h = rw (is_sorted-Ex, lt, h) refl

  quantified_fits : (scope : List ℕ) (g : Bool) (s : ℕ) (a : Form) → nat_lt s (length v.sorts) ≡ true → Fits (s ∷ scope) a → Fits scope (quantified g s a)
  quantified_fits scope g s a lt h =
      elim (either (has_variable 0 a)) [
        | inl e ↦ rw (quantified-kept g s a e) (quantifier_fits scope g s a lt h)
        | inr e ↦
            let b = instance_at (Var 0) 0 a in
            let lifts : is_sorted v (s ∷ scope) (lifted 1 0 b) ≡ is_sorted v scope b = lifted_fits v (s ∷ []) scope b [] in
            rw (quantified-dropped g s a e) (sym lifts ∙ ap (is_sorted v (s ∷ scope)) (unused_back (Var 0) a 0 e) ∙ h)
      ]

  abbrev Kept : Form → Type 0
  Kept a = (g : Bool) (scope : List ℕ) → Fits scope a → Fits scope (norm_of g a)

  all_kept : (g : Bool) (scope : List ℕ) (as_ : List Form) → AllByRecursion Kept as_ → AllByRecursion (Fits scope) as_ → AllByRecursion (Fits scope) (map (norm_of g) as_)
  all_kept g scope [] all h = tt
  all_kept g scope (a ∷ as_) all h = (all.0 g scope h.0, all_kept g scope as_ all.1 h.1)

  pub norm_fits : (a : Form) → Kept a
  norm_fits = form_induction Kept (record {
    atom = λ p ts g scope h. rw norm_of-Atom (signed_fits scope g _ h);
    eq = λ l r g scope h. rw norm_of-Eq (signed_fits scope g _ h);
    not = λ a ih g scope h. rw norm_of-Not (ih (not g) scope (rw is_sorted-Not at h));
    and = λ as_ all g scope h. rw norm_of-And (join_keeps (Fits scope) (fits_nodes scope) g (map (norm_of g) as_) (all_kept g scope as_ all (each_true (is_sorted v scope) as_ (rw is_sorted-And at h))));
    or = λ as_ all g scope h. rw norm_of-Or (join_keeps (Fits scope) (fits_nodes scope) (not g) (map (norm_of g) as_) (all_kept g scope as_ all (each_true (is_sorted v scope) as_ (rw is_sorted-Or at h))));
    imp = λ a b ih jh g scope h.
        let parts = both (is_sorted v scope a) (is_sorted v scope b) (rw is_sorted-Imp at h) in
        rw norm_of-Imp (join_keeps (Fits scope) (fits_nodes scope) (not g) (norm_of (not g) a ∷ norm_of g b ∷ []) (ih (not g) scope parts.0, (jh g scope parts.1, tt)));
    iff = λ a b ih jh g scope h.
        let parts = both (is_sorted v scope a) (is_sorted v scope b) (rw is_sorted-Iff at h) in
        let xs = norm_of (not g) a ∷ norm_of g b ∷ [] in
        let ys = norm_of g a ∷ norm_of (not g) b ∷ [] in
        let first = join_keeps (Fits scope) (fits_nodes scope) (not g) xs (ih (not g) scope parts.0, (jh g scope parts.1, tt)) in
        let second = join_keeps (Fits scope) (fits_nodes scope) (not g) ys (ih g scope parts.0, (jh (not g) scope parts.1, tt)) in
        rw norm_of-Iff (join_keeps (Fits scope) (fits_nodes scope) g (join (not g) xs ∷ join (not g) ys ∷ []) (first, (second, tt)));
    all = λ s a ih g scope h.
        let parts = both (nat_lt s (length v.sorts)) (is_sorted v (s ∷ scope) a) (rw is_sorted-All at h) in
        rw norm_of-All (quantified_fits scope g s (norm_of g a) parts.0 (ih g (s ∷ scope) parts.1));
    ex = λ s a ih g scope h.
        let parts = both (nat_lt s (length v.sorts)) (is_sorted v (s ∷ scope) a) (rw is_sorted-Ex at h) in
        rw norm_of-Ex (quantified_fits scope (not g) s (norm_of g a) parts.0 (ih g (s ∷ scope) parts.1));
  })
