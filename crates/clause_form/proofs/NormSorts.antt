-- The normal form of what is well-sorted is so, with no more binders inside each other.
use Rattle.std.specs.Prelude.{ℕ, ◌≡◌, ◌+◌, ◌≤◌, Bool, true, false, not, List, [], ◌∷◌, map, max, refl}
use Rattle.std.specs.List.{AllByRecursion}
use Rattle.std.proofs.Common.{arith, inl, inr, ◌⊎◌}
use Rattle.fof_terms.specs.declared.term.Term.{Var}
use Rattle.fof_terms.specs.declared.form.Form.{Form, Atom, Eq}
use Rattle.fof_terms.specs.Lift.{greatest}
use Rattle.fof_terms.specs.Sorts.{binder_depth}
use Rattle.fof_terms.proofs.SortsFacts.{binder_depth-Not, binder_depth-And, binder_depth-Or, binder_depth-Imp, binder_depth-Iff, binder_depth-All, binder_depth-Ex}
use Rattle.fof_terms.proofs.Induction.{form_induction}
use Rattle.fof_terms.specs.Variables.{has_variable}
use Rattle.fof_terms.proofs.Walks.{same_depth, placing}
use Rattle.clause_form.proofs.Joined.{Memberwise, join_keeps}
use Rattle.clause_form.specs.Norm.{signed, node, join, quantifier, quantified, norm_of}
use Rattle.clause_form.proofs.NormFacts.{quantified-kept, quantified-dropped, norm_of-Atom, norm_of-Eq, norm_of-Not, norm_of-And, norm_of-Or, norm_of-Imp, norm_of-Iff, norm_of-All, norm_of-Ex}

abbrev Within : ℕ → Form → Type 0
Within n a = binder_depth a ≤ n

most : (n : ℕ) (as_ : List Form) → AllByRecursion (Within n) as_ → greatest (map binder_depth as_) ≤ n
most n [] h = omega arith
most n (a ∷ as_) h = omega (arith, h.0, most n as_ h.1)

each : (n : ℕ) (as_ : List Form) → greatest (map binder_depth as_) ≤ n → AllByRecursion (Within n) as_
each n [] h = tt
each n (a ∷ as_) h = (omega arith, each n as_ (omega arith))

within_nodes : (n : ℕ) → Memberwise (Within n)
within_nodes n = record { make = make; take = take } where
  make : (g : Bool) (as_ : List Form) → AllByRecursion (Within n) as_ → Within n (node g as_)
  make true as_ h = rw binder_depth-And (most n as_ h)
  make false as_ h = rw binder_depth-Or (most n as_ h)

  take : (g : Bool) (as_ : List Form) → Within n (node g as_) → AllByRecursion (Within n) as_
  take true as_ h = each n as_ (rw binder_depth-And at h)
  take false as_ h = each n as_ (rw binder_depth-Or at h)

signed_depth : (g : Bool) (a : Form) → binder_depth (signed g a) ≡ binder_depth a
signed_depth true a = refl
signed_depth false a = binder_depth-Not a

either : (b : Bool) → (b ≡ true) ⊎ (b ≡ false)
either true = inl refl
either false = inr refl

quantifier_depth : (g : Bool) (s : ℕ) (a : Form) → binder_depth (quantifier g s a) ≡ binder_depth a + 1
quantifier_depth true s a = binder_depth-All s a
quantifier_depth false s a = binder_depth-Ex s a

quantified_depth : (g : Bool) (s n : ℕ) (a : Form) → binder_depth a ≤ n → binder_depth (quantified g s a) ≤ n + 1
quantified_depth g s n a h =
    elim (either (has_variable 0 a)) [
      | inl e ↦ rw (quantified-kept g s a e, quantifier_depth g s a) (omega arith)
      | inr e ↦ rw (quantified-dropped g s a e, same_depth _ _ (placing (Var 0) (λ d. d) (λ d. refl)) a 0) (omega arith)
    ]

all_norms : (g : Bool) (n : ℕ) (as_ : List Form) → AllByRecursion (λ a. (g : Bool) → binder_depth (norm_of g a) ≤ binder_depth a) as_ → AllByRecursion (Within n) as_ → AllByRecursion (Within n) (map (norm_of g) as_)
all_norms g n [] all h = tt
all_norms g n (a ∷ as_) all h = (omega (arith, all.0 g, h.0), all_norms g n as_ all.1 h.1)

pub norm_depth : (a : Form) (g : Bool) → binder_depth (norm_of g a) ≤ binder_depth a
norm_depth = form_induction _ (record {
  atom = λ p ts g. rw (norm_of-Atom, signed_depth g (Atom p ts)) (omega arith);
  eq = λ l r g. rw (norm_of-Eq, signed_depth g (Eq l r)) (omega arith);
  not = λ a ih g. rw (norm_of-Not, binder_depth-Not) (ih (not g));
  and = λ as_ all g. rw (norm_of-And, binder_depth-And) (join_keeps (Within (greatest (map binder_depth as_))) (within_nodes _) g (map (norm_of g) as_) (all_norms g _ as_ all (each _ as_ (omega arith))));
  or = λ as_ all g. rw (norm_of-Or, binder_depth-Or) (join_keeps (Within (greatest (map binder_depth as_))) (within_nodes _) (not g) (map (norm_of g) as_) (all_norms g _ as_ all (each _ as_ (omega arith))));
  imp = λ a b ih jh g.
      rw (norm_of-Imp, binder_depth-Imp) (join_keeps (Within (max (binder_depth a) (binder_depth b))) (within_nodes _) (not g) (norm_of (not g) a ∷ norm_of g b ∷ []) (omega (arith, ih (not g)), (omega (arith, jh g), tt)));
  iff = λ a b ih jh g.
      let n = max (binder_depth a) (binder_depth b) in
      let xs = norm_of (not g) a ∷ norm_of g b ∷ [] in
      let ys = norm_of g a ∷ norm_of (not g) b ∷ [] in
      let first = join_keeps (Within n) (within_nodes n) (not g) xs (omega (arith, ih (not g)), (omega (arith, jh g), tt)) in
      let second = join_keeps (Within n) (within_nodes n) (not g) ys (omega (arith, ih g), (omega (arith, jh (not g)), tt)) in
      rw (norm_of-Iff, binder_depth-Iff) (join_keeps (Within n) (within_nodes n) g (join (not g) xs ∷ join (not g) ys ∷ []) (first, (second, tt)));
  all = λ s a ih g. rw (norm_of-All, binder_depth-All) (quantified_depth g s (binder_depth a) (norm_of g a) (ih g));
  ex = λ s a ih g. rw (norm_of-Ex, binder_depth-Ex) (quantified_depth (not g) s (binder_depth a) (norm_of g a) (ih g));
})
