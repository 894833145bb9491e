-- Normal forms of formulas with new numbers for their variables.
use Rattle.std.specs.Prelude.{ℕ, ◌≡◌, ◌+◌, ◌-◌, Bool, true, false, not, List, [], ◌∷◌, map, refl}
use Rattle.std.specs.List.{AllByRecursion}
use Rattle.std.proofs.Common.{ap, sym, ◌∙◌, arith, ◌⊎◌, inl, inr}
use Rattle.fof_terms.specs.declared.term.Term.{Term, Var}
use Rattle.fof_terms.specs.declared.form.Form.{Form, Atom, Eq}
use Rattle.fof_terms.specs.Instance.{instance_at}
use Rattle.fof_terms.specs.Lift.{lifted_term, lifted}
use Rattle.fof_terms.specs.Variables.{has_variable}
use Rattle.fof_terms.proofs.Induction.{form_induction}
use Rattle.fof_terms.proofs.LiftingLaws.{below_or_above, stays, moves}
use Rattle.fof_terms.proofs.Unused.{unused_back}
use Rattle.fof_terms.proofs.Walks.{FormWalk, lifting, lifting_term, both_walks, both_terms, same_terms, same_forms, instance_over}
use Rattle.clause_form.specs.Norm.{signed, join, quantifier, quantified, norm_of}
use Rattle.clause_form.proofs.NormFacts.{quantified-kept, quantified-dropped, norm_of-Atom, norm_of-Eq, norm_of-Not, norm_of-And, norm_of-Or, norm_of-Imp, norm_of-Iff, norm_of-All, norm_of-Ex}
use Rattle.flat_form.specs.Renumbered.{renumbered_term, renumbered}
use Rattle.flat_form.proofs.OwnNorms.{near_walk, renumbering_keeps}
use Rattle.flat_form.proofs.RenumberedFacts.{renumbered-Atom, renumbered-Eq, renumbered-Not, renumbered-And, renumbered-Or, renumbered-Imp, renumbered-Iff, renumbered-All, renumbered-Ex}
use Rattle.flat_form.proofs.Renumbering.{renumbering, renumbering_term, bound, free, lift_number, lift_is, join_walk}

-- so many binders further in
pub further : (new : ℕ → ℕ) (n : ℕ → ℕ) → ((d : ℕ) → n (d + 1) ≡ n d + 1) → FormWalk (λ d. renumbered_term new (n d)) (λ d. renumbered new (n d))
further new n e = record {
  atom = λ d p ts. renumbered-Atom new (n d) p ts;
  eq = λ d l r. renumbered-Eq new (n d) l r;
  not = λ d a. renumbered-Not new (n d) a;
  and = λ d as_. renumbered-And new (n d) as_;
  or = λ d as_. renumbered-Or new (n d) as_;
  imp = λ d a b. renumbered-Imp new (n d) a b;
  iff = λ d a b. renumbered-Iff new (n d) a b;
  all = λ d s a. rw (e d, renumbered-All) refl;
  ex = λ d s a. rw (e d, renumbered-Ex) refl;
}

-- a lift over one variable and new numbers further out
module _ (new : ℕ → ℕ) (d : ℕ) where
  past_number : (e k : ℕ) → renumbered_term new (e + d + 1) (lifted_term 1 e (Var k)) ≡ lifted_term 1 e (renumbered_term new (e + d) (Var k))
  past_number e k =
      elim (below_or_above k e) [
        | inl h ↦
            ap (renumbered_term new (e + d + 1)) (stays 1 e k h)
            ∙ (bound new (e + d + 1) k (omega arith) ∙ sym (ap (lifted_term 1 e) (bound new (e + d) k (omega arith)) ∙ stays 1 e k h))
        | inr h ↦
            elim (below_or_above k (e + d)) [
              | inl g ↦
                  ap (renumbered_term new (e + d + 1)) (moves 1 e k h)
                  ∙ (bound new (e + d + 1) (k + 1) (omega arith) ∙ sym (ap (lifted_term 1 e) (bound new (e + d) k g) ∙ moves 1 e k h))
              | inr g ↦
                  let same : k + 1 - (e + d + 1) ≡ k - (e + d) = omega arith in
                  let sum : new (k - (e + d)) + (e + d + 1) ≡ new (k - (e + d)) + (e + d) + 1 = omega arith in
                  ap (renumbered_term new (e + d + 1)) (moves 1 e k h)
                  ∙ (free new (e + d + 1) (k + 1) (omega arith)
                  ∙ (ap (λ m. Var (new m + (e + d + 1))) same
                  ∙ (ap Var sum ∙ sym (ap (lifted_term 1 e) (free new (e + d) k g) ∙ moves 1 e (new (k - (e + d)) + (e + d)) (omega arith)))))
            ]
      ]

  past : (a : Form) (e : ℕ) → renumbered new (e + d + 1) (lifted 1 e a) ≡ lifted 1 e (renumbered new (e + d) a)
  past =
      same_forms _ _ _ _
      (both_walks _ _ _ _ (further new (λ e. e + d + 1) (λ e. omega arith)) (lifting 1 (λ e. e) (λ e. refl)))
      (both_walks _ _ _ _ (lifting 1 (λ e. e) (λ e. refl)) (further new (λ e. e + d) (λ e. omega arith)))
      (λ e. same_terms _ _ (both_terms _ _ (renumbering_term new (e + d + 1)) (lifting_term 1 e)) (both_terms _ _ (lifting_term 1 e) (renumbering_term new (e + d))) (past_number e))

  past_one : (a : Form) → renumbered new (d + 1) (lifted 1 0 a) ≡ lifted 1 0 (renumbered new d a)
  past_one a =
      let none : 0 + d ≡ d = omega arith in
      let at = past a 0 in
      rw none at at

  -- what is dropped
  drop_one : (a : Form) → has_variable 0 a ≡ false → instance_at (Var 0) 0 (renumbered new (d + 1) a) ≡ renumbered new d (instance_at (Var 0) 0 a)
  drop_one a e =
      let b = instance_at (Var 0) 0 a in
      let back : lifted 1 0 b ≡ a = unused_back (Var 0) a 0 e in
      ap (λ c. instance_at (Var 0) 0 (renumbered new (d + 1) c)) (sym back) ∙ (ap (instance_at (Var 0) 0) (past_one b) ∙ instance_over (Var 0) (renumbered new d b) 0)

  either : (b : Bool) → (b ≡ true) ⊎ (b ≡ false)
  either true = inl refl
  either false = inr refl

  quantifier_walk : (g : Bool) (s : ℕ) (a : Form) → renumbered new d (quantifier g s a) ≡ quantifier g s (renumbered new (d + 1) a)
  quantifier_walk true s a = renumbered-All new d s a
  quantifier_walk false s a = renumbered-Ex new d s a

  quantified_walk : (g : Bool) (s : ℕ) (a : Form) → quantified g s (renumbered new (d + 1) a) ≡ renumbered new d (quantified g s a)
  quantified_walk g s a =
      let same : has_variable 0 (renumbered new (d + 1) a) ≡ has_variable 0 a = near_walk _ _ (renumbering new) (renumbering_keeps new) a (d + 1) 0 (omega arith) in
      elim (either (has_variable 0 a)) [
        | inl e ↦ quantified-kept g s (renumbered new (d + 1) a) (same ∙ e) ∙ (sym (quantifier_walk g s a) ∙ ap (renumbered new d) (sym (quantified-kept g s a e)))
        | inr e ↦ quantified-dropped g s (renumbered new (d + 1) a) (same ∙ e) ∙ (drop_one a e ∙ ap (renumbered new d) (sym (quantified-dropped g s a e)))
      ]

  signed_atom : (g : Bool) (p : ℕ) (ts : List Term) → renumbered new d (signed g (Atom p ts)) ≡ signed g (renumbered new d (Atom p ts))
  signed_atom true p ts = refl
  signed_atom false p ts = renumbered-Not new d (Atom p ts)

  signed_eq : (g : Bool) (l r : Term) → renumbered new d (signed g (Eq l r)) ≡ signed g (renumbered new d (Eq l r))
  signed_eq true l r = refl
  signed_eq false l r = renumbered-Not new d (Eq l r)

module _ (new : ℕ → ℕ) where
  abbrev Goes : Form → Type 0
  Goes a = (g : Bool) (d : ℕ) → norm_of g (renumbered new d a) ≡ renumbered new d (norm_of g a)

  each_norm : (g : Bool) (d : ℕ) (as_ : List Form) → AllByRecursion Goes as_ → map (norm_of g) (map (renumbered new d) as_) ≡ map (renumbered new d) (map (norm_of g) as_)
  each_norm g d [] all = refl
  each_norm g d (a ∷ as_) all = rw (all.0 g d, each_norm g d as_ all.1) refl

  joined : (k g : Bool) (d : ℕ) (as_ : List Form) → AllByRecursion Goes as_ → join k (map (norm_of g) (map (renumbered new d) as_)) ≡ renumbered new d (join k (map (norm_of g) as_))
  joined k g d as_ all = ap (join k) (each_norm g d as_ all) ∙ sym (join_walk _ _ (renumbering new) d k (map (norm_of g) as_))

  pair : (k g h : Bool) (d : ℕ) (a b : Form) → Goes a → Goes b → join k (norm_of g (renumbered new d a) ∷ norm_of h (renumbered new d b) ∷ []) ≡ renumbered new d (join k (norm_of g a ∷ norm_of h b ∷ []))
  pair k g h d a b ga gb = rw (ga g d, gb h d) (sym (join_walk _ _ (renumbering new) d k (norm_of g a ∷ norm_of h b ∷ [])))

  -- the normal form has the new numbers
  pub norm_walk : (a : Form) → Goes a
  norm_walk = form_induction _ (record {
    atom = λ p ts g d. ap (norm_of g) (renumbered-Atom new d p ts) ∙ (norm_of-Atom g p _ ∙ (ap (signed g) (sym (renumbered-Atom new d p ts)) ∙ (sym (signed_atom new d g p ts) ∙ ap (renumbered new d) (sym (norm_of-Atom g p ts)))));
    eq = λ l r g d. ap (norm_of g) (renumbered-Eq new d l r) ∙ (norm_of-Eq g _ _ ∙ (ap (signed g) (sym (renumbered-Eq new d l r)) ∙ (sym (signed_eq new d g l r) ∙ ap (renumbered new d) (sym (norm_of-Eq g l r)))));
    not = λ a ih g d. ap (norm_of g) (renumbered-Not new d a) ∙ (norm_of-Not g (renumbered new d a) ∙ (ih (not g) d ∙ ap (renumbered new d) (sym (norm_of-Not g a))));
    and = λ as_ all g d. ap (norm_of g) (renumbered-And new d as_) ∙ (norm_of-And g (map (renumbered new d) as_) ∙ (joined g g d as_ all ∙ ap (renumbered new d) (sym (norm_of-And g as_))));
    or = λ as_ all g d. ap (norm_of g) (renumbered-Or new d as_) ∙ (norm_of-Or g (map (renumbered new d) as_) ∙ (joined (not g) g d as_ all ∙ ap (renumbered new d) (sym (norm_of-Or g as_))));
    imp = λ a b ih jh g d.
        ap (norm_of g) (renumbered-Imp new d a b)
        ∙ (norm_of-Imp g (renumbered new d a) (renumbered new d b) ∙ (pair (not g) (not g) g d a b ih jh ∙ ap (renumbered new d) (sym (norm_of-Imp g a b))));
    iff = λ a b ih jh g d.
        let xs = join (not g) (norm_of (not g) a ∷ norm_of g b ∷ []) in
        let ys = join (not g) (norm_of g a ∷ norm_of (not g) b ∷ []) in
        ap (norm_of g) (renumbered-Iff new d a b)
        ∙ (norm_of-Iff g (renumbered new d a) (renumbered new d b)
        ∙ (rw (pair (not g) (not g) g d a b ih jh, pair (not g) g (not g) d a b ih jh)
        (sym (join_walk _ _ (renumbering new) d g (xs ∷ ys ∷ []))) ∙ ap (renumbered new d) (sym (norm_of-Iff g a b))));
    all = λ s a ih g d.
        ap (norm_of g) (renumbered-All new d s a)
        ∙ (norm_of-All g s (renumbered new (d + 1) a) ∙ (ap (quantified g s) (ih g (d + 1)) ∙ (quantified_walk new d g s (norm_of g a) ∙ ap (renumbered new d) (sym (norm_of-All g s a)))));
    ex = λ s a ih g d.
        ap (norm_of g) (renumbered-Ex new d s a)
        ∙ (norm_of-Ex g s (renumbered new (d + 1) a) ∙ (ap (quantified (not g) s) (ih g (d + 1)) ∙ (quantified_walk new d (not g) s (norm_of g a) ∙ ap (renumbered new d) (sym (norm_of-Ex g s a)))));
  })

pub norm_lifted : (by n : ℕ) (a : Form) (g : Bool) → norm_of g (lifted by n a) ≡ lifted by n (norm_of g a)
norm_lifted by n a g = ap (norm_of g) (lift_is by n a) ∙ (norm_walk (lift_number by n) a g 0 ∙ sym (lift_is by n (norm_of g a)))
