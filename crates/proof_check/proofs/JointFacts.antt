-- Lemmas on what specs/code/JointInstance defines, and that instances one after another are joint.
use Rattle.std.specs.Prelude.{ℕ, ◌≡◌, ◌+◌, ◌-◌, ◌≤◌, ◌<◌, nat_lt, if◌then◌else◌, Bool, true, false, List, [], ◌∷◌, ◌++◌, length, map, reverse, slice_get, Option, Some, None, refl}
use Rattle.std.proofs.Common.{ap, sym, ◌∙◌, arith, inl, inr, zero, suc}
use Rattle.std.proofs.lemmas.Bool.{lt-ltb, le-ltb}
use Rattle.std.proofs.lemmas.List.{reverse-append}
use Rattle.std.proofs.lemmas.Simd.{map-map}
use Rattle.fof_terms.proofs.Trees.{fold-Var, fold-App, fold-Atom, fold-Eq, fold-Not, fold-And, fold-Or, fold-Imp, fold-Iff, fold-All, fold-Ex, All-injective}
use Rattle.fof_terms.specs.declared.term.Term.{Term, Var, App}
use Rattle.fof_terms.specs.declared.term.Term.TheFolds.{fold-Term}
use Rattle.fof_terms.specs.declared.form.Form.{Form, Atom, Eq, Not, And, Or, Imp, Iff, All, Ex}
use Rattle.fof_terms.specs.declared.form.Form.TheFolds.{fold-Form}
use Rattle.fof_terms.specs.declared.form.Form.TheOpen as form
use Rattle.fof_terms.specs.Lift.{lifted_term}
use Rattle.fof_terms.specs.Instance.{instance_term, instance_at}
use Rattle.fof_terms.proofs.LiftingLaws.{below_or_above, here, smaller, greater, instance_of_lifted}
use Rattle.fof_terms.proofs.Walks.{TermWalk, FormWalk, placing, placing_term, staying, staying_term, both_walks, both_terms, same_terms, same_forms}
use Rattle.fof_terms.proofs.Induction.{form_induction}
use Rattle.proof_check.specs.code.JointInstance.{in_place, joint_term_step, joint_instance_term, joint_step, joint_instance_at}

-- The equations of these words.
pub joint_instance_term-Var : (ts : List Term) (depth k : ℕ) → joint_instance_term ts depth (Var k) ≡ (if nat_lt k depth then Var k else in_place (slice_get ts (k - depth)) depth (k - length ts))
unfolding joint_instance_term
joint_instance_term-Var ts depth k = fold-Var Term (joint_term_step ts depth) k

pub joint_instance_term-App : (ts : List Term) (depth f : ℕ) (args : List Term) → joint_instance_term ts depth (App f args) ≡ App f (map (joint_instance_term ts depth) args)
unfolding joint_instance_term
joint_instance_term-App ts depth f args = fold-App Term (joint_term_step ts depth) f args

pub joint_instance_at-Atom : (ts : List Term) (depth p : ℕ) (args : List Term) → joint_instance_at ts depth (Atom p args) ≡ Atom p (map (joint_instance_term ts depth) args)
unfolding joint_instance_at
joint_instance_at-Atom ts depth p args = ap (λ g. g depth) (fold-Atom (ℕ → Form) (joint_step ts) p args)

pub joint_instance_at-Eq : (ts : List Term) (depth : ℕ) (l r : Term) → joint_instance_at ts depth (Eq l r) ≡ Eq (joint_instance_term ts depth l) (joint_instance_term ts depth r)
unfolding joint_instance_at
joint_instance_at-Eq ts depth l r = ap (λ g. g depth) (fold-Eq (ℕ → Form) (joint_step ts) l r)

pub joint_instance_at-Not : (ts : List Term) (depth : ℕ) (a : Form) → joint_instance_at ts depth (Not a) ≡ Not (joint_instance_at ts depth a)
unfolding joint_instance_at
joint_instance_at-Not ts depth a = ap (λ g. g depth) (fold-Not (ℕ → Form) (joint_step ts) a)

pub joint_instance_at-And : (ts : List Term) (depth : ℕ) (as_ : List Form) → joint_instance_at ts depth (And as_) ≡ And (map (joint_instance_at ts depth) as_)
unfolding joint_instance_at
joint_instance_at-And ts depth as_ = ap (λ g. g depth) (fold-And (ℕ → Form) (joint_step ts) as_) ∙ ap And (map-map (λ a. a depth) _ as_)

pub joint_instance_at-Or : (ts : List Term) (depth : ℕ) (as_ : List Form) → joint_instance_at ts depth (Or as_) ≡ Or (map (joint_instance_at ts depth) as_)
unfolding joint_instance_at
joint_instance_at-Or ts depth as_ = ap (λ g. g depth) (fold-Or (ℕ → Form) (joint_step ts) as_) ∙ ap Or (map-map (λ a. a depth) _ as_)

pub joint_instance_at-Imp : (ts : List Term) (depth : ℕ) (a b : Form) → joint_instance_at ts depth (Imp a b) ≡ Imp (joint_instance_at ts depth a) (joint_instance_at ts depth b)
unfolding joint_instance_at
joint_instance_at-Imp ts depth a b = ap (λ g. g depth) (fold-Imp (ℕ → Form) (joint_step ts) a b)

pub joint_instance_at-Iff : (ts : List Term) (depth : ℕ) (a b : Form) → joint_instance_at ts depth (Iff a b) ≡ Iff (joint_instance_at ts depth a) (joint_instance_at ts depth b)
unfolding joint_instance_at
joint_instance_at-Iff ts depth a b = ap (λ g. g depth) (fold-Iff (ℕ → Form) (joint_step ts) a b)

pub joint_instance_at-All : (ts : List Term) (depth s : ℕ) (a : Form) → joint_instance_at ts depth (All s a) ≡ All s (joint_instance_at ts (depth + 1) a)
unfolding joint_instance_at
joint_instance_at-All ts depth s a = ap (λ g. g depth) (fold-All (ℕ → Form) (joint_step ts) s a)

pub joint_instance_at-Ex : (ts : List Term) (depth s : ℕ) (a : Form) → joint_instance_at ts depth (Ex s a) ≡ Ex s (joint_instance_at ts (depth + 1) a)
unfolding joint_instance_at
joint_instance_at-Ex ts depth s a = ap (λ g. g depth) (fold-Ex (ℕ → Form) (joint_step ts) s a)

pub ruleset joint_equations = (joint_instance_term-Var, joint_instance_term-App, joint_instance_at-Atom, joint_instance_at-Eq, joint_instance_at-Not, joint_instance_at-And, joint_instance_at-Or, joint_instance_at-Imp, joint_instance_at-Iff, joint_instance_at-All, joint_instance_at-Ex)

-- a variable within the binders, one with a term in its place, and a greater one
pub within : (ts : List Term) (d k : ℕ) → k < d → joint_instance_term ts d (Var k) ≡ Var k
within ts d k h = rw (joint_instance_term-Var, lt-ltb k d h) refl

pub filled : (ts : List Term) (d k : ℕ) (t : Term) → d ≤ k → slice_get ts (k - d) ≡ Some t → joint_instance_term ts d (Var k) ≡ lifted_term d 0 t
filled ts d k t h e = rw (joint_instance_term-Var, le-ltb k d h, e) refl

pub beyond : (ts : List Term) (d k : ℕ) → d ≤ k → slice_get ts (k - d) ≡ None → joint_instance_term ts d (Var k) ≡ Var (k - length ts)
beyond ts d k h e = rw (joint_instance_term-Var, le-ltb k d h, e) refl

none_past : {X : Type 0} (xs : List X) (i : ℕ) → slice_get xs i ≡ None → length xs ≤ i
none_past [] i e = omega arith
none_past (x ∷ xs) zero e = cc
none_past (x ∷ xs) (suc i) e = omega (arith, none_past xs i e)

-- Joint instances change variables alone.
pub joining_term : (ts : List Term) (depth : ℕ) → TermWalk (joint_instance_term ts depth)
joining_term ts depth = record { app = λ s args. joint_instance_term-App ts depth s args }

pub joining : (ts : List Term) (n : ℕ → ℕ) → ((d : ℕ) → n (d + 1) ≡ n d + 1) → FormWalk (λ d. joint_instance_term ts (n d)) (λ d. joint_instance_at ts (n d))
joining ts n e = record {
  atom = λ d p args. joint_instance_at-Atom ts (n d) p args;
  eq = λ d l r. joint_instance_at-Eq ts (n d) l r;
  not = λ d a. joint_instance_at-Not ts (n d) a;
  and = λ d as_. joint_instance_at-And ts (n d) as_;
  or = λ d as_. joint_instance_at-Or ts (n d) as_;
  imp = λ d a b. joint_instance_at-Imp ts (n d) a b;
  iff = λ d a b. joint_instance_at-Iff ts (n d) a b;
  all = λ d s a. rw (e d, joint_instance_at-All) refl;
  ex = λ d s a. rw (e d, joint_instance_at-Ex) refl;
}

none_var : (d k : ℕ) → joint_instance_term [] d (Var k) ≡ Var k
none_var d k =
    elim (below_or_above k d) [
      | inl h ↦ within [] d k h
      | inr h ↦ let same : k - 0 ≡ k = omega arith in beyond [] d k h refl ∙ ap Var same
    ]

-- without terms nothing changes
pub joint_none : (a : Form) (d : ℕ) → joint_instance_at [] d a ≡ a
joint_none = same_forms _ _ _ _ (joining [] (λ d. d) (λ d. refl)) staying (λ d. same_terms _ _ (joining_term [] d) staying_term (none_var d))

module _ (y : Term) (ts : List Term) where
  next_place : (d k : ℕ) → d < k → slice_get (y ∷ ts) (k - d) ≡ slice_get ts (k - (d + 1))
  next_place d k h = let same : k - d ≡ suc (k - (d + 1)) = omega arith in rw same refl

  far_var : (d k : ℕ) → d < k → (r : Option Term) → slice_get ts (k - (d + 1)) ≡ r → instance_term y d (joint_instance_term ts (d + 1) (Var k)) ≡ joint_instance_term (y ∷ ts) d (Var k)
  far_var d k h None e =
      let past : length ts ≤ k - (d + 1) = none_past ts (k - (d + 1)) e in
      let same : k - length ts - 1 ≡ k - length (y ∷ ts) = omega arith in
      rw (beyond ts (d + 1) k (omega arith) e, beyond (y ∷ ts) d k (omega arith) (next_place d k h ∙ e)) (greater y d (k - length ts) (omega (arith, past)) ∙ ap Var same)
  far_var d k h (Some t) e =
      rw (filled ts (d + 1) k t (omega arith) e, filled (y ∷ ts) d k t (omega arith) (next_place d k h ∙ e)) (instance_of_lifted y t d d (omega arith))

  more_var : (d k : ℕ) → instance_term y d (joint_instance_term ts (d + 1) (Var k)) ≡ joint_instance_term (y ∷ ts) d (Var k)
  more_var d k =
      elim (below_or_above k d) [
        | inl h ↦ rw (within ts (d + 1) k (omega arith), within (y ∷ ts) d k h) (smaller y d k h)
        | inr h ↦
            elim (below_or_above d k) [
              | inl g ↦ far_var d k g (slice_get ts (k - (d + 1))) refl
              | inr g ↦
                  let first : k - d ≡ 0 = omega arith in
                  let at : slice_get (y ∷ ts) (k - d) ≡ Some y = rw first refl in
                  rw (within ts (d + 1) k (omega arith), filled (y ∷ ts) d k y h at) (here y d k (omega arith))
            ]
      ]

  -- one instance more
  pub joint_more : (a : Form) (d : ℕ) → instance_at y d (joint_instance_at ts (d + 1) a) ≡ joint_instance_at (y ∷ ts) d a
  joint_more =
      same_forms _ _ _ _
      (both_walks _ _ _ _ (placing y (λ d. d) (λ d. refl)) (joining ts (λ d. d + 1) (λ d. refl)))
      (joining (y ∷ ts) (λ d. d) (λ d. refl))
      (λ d. same_terms _ _ (both_terms _ _ (placing_term y d) (joining_term ts (d + 1))) (joining_term (y ∷ ts) d) (more_var d))

abbrev all_step : form.Form-F Bool → Bool
all_step (form.Atom p args) = false
all_step (form.Eq l r) = false
all_step (form.Not a) = false
all_step (form.And as_) = false
all_step (form.Or as_) = false
all_step (form.Imp a b) = false
all_step (form.Iff a b) = false
all_step (form.All s a) = true
all_step (form.Ex s a) = false

other : (a c : Form) (s : ℕ) (b : Form) → fold-Form Bool all_step a ≡ false → c ≡ a → c ≡ All s b → ⊥
other a c s b none same e = let both : false ≡ true = sym none ∙ (ap (fold-Form Bool all_step) (sym same ∙ e) ∙ fold-All Bool all_step s b) in cc

-- what holds for all after joint instances did so before
pub joint_all : (ts : List Term) (a : Form) (d s : ℕ) (b : Form) → joint_instance_at ts d a ≡ All s b → (c : Form) × (a ≡ All s c)
joint_all ts = form_induction _ (record {
  atom = λ p args d s b e. absurd (other _ _ s b (fold-Atom Bool all_step _ _) (joint_instance_at-Atom ts d p args) e);
  eq = λ l r d s b e. absurd (other _ _ s b (fold-Eq Bool all_step _ _) (joint_instance_at-Eq ts d l r) e);
  not = λ a ih d s b e. absurd (other _ _ s b (fold-Not Bool all_step _) (joint_instance_at-Not ts d a) e);
  and = λ as_ all d s b e. absurd (other _ _ s b (fold-And Bool all_step _) (joint_instance_at-And ts d as_) e);
  or = λ as_ all d s b e. absurd (other _ _ s b (fold-Or Bool all_step _) (joint_instance_at-Or ts d as_) e);
  imp = λ a c ih jh d s b e. absurd (other _ _ s b (fold-Imp Bool all_step _ _) (joint_instance_at-Imp ts d a c) e);
  iff = λ a c ih jh d s b e. absurd (other _ _ s b (fold-Iff Bool all_step _ _) (joint_instance_at-Iff ts d a c) e);
  all = λ r a ih d s b e. let one = All-injective r s (joint_instance_at ts (d + 1) a) b (sym (joint_instance_at-All ts d r a) ∙ e) in (a, ap (λ x. All x a) one.0);
  ex = λ r a ih d s b e. absurd (other _ _ s b (fold-Ex Bool all_step _ _) (joint_instance_at-Ex ts d r a) e);
})
