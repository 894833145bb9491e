-- Renumbering changes variables alone, and lifting is a renumbering.
use Rattle.std.specs.Prelude.{ℕ, ◌≡◌, ◌+◌, ◌-◌, ◌<◌, ◌≤◌, nat_lt, Bool, true, false, not, if◌then◌else◌, List, [], ◌∷◌, map, flat_map, refl}
use Rattle.std.specs.List.{list_any}
use Rattle.std.proofs.Common.{ap, sym, ◌∙◌, arith, inl, inr, ◌⊎◌}
use Rattle.std.proofs.lemmas.Bool.{lt-ltb, le-ltb}
use Rattle.std.proofs.lemmas.List.{map-append}
use Rattle.std.proofs.lemmas.List.Concat.{flat_map-cons}
use Rattle.fof_terms.specs.declared.term.Term.{Term, Var}
use Rattle.fof_terms.specs.declared.form.Form.{Form}
use Rattle.fof_terms.specs.Lift.{lifted_term, lifted}
use Rattle.fof_terms.proofs.Induction.{form_induction}
use Rattle.fof_terms.proofs.LiftingLaws.{below_or_above, stays, moves}
use Rattle.fof_terms.proofs.Walks.{TermWalk, FormWalk, staying, staying_term, lifting, lifting_term, both_walks, both_terms, same_terms, same_forms}
use Rattle.clause_form.specs.Norm.{node, members_of, ends, alone, joined_flat, join}
use Rattle.clause_form.proofs.MemberKinds.{members_of-Atom, members_of-Eq, members_of-Not, members_of-And-true, members_of-And-false, members_of-Or-true, members_of-Or-false, members_of-Imp, members_of-Iff, members_of-All, members_of-Ex, ends-Atom, ends-Eq, ends-Not, ends-And-true, ends-And-false, ends-Or-true, ends-Or-false, ends-Imp, ends-Iff, ends-All, ends-Ex}
use Rattle.clause_form.proofs.NormFacts.{joined_flat-ended, joined_flat-alone}
use Rattle.clause_form.specs.Norm.{is_empty_list}
use Rattle.flat_form.specs.Renumbered.{renumbered_term, renumbered}
use Rattle.flat_form.proofs.RenumberedFacts.{renumbered_term-Var, renumbered_term-App, renumbered-Atom, renumbered-Eq, renumbered-Not, renumbered-And, renumbered-Or, renumbered-Imp, renumbered-Iff, renumbered-All, renumbered-Ex}

pub renumbering_term : (new : ℕ → ℕ) (d : ℕ) → TermWalk (renumbered_term new d)
renumbering_term new d = record { app = λ s ts. renumbered_term-App new d s ts }

pub renumbering : (new : ℕ → ℕ) → FormWalk (renumbered_term new) (renumbered new)
renumbering new = record {
  atom = λ d p ts. renumbered-Atom new d p ts;
  eq = λ d l r. renumbered-Eq new d l r;
  not = λ d a. renumbered-Not new d a;
  and = λ d as_. renumbered-And new d as_;
  or = λ d as_. renumbered-Or new d as_;
  imp = λ d a b. renumbered-Imp new d a b;
  iff = λ d a b. renumbered-Iff new d a b;
  all = λ d s a. renumbered-All new d s a;
  ex = λ d s a. renumbered-Ex new d s a;
}

-- a bound variable, and a free one
pub bound : (new : ℕ → ℕ) (d k : ℕ) → k < d → renumbered_term new d (Var k) ≡ Var k
bound new d k h = rw (renumbered_term-Var, lt-ltb k d h) refl

pub free : (new : ℕ → ℕ) (d k : ℕ) → d ≤ k → renumbered_term new d (Var k) ≡ Var (new (k - d) + d)
free new d k h = rw (renumbered_term-Var, le-ltb k d h) refl

-- by equal numbers
module _ (f g : ℕ → ℕ) (e : (k : ℕ) → f k ≡ g k) where
  same_number : (d k : ℕ) → renumbered_term f d (Var k) ≡ renumbered_term g d (Var k)
  same_number d k =
      elim (below_or_above k d) [
        | inl h ↦ bound f d k h ∙ sym (bound g d k h)
        | inr h ↦ free f d k h ∙ (ap (λ n. Var (n + d)) (e (k - d)) ∙ sym (free g d k h))
      ]

  pub same_numbers : (a : Form) (d : ℕ) → renumbered f d a ≡ renumbered g d a
  same_numbers = same_forms _ _ _ _ (renumbering f) (renumbering g) (λ d. same_terms _ _ (renumbering_term f d) (renumbering_term g d) (same_number d))

-- by their own numbers
own_number : (d k : ℕ) → renumbered_term (λ n. n) d (Var k) ≡ Var k
own_number d k =
    elim (below_or_above k d) [
      | inl h ↦ bound (λ n. n) d k h
      | inr h ↦ let same : k - d + d ≡ k = omega arith in free (λ n. n) d k h ∙ ap Var same
    ]

pub own_numbers : (a : Form) (d : ℕ) → renumbered (λ n. n) d a ≡ a
own_numbers = same_forms _ _ _ _ (renumbering (λ n. n)) staying (λ d. same_terms _ _ (renumbering_term (λ n. n) d) staying_term (own_number d))

pub itself : (f : ℕ → ℕ) → ((k : ℕ) → f k ≡ k) → (a : Form) (d : ℕ) → renumbered f d a ≡ a
itself f e a d = same_numbers f (λ n. n) e a d ∙ own_numbers a d

-- one renumbering after another
module _ (f g : ℕ → ℕ) where
  twice_number : (d k : ℕ) → renumbered_term f d (renumbered_term g d (Var k)) ≡ renumbered_term (λ n. f (g n)) d (Var k)
  twice_number d k =
      elim (below_or_above k d) [
        | inl h ↦ rw (bound g d k h, bound f d k h) (sym (bound (λ n. f (g n)) d k h))
        | inr h ↦
            let same : g (k - d) + d - d ≡ g (k - d) = omega arith in
            rw (free g d k h, free f d (g (k - d) + d) (omega arith), same) (sym (free (λ n. f (g n)) d k h))
      ]

  pub twice : (a : Form) (d : ℕ) → renumbered f d (renumbered g d a) ≡ renumbered (λ n. f (g n)) d a
  twice = same_forms _ _ _ _ (both_walks _ _ _ _ (renumbering f) (renumbering g)) (renumbering (λ n. f (g n))) (λ d. same_terms _ _ (both_terms _ _ (renumbering_term f d) (renumbering_term g d)) (renumbering_term (λ n. f (g n)) d) (twice_number d))

-- the number of a variable that is lifted
abbrev pub lift_number : ℕ → ℕ → ℕ → ℕ
lift_number by n k = if nat_lt k n then k else k + by

pub lift_below : (by n k : ℕ) → k < n → lift_number by n k ≡ k
lift_below by n k h = rw (lt-ltb k n h) refl

pub lift_above : (by n k : ℕ) → n ≤ k → lift_number by n k ≡ k + by
lift_above by n k h = rw (le-ltb k n h) refl

module _ (by n : ℕ) where
  lift_one : (d k : ℕ) → lifted_term by (n + d) (Var k) ≡ renumbered_term (lift_number by n) d (Var k)
  lift_one d k =
      elim (below_or_above k d) [
        | inl h ↦ stays by (n + d) k (omega arith) ∙ sym (bound (lift_number by n) d k h)
        | inr h ↦
            elim (below_or_above k (n + d)) [
              | inl g ↦
                  let same : k - d + d ≡ k = omega arith in
                  let less : k - d < n = omega arith in
                  stays by (n + d) k g ∙ sym (free (lift_number by n) d k h ∙ (ap (λ m. Var (m + d)) (lift_below by n (k - d) less) ∙ ap Var same))
              | inr g ↦
                  let same : k - d + by + d ≡ k + by = omega arith in
                  let more : n ≤ k - d = omega arith in
                  moves by (n + d) k g ∙ sym (free (lift_number by n) d k h ∙ (ap (λ m. Var (m + d)) (lift_above by n (k - d) more) ∙ ap Var same))
            ]
      ]

  lift_all : (a : Form) (d : ℕ) → lifted by (n + d) a ≡ renumbered (lift_number by n) d a
  lift_all = same_forms _ _ _ _ (lifting by (λ d. n + d) (λ d. omega arith)) (renumbering (lift_number by n)) (λ d. same_terms _ _ (lifting_term by (n + d)) (renumbering_term (lift_number by n) d) (lift_one d))

  -- a lift is a renumbering
  pub lift_is : (a : Form) → lifted by n a ≡ renumbered (lift_number by n) 0 a
  lift_is a = let same : n + 0 ≡ n = omega arith in (rw same at (lift_all a 0))

-- Renumbering goes through nodes.
module _ (f : ℕ → Term → Term) (w : ℕ → Form → Form) (walk : FormWalk f w) (d : ℕ) where
  pub members_walk : (g : Bool) (a : Form) → members_of g (w d a) ≡ map (w d) (members_of g a)
  members_walk true = form_induction _ (record {
    atom = λ p ts. rw (walk.atom, members_of-Atom, members_of-Atom) (ap (λ b. b ∷ []) (sym (walk.atom d p ts)));
    eq = λ l r. rw (walk.eq, members_of-Eq, members_of-Eq) (ap (λ b. b ∷ []) (sym (walk.eq d l r)));
    not = λ a ih. rw (walk.not, members_of-Not, members_of-Not) (ap (λ b. b ∷ []) (sym (walk.not d a)));
    and = λ as_ ih. rw (walk.and, members_of-And-true, members_of-And-true) refl;
    or = λ as_ ih. rw (walk.or, members_of-Or-true, members_of-Or-true) (ap (λ b. b ∷ []) (sym (walk.or d as_)));
    imp = λ a b ih jh. rw (walk.imp, members_of-Imp, members_of-Imp) (ap (λ b. b ∷ []) (sym (walk.imp d a b)));
    iff = λ a b ih jh. rw (walk.iff, members_of-Iff, members_of-Iff) (ap (λ b. b ∷ []) (sym (walk.iff d a b)));
    all = λ s a ih. rw (walk.all, members_of-All, members_of-All) (ap (λ b. b ∷ []) (sym (walk.all d s a)));
    ex = λ s a ih. rw (walk.ex, members_of-Ex, members_of-Ex) (ap (λ b. b ∷ []) (sym (walk.ex d s a)));
  })
  members_walk false = form_induction _ (record {
    atom = λ p ts. rw (walk.atom, members_of-Atom, members_of-Atom) (ap (λ b. b ∷ []) (sym (walk.atom d p ts)));
    eq = λ l r. rw (walk.eq, members_of-Eq, members_of-Eq) (ap (λ b. b ∷ []) (sym (walk.eq d l r)));
    not = λ a ih. rw (walk.not, members_of-Not, members_of-Not) (ap (λ b. b ∷ []) (sym (walk.not d a)));
    and = λ as_ ih. rw (walk.and, members_of-And-false, members_of-And-false) (ap (λ b. b ∷ []) (sym (walk.and d as_)));
    or = λ as_ ih. rw (walk.or, members_of-Or-false, members_of-Or-false) refl;
    imp = λ a b ih jh. rw (walk.imp, members_of-Imp, members_of-Imp) (ap (λ b. b ∷ []) (sym (walk.imp d a b)));
    iff = λ a b ih jh. rw (walk.iff, members_of-Iff, members_of-Iff) (ap (λ b. b ∷ []) (sym (walk.iff d a b)));
    all = λ s a ih. rw (walk.all, members_of-All, members_of-All) (ap (λ b. b ∷ []) (sym (walk.all d s a)));
    ex = λ s a ih. rw (walk.ex, members_of-Ex, members_of-Ex) (ap (λ b. b ∷ []) (sym (walk.ex d s a)));
  })

  empty_map : (as_ : List Form) → is_empty_list (map (w d) as_) ≡ is_empty_list as_
  empty_map [] = refl
  empty_map (a ∷ as_) = refl

  pub ends_walk : (g : Bool) (a : Form) → ends g (w d a) ≡ ends g a
  ends_walk true = form_induction _ (record {
    atom = λ p ts. rw (walk.atom, ends-Atom, ends-Atom) refl;
    eq = λ l r. rw (walk.eq, ends-Eq, ends-Eq) refl;
    not = λ a ih. rw (walk.not, ends-Not, ends-Not) refl;
    and = λ as_ ih. rw (walk.and, ends-And-true, ends-And-true) refl;
    or = λ as_ ih. rw (walk.or, ends-Or-true, ends-Or-true) (empty_map as_);
    imp = λ a b ih jh. rw (walk.imp, ends-Imp, ends-Imp) refl;
    iff = λ a b ih jh. rw (walk.iff, ends-Iff, ends-Iff) refl;
    all = λ s a ih. rw (walk.all, ends-All, ends-All) refl;
    ex = λ s a ih. rw (walk.ex, ends-Ex, ends-Ex) refl;
  })
  ends_walk false = form_induction _ (record {
    atom = λ p ts. rw (walk.atom, ends-Atom, ends-Atom) refl;
    eq = λ l r. rw (walk.eq, ends-Eq, ends-Eq) refl;
    not = λ a ih. rw (walk.not, ends-Not, ends-Not) refl;
    and = λ as_ ih. rw (walk.and, ends-And-false, ends-And-false) (empty_map as_);
    or = λ as_ ih. rw (walk.or, ends-Or-false, ends-Or-false) refl;
    imp = λ a b ih jh. rw (walk.imp, ends-Imp, ends-Imp) refl;
    iff = λ a b ih jh. rw (walk.iff, ends-Iff, ends-Iff) refl;
    all = λ s a ih. rw (walk.all, ends-All, ends-All) refl;
    ex = λ s a ih. rw (walk.ex, ends-Ex, ends-Ex) refl;
  })

  pub node_walk : (g : Bool) (as_ : List Form) → w d (node g as_) ≡ node g (map (w d) as_)
  node_walk true as_ = walk.and d as_
  node_walk false as_ = walk.or d as_

  alone_walk : (g : Bool) (as_ : List Form) → w d (alone g as_) ≡ alone g (map (w d) as_)
  alone_walk g [] = node_walk g []
  alone_walk g (a ∷ []) = refl
  alone_walk g (a ∷ b ∷ as_) = node_walk g (a ∷ b ∷ as_)

  any_walk : (g : Bool) (as_ : List Form) → list_any (ends g) (map (w d) as_) ≡ list_any (ends g) as_
  any_walk g [] = refl
  any_walk g (a ∷ as_) = rw (ends_walk g a, any_walk g as_) refl

  flat_walk : (g : Bool) (as_ : List Form) → flat_map (members_of g) (map (w d) as_) ≡ map (w d) (flat_map (members_of g) as_)
  flat_walk g [] = refl
  flat_walk g (a ∷ as_) =
      flat_map-cons (members_of g) (w d a) (map (w d) as_)
      ∙ (rw (members_walk g a, flat_walk g as_) (sym (ap (map (w d)) (flat_map-cons (members_of g) a as_) ∙ map-append (w d) (members_of g a) (flat_map (members_of g) as_))))

  either : (b : Bool) → (b ≡ true) ⊎ (b ≡ false)
  either true = inl refl
  either false = inr refl

  joined_walk : (g : Bool) (as_ : List Form) → w d (joined_flat g as_) ≡ joined_flat g (map (w d) as_)
  joined_walk g as_ =
      elim (either (list_any (ends g) as_)) [
        | inl e ↦ rw (joined_flat-ended g as_ e, joined_flat-ended g (map (w d) as_) (any_walk g as_ ∙ e)) (node_walk (not g) [])
        | inr e ↦ rw (joined_flat-alone g as_ e, joined_flat-alone g (map (w d) as_) (any_walk g as_ ∙ e)) (alone_walk g as_)
      ]

  -- and through joined nodes
  pub join_walk : (g : Bool) (as_ : List Form) → w d (join g as_) ≡ join g (map (w d) as_)
  join_walk g as_ = joined_walk g (flat_map (members_of g) as_) ∙ ap (joined_flat g) (sym (flat_walk g as_))
