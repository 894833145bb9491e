-- A formula in which a variable doesn't stand is one that was lifted over it.
use Rattle.std.specs.Prelude.{ℕ, ◌≡◌, ◌+◌, ◌-◌, ◌==◌, ◌||◌, true, false, Bool, List, [], ◌∷◌, map, refl}
use Rattle.std.specs.List.{AllByRecursion, list_any}
use Rattle.std.proofs.Common.{ap, arith, inl, inr}
use Rattle.std.proofs.lemmas.Bool.Decides.{nat_tests}
use Rattle.fof_terms.specs.declared.term.Term.{Term, Var, App}
use Rattle.fof_terms.specs.declared.form.Form.{Form, Atom, Not, And, Or, All, Ex}
use Rattle.fof_terms.proofs.Induction.{term_induction, form_induction}
use Rattle.fof_terms.specs.Lift.{lifted_term, lifted}
use Rattle.fof_terms.specs.Instance.{instance_term, instance_at}
use Rattle.fof_terms.proofs.LiftingLaws.{below_or_above, stays, moves, smaller, greater}
use Rattle.fof_terms.proofs.Walks.{TermWalk, FormWalk, staying, staying_term, lifting, lifting_term, placing, placing_term, both_walks, both_terms}
use Rattle.fof_terms.specs.Variables.{has_in_term, has_variable}
use Rattle.fof_terms.proofs.VariablesFacts.{has_in_term-Var, has_in_term-App, has_variable-Atom, has_variable-Eq, has_variable-Not, has_variable-And, has_variable-Or, has_variable-Imp, has_variable-Iff, has_variable-All, has_variable-Ex}

neither : (a b : Bool) → (a || b) ≡ false → (a ≡ false) × (b ≡ false)
neither true b e = cc
neither false b e = (refl, e)

none_of : {X : Type 0} (f : X → Bool) (xs : List X) → list_any f xs ≡ false → AllByRecursion (λ x. f x ≡ false) xs
none_of f [] e = tt
none_of f (x ∷ xs) e = let parts = neither (f x) (list_any f xs) e in (parts.0, none_of f xs parts.1)

agree_where : {X Y : Type 0} (f g : X → Y) (P : X → Type 0) (xs : List X) → AllByRecursion (λ x. P x → f x ≡ g x) xs → AllByRecursion P xs → map f xs ≡ map g xs
agree_where f g P [] e h = refl
agree_where f g P (x ∷ xs) e h = rw (e.0 h.0, agree_where f g P xs e.1 h.1) refl

each : {X : Type 0} (P : X → Type 0) (xs : List X) → ((x : X) → P x) → AllByRecursion P xs
each P [] h = tt
each P (x ∷ xs) h = (h x, each P xs h)

at : {X I : Type 0} (P : I → X → Type 0) (xs : List X) (i : I) → AllByRecursion (λ x. (i : I) → P i x) xs → AllByRecursion (P i) xs
at P [] i all = tt
at P (x ∷ xs) i all = (all.0 i, at P xs i all.1)

differs : (k n : ℕ) → (k == n) ≡ false → k ≡ n → ⊥
differs k n e s = grind (arith, nat_tests)

-- walks that agree on the variables that stand in a term agree on it
same_term : (f g : Term → Term) (n : ℕ) → TermWalk f → TermWalk g → ((k : ℕ) → (k ≡ n → ⊥) → f (Var k) ≡ g (Var k)) → (t : Term) → has_in_term n t ≡ false → f t ≡ g t
same_term f g n wf wg e = term_induction _ (record {
  var = λ k no. e k (differs k n (rw has_in_term-Var at no));
  app = λ s ts all no. rw (wf.app, wg.app) (ap (App s) (agree_where f g (λ t. has_in_term n t ≡ false) ts all (none_of (has_in_term n) ts (rw has_in_term-App at no))));
})

same_form : (f f' : ℕ → Term → Term) (g g' : ℕ → Form → Form) → FormWalk f g → FormWalk f' g' → ((d : ℕ) (t : Term) → has_in_term d t ≡ false → f d t ≡ f' d t)
    → (a : Form) (d : ℕ) → has_variable d a ≡ false → g d a ≡ g' d a
same_form f f' g g' w w' e = form_induction _ (record {
  atom = λ p ts d no.
      rw (w.atom, w'.atom) (ap (Atom p) (agree_where (f d) (f' d) (λ t. has_in_term d t ≡ false) ts (each _ ts (e d)) (none_of (has_in_term d) ts (rw has_variable-Atom at no))));
  eq = λ l r d no. let parts = neither (has_in_term d l) (has_in_term d r) (rw has_variable-Eq at no) in rw (w.eq, w'.eq, e d l parts.0, e d r parts.1) refl;
  not = λ a ih d no. rw (w.not, w'.not) (ap Not (ih d (rw has_variable-Not at no)));
  and = λ as_ all d no.
      rw (w.and, w'.and) (ap And (agree_where (g d) (g' d) (λ a. has_variable d a ≡ false) as_ (at (λ d a. has_variable d a ≡ false → g d a ≡ g' d a) as_ d all) (none_of (has_variable d) as_ (rw has_variable-And at no))));
  or = λ as_ all d no.
      rw (w.or, w'.or) (ap Or (agree_where (g d) (g' d) (λ a. has_variable d a ≡ false) as_ (at (λ d a. has_variable d a ≡ false → g d a ≡ g' d a) as_ d all) (none_of (has_variable d) as_ (rw has_variable-Or at no))));
  imp = λ a b ih jh d no. let parts = neither (has_variable d a) (has_variable d b) (rw has_variable-Imp at no) in rw (w.imp, w'.imp, ih d parts.0, jh d parts.1) refl;
  iff = λ a b ih jh d no. let parts = neither (has_variable d a) (has_variable d b) (rw has_variable-Iff at no) in rw (w.iff, w'.iff, ih d parts.0, jh d parts.1) refl;
  all = λ s a ih d no. rw (w.all, w'.all) (ap (All s) (ih (d + 1) (rw has_variable-All at no)));
  ex = λ s a ih d no. rw (w.ex, w'.ex) (ap (Ex s) (ih (d + 1) (rw has_variable-Ex at no)));
})

unused_var : (t : Term) (d k : ℕ) → (k ≡ d → ⊥) → lifted_term 1 d (instance_term t d (Var k)) ≡ Var k
unused_var t d k other =
    elim (below_or_above k d) [
      | inl h ↦ rw (smaller t d k h) (stays 1 d k h)
      | inr h ↦
          elim (below_or_above d k) [
            | inl g ↦ let same : k - 1 + 1 ≡ k = omega arith in rw (greater t d k g, moves 1 d (k - 1) (omega arith), same) refl
            | inr g ↦ absurd (other (omega arith))
          ]
    ]

-- an instance at a variable that doesn't stand there, lifted, is the formula
pub unused_back : (t : Term) (a : Form) (d : ℕ) → has_variable d a ≡ false → lifted 1 d (instance_at t d a) ≡ a
unused_back t =
    same_form _ _ _ _
    (both_walks _ _ _ _ (lifting 1 (λ d. d) (λ d. refl)) (placing t (λ d. d) (λ d. refl)))
    staying
    (λ d. same_term _ _ d (both_terms _ _ (lifting_term 1 d) (placing_term t d)) staying_term (unused_var t d))
