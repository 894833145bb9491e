-- The distances that arise where a dropped variable's place is filled.
use Rattle.std.specs.Prelude.{ℕ, ◌+◌, ◌≤◌, List, [], ◌∷◌, map}
use Rattle.std.specs.List.{AllByRecursion}
use Rattle.std.proofs.Common.{arith}
use Rattle.std.proofs.lemmas.Bool.Decides.{nat_tests}
use Rattle.fof_terms.specs.declared.term.Term.{Term, Var}
use Rattle.fof_terms.specs.declared.form.Form.{Form}
use Rattle.fof_terms.specs.Lift.{greatest, lift_term_reach}
use Rattle.fof_terms.proofs.LiftFacts.{lift_term_reach-Var}
use Rattle.fof_terms.specs.Instance.{instance_term_reach, instance_reach}
use Rattle.fof_terms.proofs.InstanceFacts.{instance_term_reach-Var, instance_term_reach-App, instance_reach-Atom, instance_reach-Eq, instance_reach-Not, instance_reach-And, instance_reach-Or, instance_reach-Imp, instance_reach-Iff, instance_reach-All, instance_reach-Ex}
use Rattle.fof_terms.specs.Sorts.{binder_depth}
use Rattle.fof_terms.proofs.SortsFacts.{binder_depth-Atom, binder_depth-Eq, binder_depth-Not, binder_depth-And, binder_depth-Or, binder_depth-Imp, binder_depth-Iff, binder_depth-All, binder_depth-Ex}
use Rattle.fof_terms.proofs.Induction.{term_induction, form_induction}

most : {X : Type 0} (f : X → ℕ) (n : ℕ) (xs : List X) → AllByRecursion (λ x. f x ≤ n) xs → greatest (map f xs) ≤ n
most f n [] h = omega arith
most f n (x ∷ xs) h = omega (arith, h.0, most f n xs h.1)

each : {X : Type 0} (P : X → Type 0) (xs : List X) → ((x : X) → P x) → AllByRecursion P xs
each P [] h = tt
each P (x ∷ xs) h = (h x, each P xs h)

own : (d : ℕ) → lift_term_reach d 0 (Var 0) ≤ d
own d = rw lift_term_reach-Var (grind arith)

term_reach : (d : ℕ) (t : Term) → instance_term_reach (Var 0) d t ≤ d
term_reach d = term_induction _ (record {
  var = λ k. rw instance_term_reach-Var (grind (arith, nat_tests, own d));
  app = λ f ts all. rw instance_term_reach-App (most (instance_term_reach (Var 0) d) d ts all);
})

sum_most : (f : Form → ℕ) (d : ℕ) (as_ : List Form) → AllByRecursion (λ a. (d : ℕ) → instance_reach (Var 0) d a ≤ d + binder_depth a) as_ → greatest (map (instance_reach (Var 0) d) as_) ≤ d + greatest (map binder_depth as_)
sum_most f d [] all = omega arith
sum_most f d (a ∷ as_) all = omega (arith, all.0 d, sum_most f d as_ all.1)

pub place_reach : (a : Form) (d : ℕ) → instance_reach (Var 0) d a ≤ d + binder_depth a
place_reach = form_induction _ (record {
  atom = λ p ts d. rw (instance_reach-Atom, binder_depth-Atom) (omega (arith, most (instance_term_reach (Var 0) d) d ts (each _ ts (term_reach d))));
  eq = λ l r d. rw (instance_reach-Eq, binder_depth-Eq) (omega (arith, term_reach d l, term_reach d r));
  not = λ a ih d. rw (instance_reach-Not, binder_depth-Not) (ih d);
  and = λ as_ all d. rw (instance_reach-And, binder_depth-And) (sum_most binder_depth d as_ all);
  or = λ as_ all d. rw (instance_reach-Or, binder_depth-Or) (sum_most binder_depth d as_ all);
  imp = λ a b ih jh d. rw (instance_reach-Imp, binder_depth-Imp) (omega (arith, ih d, jh d));
  iff = λ a b ih jh d. rw (instance_reach-Iff, binder_depth-Iff) (omega (arith, ih d, jh d));
  all = λ s a ih d. rw (instance_reach-All, binder_depth-All) (omega (arith, ih (d + 1)));
  ex = λ s a ih d. rw (instance_reach-Ex, binder_depth-Ex) (omega (arith, ih (d + 1)));
})
