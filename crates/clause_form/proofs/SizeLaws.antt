-- A formula has no more binders inside each other than its norm size, and a list no more formulas than their norm sizes.
use Rattle.std.specs.Prelude.{ℕ, ◌≡◌, ◌≤◌, ◌+◌, List, [], ◌∷◌, length, map, sum}
use Rattle.std.specs.List.{AllByRecursion}
use Rattle.std.proofs.Common.{arith}
use Rattle.std.proofs.lemmas.List.Sums.{sum_by-cons}
use Rattle.fof_terms.specs.declared.form.Form.{Form}
use Rattle.fof_terms.specs.Lift.{greatest}
use Rattle.fof_terms.specs.Sorts.{binder_depth}
use Rattle.fof_terms.proofs.SortsFacts.{binder_depth-Atom, binder_depth-Eq, binder_depth-Not, binder_depth-And, binder_depth-Or, binder_depth-Imp, binder_depth-Iff, binder_depth-All, binder_depth-Ex}
use Rattle.fof_terms.proofs.Induction.{form_induction}
use Rattle.clause_form.specs.Sizes.{norm_size_of}
use Rattle.clause_form.proofs.SizesFacts.{norm_size_of-Atom, norm_size_of-Eq, norm_size_of-Not, norm_size_of-And, norm_size_of-Or, norm_size_of-Imp, norm_size_of-Iff, norm_size_of-All, norm_size_of-Ex}

pub sum_cons : (x : ℕ) (xs : List ℕ) → sum (x ∷ xs) ≡ x + sum xs
sum_cons x xs = sum_by-cons (λ x. x) x xs

some_of : (n : ℕ) → 1 ≤ 1 + n
some_of n = omega arith

pub some_size : (a : Form) → 1 ≤ norm_size_of a
some_size = form_induction _ (record {
  atom = λ p ts. rw norm_size_of-Atom (omega arith);
  eq = λ l r. rw norm_size_of-Eq (omega arith);
  not = λ a ih. rw norm_size_of-Not ih;
  and = λ as_ all. rw norm_size_of-And (some_of (sum (map norm_size_of as_)));
  or = λ as_ all. rw norm_size_of-Or (some_of (sum (map norm_size_of as_)));
  imp = λ a b ih jh. rw norm_size_of-Imp (omega arith);
  iff = λ a b ih jh. rw norm_size_of-Iff (omega (arith, ih, jh));
  all = λ s a ih. rw norm_size_of-All (omega arith);
  ex = λ s a ih. rw norm_size_of-Ex (omega arith);
})

-- a list has no more formulas than their sizes are together
pub few_by_size : (as_ : List Form) → length as_ ≤ sum (map norm_size_of as_)
few_by_size [] = omega arith
few_by_size (a ∷ as_) = rw (sum_cons (norm_size_of a) (map norm_size_of as_)) (omega (arith, some_size a, few_by_size as_))

depths_within : (as_ : List Form) → AllByRecursion (λ a. binder_depth a ≤ norm_size_of a) as_ → greatest (map binder_depth as_) ≤ sum (map norm_size_of as_)
depths_within [] all = omega arith
depths_within (a ∷ as_) all = rw (sum_cons (norm_size_of a) (map norm_size_of as_)) (omega (arith, all.0, depths_within as_ all.1))

pub depth_within_size : (a : Form) → binder_depth a ≤ norm_size_of a
depth_within_size = form_induction _ (record {
  atom = λ p ts. rw (binder_depth-Atom, norm_size_of-Atom) (omega arith);
  eq = λ l r. rw (binder_depth-Eq, norm_size_of-Eq) (omega arith);
  not = λ a ih. rw (binder_depth-Not, norm_size_of-Not) ih;
  and = λ as_ all. rw (binder_depth-And, norm_size_of-And) (omega (arith, depths_within as_ all));
  or = λ as_ all. rw (binder_depth-Or, norm_size_of-Or) (omega (arith, depths_within as_ all));
  imp = λ a b ih jh. rw (binder_depth-Imp, norm_size_of-Imp) (omega (arith, ih, jh));
  iff = λ a b ih jh. rw (binder_depth-Iff, norm_size_of-Iff) (omega (arith, ih, jh));
  all = λ s a ih. rw (binder_depth-All, norm_size_of-All) (omega (arith, ih));
  ex = λ s a ih. rw (binder_depth-Ex, norm_size_of-Ex) (omega (arith, ih));
})
