-- What is pulled out has no more binders inside each other than the formula.
use Rattle.std.specs.Prelude.{ℕ, ◌≡◌, ◌+◌, ◌≤◌, Bool, true, false, List, [], ◌∷◌, length, map}
use Rattle.std.specs.List.{AllByRecursion}
use Rattle.std.proofs.Common.{ap, sym, subst, ◌∙◌, arith}
use Rattle.fof_terms.specs.declared.form.Form.{Form}
use Rattle.fof_terms.specs.Lift.{greatest, lifted}
use Rattle.fof_terms.specs.Sorts.{binder_depth}
use Rattle.fof_terms.proofs.SortsFacts.{binder_depth-And, binder_depth-Or, binder_depth-All}
use Rattle.fof_terms.proofs.Induction.{form_induction}
use Rattle.fof_terms.proofs.Walks.{same_depth, lifting}
use Rattle.clause_form.proofs.Joined.{Memberwise, join_keeps}
use Rattle.clause_form.specs.Norm.{node}
use Rattle.flat_form.specs.Flat.{Pulled, kept, sorts_of, bodies_of, pulled}
use Rattle.flat_form.proofs.PulledFacts.{pulled-Atom, pulled-Eq, kept-Not, kept-Imp, kept-Iff, kept-Ex, node_body, all_body}

abbrev Within : ℕ → Form → Type 0
Within n a = binder_depth a ≤ n

most : (n : ℕ) (as_ : List Form) → AllByRecursion (Within n) as_ → greatest (map binder_depth as_) ≤ n
most n [] h = omega arith
most n (a ∷ as_) h = omega (arith, h.0, most n as_ h.1)

each : (n : ℕ) (as_ : List Form) → greatest (map binder_depth as_) ≤ n → AllByRecursion (Within n) as_
each n [] h = tt
each n (a ∷ as_) h = (omega arith, each n as_ (omega arith))

within_nodes : (n : ℕ) → Memberwise (Within n)
within_nodes n = record { make = make; take = take } where
  make : (g : Bool) (as_ : List Form) → AllByRecursion (Within n) as_ → Within n (node g as_)
  make true as_ h = rw binder_depth-And (most n as_ h)
  make false as_ h = rw binder_depth-Or (most n as_ h)

  take : (g : Bool) (as_ : List Form) → Within n (node g as_) → AllByRecursion (Within n) as_
  take true as_ h = each n as_ (rw binder_depth-And at h)
  take false as_ h = each n as_ (rw binder_depth-Or at h)

depth_lifted : (by n : ℕ) (a : Form) → binder_depth (lifted by n a) ≡ binder_depth a
depth_lifted by n a = let same : n + 0 ≡ n = omega arith in (rw same at (same_depth _ _ (lifting by (λ d. n + d) (λ d. omega arith)) a 0))

bodies_within : (n f : ℕ) (as_ : List Form) → AllByRecursion (λ a. binder_depth (pulled a).body ≤ binder_depth a) as_ → AllByRecursion (Within n) as_ → AllByRecursion (Within n) (bodies_of f (map pulled as_))
bodies_within n f [] all h = tt
bodies_within n f (a ∷ as_) all h =
    let p = pulled a in
    let same = depth_lifted (length (sorts_of (map pulled as_))) 0 (lifted f (length p.sorts) p.body) ∙ depth_lifted f (length p.sorts) p.body in
    (omega (arith, same, all.0, h.0), bodies_within n (f + length p.sorts) as_ all.1 h.1)

node_case : (g : Bool) (as_ : List Form) → AllByRecursion (λ a. binder_depth (pulled a).body ≤ binder_depth a) as_ → binder_depth (pulled (node g as_)).body ≤ binder_depth (node g as_)
node_case g as_ all =
    let n = binder_depth (node g as_) in
    subst (Within n) (sym (node_body g as_)) (join_keeps (Within n) (within_nodes n) g (bodies_of 0 (map pulled as_)) (bodies_within n 0 as_ all ((within_nodes n).take g as_ (omega arith))))

kept_case : (a : Form) → pulled a ≡ kept a → binder_depth (pulled a).body ≤ binder_depth a
kept_case a e = let same = ap (λ (p : Pulled). binder_depth p.body) e in omega arith

pub body_depth : (a : Form) → binder_depth (pulled a).body ≤ binder_depth a
body_depth = form_induction _ (record {
  atom = λ p ts. kept_case _ (pulled-Atom p ts);
  eq = λ l r. kept_case _ (pulled-Eq l r);
  not = λ a ih. kept_case _ (kept-Not a);
  and = node_case true;
  or = node_case false;
  imp = λ a b ih jh. kept_case _ (kept-Imp a b);
  iff = λ a b ih jh. kept_case _ (kept-Iff a b);
  all = λ s a ih. let same = ap binder_depth (all_body s a) in omega (arith, binder_depth-All s a, ih);
  ex = λ s a ih. kept_case _ (kept-Ex s a);
})
