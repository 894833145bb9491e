-- Lemmas on what specs/Flat defines.
use Rattle.std.specs.Prelude.{ℕ, ◌≡◌, Bool, true, false, List, [], ◌∷◌, length, map, ◌+◌, refl}
use Rattle.std.specs.List.{AllByRecursion}
use Rattle.std.proofs.Common.{ap, ◌∙◌, arith}
use Rattle.fof_terms.proofs.Induction.{form_induction}
use Rattle.fof_terms.proofs.Trees.{fold-Atom, fold-Eq, fold-Not, fold-And, fold-Or, fold-Imp, fold-Iff, fold-All, fold-Ex}
use Rattle.fof_terms.specs.declared.term.Term.{Term}
use Rattle.fof_terms.specs.declared.form.Form.{Form, Atom, Eq, Not, And, Or, Imp, Iff, All, Ex}
use Rattle.clause_form.specs.Norm.{node, join}
use Rattle.flat_form.specs.Flat.{Pulled, kept, whole_of, sorts_of, bodies_of, pull_step, pulled}
use Rattle.fof_terms.specs.declared.form.Form.TheOpen as form

-- The equations of this word.
pub pulled-Atom : (p : ℕ) (ts : List Term) → pulled (Atom p ts) ≡ kept (Atom p ts)
unfolding pulled
pulled-Atom p ts = fold-Atom Pulled pull_step p ts

pub pulled-Eq : (l r : Term) → pulled (Eq l r) ≡ kept (Eq l r)
unfolding pulled
pulled-Eq l r = fold-Eq Pulled pull_step l r

pub pulled-Not : (a : Form) → pulled (Not a) ≡ pull_step (form.Not (pulled a))
unfolding pulled
pulled-Not a = fold-Not Pulled pull_step a

pub pulled-And : (as_ : List Form) → pulled (And as_) ≡ pull_step (form.And (map pulled as_))
unfolding pulled
pulled-And as_ = fold-And Pulled pull_step as_

pub pulled-Or : (as_ : List Form) → pulled (Or as_) ≡ pull_step (form.Or (map pulled as_))
unfolding pulled
pulled-Or as_ = fold-Or Pulled pull_step as_

pub pulled-Imp : (a b : Form) → pulled (Imp a b) ≡ pull_step (form.Imp (pulled a) (pulled b))
unfolding pulled
pulled-Imp a b = fold-Imp Pulled pull_step a b

pub pulled-Iff : (a b : Form) → pulled (Iff a b) ≡ pull_step (form.Iff (pulled a) (pulled b))
unfolding pulled
pulled-Iff a b = fold-Iff Pulled pull_step a b

pub pulled-All : (s : ℕ) (a : Form) → pulled (All s a) ≡ pull_step (form.All s (pulled a))
unfolding pulled
pulled-All s a = fold-All Pulled pull_step s a

pub pulled-Ex : (s : ℕ) (a : Form) → pulled (Ex s a) ≡ pull_step (form.Ex s (pulled a))
unfolding pulled
pulled-Ex s a = fold-Ex Pulled pull_step s a

wholes : (as_ : List Form) → AllByRecursion (λ a. (pulled a).whole ≡ a) as_ → map whole_of (map pulled as_) ≡ as_
wholes [] all = refl
wholes (a ∷ as_) all = rw (all.0, wholes as_ all.1) refl

-- the formula itself
pub pulled_whole : (a : Form) → (pulled a).whole ≡ a
pulled_whole = form_induction _ (record {
  atom = λ p ts. rw (pulled-Atom p ts) refl;
  eq = λ l r. rw (pulled-Eq l r) refl;
  not = λ a ih. rw (pulled-Not a) (ap Not ih);
  and = λ as_ all. rw (pulled-And as_) (ap And (wholes as_ all));
  or = λ as_ all. rw (pulled-Or as_) (ap Or (wholes as_ all));
  imp = λ a b ih jh. rw (pulled-Imp a b, ih, jh) refl;
  iff = λ a b ih jh. rw (pulled-Iff a b, ih, jh) refl;
  all = λ s a ih. rw (pulled-All s a) (ap (All s) ih);
  ex = λ s a ih. rw (pulled-Ex s a) (ap (Ex s) ih);
})

-- nothing is pulled out of these
pub kept-Not : (a : Form) → pulled (Not a) ≡ kept (Not a)
kept-Not a = pulled-Not a ∙ ap (λ b. kept (Not b)) (pulled_whole a)

pub kept-Imp : (a b : Form) → pulled (Imp a b) ≡ kept (Imp a b)
kept-Imp a b = rw (pulled-Imp a b, pulled_whole a, pulled_whole b) refl

pub kept-Iff : (a b : Form) → pulled (Iff a b) ≡ kept (Iff a b)
kept-Iff a b = rw (pulled-Iff a b, pulled_whole a, pulled_whole b) refl

pub kept-Ex : (s : ℕ) (a : Form) → pulled (Ex s a) ≡ kept (Ex s a)
kept-Ex s a = pulled-Ex s a ∙ ap (λ b. kept (Ex s b)) (pulled_whole a)

-- what is pulled out of a node, and out of a universal quantifier
pub node_sorts : (g : Bool) (as_ : List Form) → (pulled (node g as_)).sorts ≡ sorts_of (map pulled as_)
node_sorts true as_ = ap (λ (p : Pulled). p.sorts) (pulled-And as_)
node_sorts false as_ = ap (λ (p : Pulled). p.sorts) (pulled-Or as_)

pub node_body : (g : Bool) (as_ : List Form) → (pulled (node g as_)).body ≡ join g (bodies_of 0 (map pulled as_))
node_body true as_ = ap (λ (p : Pulled). p.body) (pulled-And as_)
node_body false as_ = ap (λ (p : Pulled). p.body) (pulled-Or as_)

pub all_sorts : (s : ℕ) (a : Form) → (pulled (All s a)).sorts ≡ s ∷ (pulled a).sorts
all_sorts s a = ap (λ (p : Pulled). p.sorts) (pulled-All s a)

pub all_body : (s : ℕ) (a : Form) → (pulled (All s a)).body ≡ (pulled a).body
all_body s a = ap (λ (p : Pulled). p.body) (pulled-All s a)

-- How many are pulled out, kind by kind.
none_of : (a : Form) → pulled a ≡ kept a → length (pulled a).sorts ≡ 0
none_of a e = ap (λ (p : Pulled). length p.sorts) e

pub count-Atom : (p : ℕ) (ts : List Term) → length (pulled (Atom p ts)).sorts ≡ 0
count-Atom p ts = none_of (Atom p ts) (pulled-Atom p ts)

pub count-Eq : (l r : Term) → length (pulled (Eq l r)).sorts ≡ 0
count-Eq l r = none_of (Eq l r) (pulled-Eq l r)

pub count-Not : (a : Form) → length (pulled (Not a)).sorts ≡ 0
count-Not a = none_of (Not a) (kept-Not a)

pub count-And : (as_ : List Form) → length (pulled (And as_)).sorts ≡ length (sorts_of (map pulled as_))
count-And as_ = ap length (node_sorts true as_)

pub count-Or : (as_ : List Form) → length (pulled (Or as_)).sorts ≡ length (sorts_of (map pulled as_))
count-Or as_ = ap length (node_sorts false as_)

pub count-Imp : (a b : Form) → length (pulled (Imp a b)).sorts ≡ 0
count-Imp a b = none_of (Imp a b) (kept-Imp a b)

pub count-Iff : (a b : Form) → length (pulled (Iff a b)).sorts ≡ 0
count-Iff a b = none_of (Iff a b) (kept-Iff a b)

pub count-All : (s : ℕ) (a : Form) → length (pulled (All s a)).sorts ≡ length (pulled a).sorts + 1
count-All s a = ap length (all_sorts s a) ∙ (omega arith)

pub count-Ex : (s : ℕ) (a : Form) → length (pulled (Ex s a)).sorts ≡ 0
count-Ex s a = none_of (Ex s a) (kept-Ex s a)

pub ruleset count_equations = (count-Atom, count-Eq, count-Not, count-And, count-Or, count-Imp, count-Iff, count-All, count-Ex)

pub ruleset kept_equations = (pulled-Atom, pulled-Eq, kept-Not, kept-Imp, kept-Iff, kept-Ex)
