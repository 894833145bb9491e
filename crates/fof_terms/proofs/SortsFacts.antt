-- Lemmas on what specs/Sorts defines.
use Rattle.std.specs.Prelude.{ℕ, ◌≡◌, ◌+◌, ◌<◌, ◌≤◌, ◌==◌, nat_lt, max, Bool, true, false, ◌&&◌, List, [], ◌∷◌, length, map, slice_get, Option, Some, None}
use Rattle.std.specs.List.{list_all, AllByRecursion}
use Rattle.fof_terms.specs.Lift.{greatest}
use Rattle.fof_terms.specs.Vocabulary.{Vocabulary}
use Rattle.fof_terms.specs.declared.signature.Symbol.{Symbol}
use Rattle.fof_terms.specs.declared.signature.Kind.{Kind}
use Rattle.fof_terms.specs.declared.signature.Kind.TheVariants.{Function, Predicate}
use Rattle.std.proofs.Common.{ap, ◌∙◌}
use Rattle.std.proofs.lemmas.List.Folds.{list_all-map}
use Rattle.fof_terms.proofs.Trees.{fold-Var, fold-App, fold-Atom, fold-Eq, fold-Not, fold-And, fold-Or, fold-Imp, fold-Iff, fold-All, fold-Ex}
use Rattle.fof_terms.specs.declared.term.Term.{Term, Var, App}
use Rattle.fof_terms.specs.declared.term.Term.TheFolds.{fold-Term}
use Rattle.fof_terms.specs.declared.form.Form.{Form, Atom, Eq, Not, And, Or, Imp, Iff, All, Ex}
use Rattle.fof_terms.specs.declared.form.Form.TheFolds.{fold-Form}
use Rattle.fof_terms.specs.Sorts.{one_sort, applied, holds_of, sort_step, sort_of_term, sorted_step, is_sorted, depth_step, binder_depth}
use Rattle.fof_terms.specs.declared.term.Term.TheOpen as term
use Rattle.fof_terms.specs.declared.form.Form.TheOpen as form

-- The equations of these words.
pub sort_of_term-Var : (v : Vocabulary) (scope : List ℕ) (k : ℕ) → sort_of_term v scope (Var k) ≡ slice_get scope k
unfolding sort_of_term
sort_of_term-Var v scope k = fold-Var (Option ℕ) (sort_step v scope) k

pub sort_of_term-App : (v : Vocabulary) (scope : List ℕ) (f : ℕ) (ts : List Term) → sort_of_term v scope (App f ts) ≡ applied (slice_get v.symbols f) (map (sort_of_term v scope) ts)
unfolding sort_of_term
sort_of_term-App v scope f ts = fold-App (Option ℕ) (sort_step v scope) f ts

pub is_sorted-Atom : (v : Vocabulary) (scope : List ℕ) (p : ℕ) (ts : List Term) → is_sorted v scope (Atom p ts) ≡ holds_of (slice_get v.symbols p) (map (sort_of_term v scope) ts)
unfolding is_sorted
is_sorted-Atom v scope p ts = ap (λ g. g scope) (fold-Atom (List ℕ → Bool) (sorted_step v) p ts)

pub is_sorted-Eq : (v : Vocabulary) (scope : List ℕ) (l r : Term) → is_sorted v scope (Eq l r) ≡ one_sort (sort_of_term v scope l) (sort_of_term v scope r)
unfolding is_sorted
is_sorted-Eq v scope l r = ap (λ g. g scope) (fold-Eq (List ℕ → Bool) (sorted_step v) l r)

pub is_sorted-Not : (v : Vocabulary) (scope : List ℕ) (a : Form) → is_sorted v scope (Not a) ≡ is_sorted v scope a
unfolding is_sorted
is_sorted-Not v scope a = ap (λ g. g scope) (fold-Not (List ℕ → Bool) (sorted_step v) a)

pub is_sorted-And : (v : Vocabulary) (scope : List ℕ) (as_ : List Form) → is_sorted v scope (And as_) ≡ list_all (is_sorted v scope) as_
unfolding is_sorted
is_sorted-And v scope as_ = ap (λ g. g scope) (fold-And (List ℕ → Bool) (sorted_step v) as_) ∙ list_all-map (λ a. a scope) _ as_

pub is_sorted-Or : (v : Vocabulary) (scope : List ℕ) (as_ : List Form) → is_sorted v scope (Or as_) ≡ list_all (is_sorted v scope) as_
unfolding is_sorted
is_sorted-Or v scope as_ = ap (λ g. g scope) (fold-Or (List ℕ → Bool) (sorted_step v) as_) ∙ list_all-map (λ a. a scope) _ as_

pub is_sorted-Imp : (v : Vocabulary) (scope : List ℕ) (a b : Form) → is_sorted v scope (Imp a b) ≡ (is_sorted v scope a && is_sorted v scope b)
unfolding is_sorted
is_sorted-Imp v scope a b = ap (λ g. g scope) (fold-Imp (List ℕ → Bool) (sorted_step v) a b)

pub is_sorted-Iff : (v : Vocabulary) (scope : List ℕ) (a b : Form) → is_sorted v scope (Iff a b) ≡ (is_sorted v scope a && is_sorted v scope b)
unfolding is_sorted
is_sorted-Iff v scope a b = ap (λ g. g scope) (fold-Iff (List ℕ → Bool) (sorted_step v) a b)

pub is_sorted-All : (v : Vocabulary) (scope : List ℕ) (s : ℕ) (a : Form) → is_sorted v scope (All s a) ≡ (nat_lt s (length v.sorts) && is_sorted v (s ∷ scope) a)
unfolding is_sorted
is_sorted-All v scope s a = ap (λ g. g scope) (fold-All (List ℕ → Bool) (sorted_step v) s a)

pub is_sorted-Ex : (v : Vocabulary) (scope : List ℕ) (s : ℕ) (a : Form) → is_sorted v scope (Ex s a) ≡ (nat_lt s (length v.sorts) && is_sorted v (s ∷ scope) a)
unfolding is_sorted
is_sorted-Ex v scope s a = ap (λ g. g scope) (fold-Ex (List ℕ → Bool) (sorted_step v) s a)

pub ruleset is_sorted_equations = (is_sorted-Atom, is_sorted-Eq, is_sorted-Not, is_sorted-And, is_sorted-Or, is_sorted-Imp, is_sorted-Iff, is_sorted-All, is_sorted-Ex)

pub binder_depth-Atom : (p : ℕ) (ts : List Term) → binder_depth (Atom p ts) ≡ 0
unfolding binder_depth
binder_depth-Atom p ts = fold-Atom (ℕ) (depth_step) p ts

pub binder_depth-Eq : (l r : Term) → binder_depth (Eq l r) ≡ 0
unfolding binder_depth
binder_depth-Eq l r = fold-Eq (ℕ) (depth_step) l r

pub binder_depth-Not : (a : Form) → binder_depth (Not a) ≡ binder_depth a
unfolding binder_depth
binder_depth-Not a = fold-Not (ℕ) (depth_step) a

pub binder_depth-And : (as_ : List Form) → binder_depth (And as_) ≡ greatest (map binder_depth as_)
unfolding binder_depth
binder_depth-And as_ = fold-And (ℕ) (depth_step) as_

pub binder_depth-Or : (as_ : List Form) → binder_depth (Or as_) ≡ greatest (map binder_depth as_)
unfolding binder_depth
binder_depth-Or as_ = fold-Or (ℕ) (depth_step) as_

pub binder_depth-Imp : (a b : Form) → binder_depth (Imp a b) ≡ max (binder_depth a) (binder_depth b)
unfolding binder_depth
binder_depth-Imp a b = fold-Imp (ℕ) (depth_step) a b

pub binder_depth-Iff : (a b : Form) → binder_depth (Iff a b) ≡ max (binder_depth a) (binder_depth b)
unfolding binder_depth
binder_depth-Iff a b = fold-Iff (ℕ) (depth_step) a b

pub binder_depth-All : (s : ℕ) (a : Form) → binder_depth (All s a) ≡ binder_depth a + 1
unfolding binder_depth
binder_depth-All s a = fold-All (ℕ) (depth_step) s a

pub binder_depth-Ex : (s : ℕ) (a : Form) → binder_depth (Ex s a) ≡ binder_depth a + 1
unfolding binder_depth
binder_depth-Ex s a = fold-Ex (ℕ) (depth_step) s a

pub ruleset binder_depth_equations = (binder_depth-Atom, binder_depth-Eq, binder_depth-Not, binder_depth-And, binder_depth-Or, binder_depth-Imp, binder_depth-Iff, binder_depth-All, binder_depth-Ex)

pub ruleset sort_equations = (sort_of_term-Var, sort_of_term-App, is_sorted_equations, binder_depth_equations)
