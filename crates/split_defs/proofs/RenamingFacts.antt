-- Lemmas on what specs/code/Renaming defines.
use Rattle.std.specs.Prelude.{ℕ, ◌+◌, ◌-◌, ◌≡◌, ◌||◌, ◌&&◌, Bool, nat_lt, nat_eq, if◌then◌else◌, List, map, length, Option, Some, None, position}
use Rattle.std.specs.List.{list_any, list_all}
use Rattle.std.proofs.Common.{ap, ◌∙◌}
use Rattle.std.proofs.lemmas.Simd.{map-map}
use Rattle.std.proofs.lemmas.List.Folds.{list_all-map}
use Rattle.fof_terms.proofs.Trees.{fold-Var, fold-App, fold-Atom, fold-Eq, fold-Not, fold-And, fold-Or, fold-Imp, fold-Iff, fold-All, fold-Ex}
use Rattle.fof_terms.specs.declared.term.Term.{Term, Var, App}
use Rattle.fof_terms.specs.declared.term.Term.TheFolds.{fold-Term}
use Rattle.fof_terms.specs.declared.form.Form.{Form, Atom, Eq, Not, And, Or, Imp, Iff, All, Ex}
use Rattle.fof_terms.specs.declared.form.Form.TheFolds.{fold-Form}
use Rattle.split_defs.specs.code.Renaming.{argument, rename_term_step, renamed_term, rename_step, renamed, speaks_term_step, speaks_in_term, speaks_step, speaks}
use Rattle.fof_terms.specs.declared.term.Term.TheOpen as term
use Rattle.fof_terms.specs.declared.form.Form.TheOpen as form

-- The equations of these words.
pub renamed_term-Var : (xs : List ℕ) (d k : ℕ) → renamed_term xs d (Var k) ≡ (if nat_lt k d then Var k else Var (argument xs (k - d) + d))
unfolding renamed_term
renamed_term-Var xs d k = fold-Var Term (rename_term_step xs d) k

pub renamed_term-App : (xs : List ℕ) (d f : ℕ) (ts : List Term) → renamed_term xs d (App f ts) ≡ App f (map (renamed_term xs d) ts)
unfolding renamed_term
renamed_term-App xs d f ts = fold-App Term (rename_term_step xs d) f ts

pub renamed-Atom : (xs : List ℕ) (d p : ℕ) (ts : List Term) → renamed xs d (Atom p ts) ≡ Atom p (map (renamed_term xs d) ts)
unfolding renamed
renamed-Atom xs d p ts = ap (λ g. g d) (fold-Atom (ℕ → Form) (rename_step xs) p ts)

pub renamed-Eq : (xs : List ℕ) (d : ℕ) (l r : Term) → renamed xs d (Eq l r) ≡ Eq (renamed_term xs d l) (renamed_term xs d r)
unfolding renamed
renamed-Eq xs d l r = ap (λ g. g d) (fold-Eq (ℕ → Form) (rename_step xs) l r)

pub renamed-Not : (xs : List ℕ) (d : ℕ) (a : Form) → renamed xs d (Not a) ≡ Not (renamed xs d a)
unfolding renamed
renamed-Not xs d a = ap (λ g. g d) (fold-Not (ℕ → Form) (rename_step xs) a)

pub renamed-And : (xs : List ℕ) (d : ℕ) (as_ : List Form) → renamed xs d (And as_) ≡ And (map (renamed xs d) as_)
unfolding renamed
renamed-And xs d as_ = ap (λ g. g d) (fold-And (ℕ → Form) (rename_step xs) as_) ∙ ap And (map-map (λ a. a d) _ as_)

pub renamed-Or : (xs : List ℕ) (d : ℕ) (as_ : List Form) → renamed xs d (Or as_) ≡ Or (map (renamed xs d) as_)
unfolding renamed
renamed-Or xs d as_ = ap (λ g. g d) (fold-Or (ℕ → Form) (rename_step xs) as_) ∙ ap Or (map-map (λ a. a d) _ as_)

pub renamed-Imp : (xs : List ℕ) (d : ℕ) (a b : Form) → renamed xs d (Imp a b) ≡ Imp (renamed xs d a) (renamed xs d b)
unfolding renamed
renamed-Imp xs d a b = ap (λ g. g d) (fold-Imp (ℕ → Form) (rename_step xs) a b)

pub renamed-Iff : (xs : List ℕ) (d : ℕ) (a b : Form) → renamed xs d (Iff a b) ≡ Iff (renamed xs d a) (renamed xs d b)
unfolding renamed
renamed-Iff xs d a b = ap (λ g. g d) (fold-Iff (ℕ → Form) (rename_step xs) a b)

pub renamed-All : (xs : List ℕ) (d s : ℕ) (a : Form) → renamed xs d (All s a) ≡ All s (renamed xs (d + 1) a)
unfolding renamed
renamed-All xs d s a = ap (λ g. g d) (fold-All (ℕ → Form) (rename_step xs) s a)

pub renamed-Ex : (xs : List ℕ) (d s : ℕ) (a : Form) → renamed xs d (Ex s a) ≡ Ex s (renamed xs (d + 1) a)
unfolding renamed
renamed-Ex xs d s a = ap (λ g. g d) (fold-Ex (ℕ → Form) (rename_step xs) s a)

pub ruleset renamed_equations = (renamed_term-Var, renamed_term-App, renamed-Atom, renamed-Eq, renamed-Not, renamed-And, renamed-Or, renamed-Imp, renamed-Iff, renamed-All, renamed-Ex)

pub speaks_in_term-Var : (xs : List ℕ) (d k : ℕ) → speaks_in_term xs d (Var k) ≡ (nat_lt k d || list_any (nat_eq (k - d)) xs)
unfolding speaks_in_term
speaks_in_term-Var xs d k = fold-Var Bool (speaks_term_step xs d) k

pub speaks_in_term-App : (xs : List ℕ) (d f : ℕ) (ts : List Term) → speaks_in_term xs d (App f ts) ≡ list_all (speaks_in_term xs d) ts
unfolding speaks_in_term
speaks_in_term-App xs d f ts = fold-App Bool (speaks_term_step xs d) f ts ∙ list_all-map (λ b. b) _ ts

pub speaks-Atom : (xs : List ℕ) (d p : ℕ) (ts : List Term) → speaks xs d (Atom p ts) ≡ list_all (speaks_in_term xs d) ts
unfolding speaks
speaks-Atom xs d p ts = ap (λ g. g d) (fold-Atom (ℕ → Bool) (speaks_step xs) p ts)

pub speaks-Eq : (xs : List ℕ) (d : ℕ) (l r : Term) → speaks xs d (Eq l r) ≡ (speaks_in_term xs d l && speaks_in_term xs d r)
unfolding speaks
speaks-Eq xs d l r = ap (λ g. g d) (fold-Eq (ℕ → Bool) (speaks_step xs) l r)

pub speaks-Not : (xs : List ℕ) (d : ℕ) (a : Form) → speaks xs d (Not a) ≡ speaks xs d a
unfolding speaks
speaks-Not xs d a = ap (λ g. g d) (fold-Not (ℕ → Bool) (speaks_step xs) a)

pub speaks-And : (xs : List ℕ) (d : ℕ) (as_ : List Form) → speaks xs d (And as_) ≡ list_all (speaks xs d) as_
unfolding speaks
speaks-And xs d as_ = ap (λ g. g d) (fold-And (ℕ → Bool) (speaks_step xs) as_) ∙ list_all-map (λ a. a d) _ as_

pub speaks-Or : (xs : List ℕ) (d : ℕ) (as_ : List Form) → speaks xs d (Or as_) ≡ list_all (speaks xs d) as_
unfolding speaks
speaks-Or xs d as_ = ap (λ g. g d) (fold-Or (ℕ → Bool) (speaks_step xs) as_) ∙ list_all-map (λ a. a d) _ as_

pub speaks-Imp : (xs : List ℕ) (d : ℕ) (a b : Form) → speaks xs d (Imp a b) ≡ (speaks xs d a && speaks xs d b)
unfolding speaks
speaks-Imp xs d a b = ap (λ g. g d) (fold-Imp (ℕ → Bool) (speaks_step xs) a b)

pub speaks-Iff : (xs : List ℕ) (d : ℕ) (a b : Form) → speaks xs d (Iff a b) ≡ (speaks xs d a && speaks xs d b)
unfolding speaks
speaks-Iff xs d a b = ap (λ g. g d) (fold-Iff (ℕ → Bool) (speaks_step xs) a b)

pub speaks-All : (xs : List ℕ) (d s : ℕ) (a : Form) → speaks xs d (All s a) ≡ speaks xs (d + 1) a
unfolding speaks
speaks-All xs d s a = ap (λ g. g d) (fold-All (ℕ → Bool) (speaks_step xs) s a)

pub speaks-Ex : (xs : List ℕ) (d s : ℕ) (a : Form) → speaks xs d (Ex s a) ≡ speaks xs (d + 1) a
unfolding speaks
speaks-Ex xs d s a = ap (λ g. g d) (fold-Ex (ℕ → Bool) (speaks_step xs) s a)

pub ruleset speaks_equations = (speaks_in_term-Var, speaks_in_term-App, speaks-Atom, speaks-Eq, speaks-Not, speaks-And, speaks-Or, speaks-Imp, speaks-Iff, speaks-All, speaks-Ex)
