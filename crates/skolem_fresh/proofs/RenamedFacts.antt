-- Lemmas on what specs/Renamed defines.
use Rattle.std.specs.Prelude.{ℕ, ◌+◌, ◌-◌, ◌==◌, ◌≡◌, nat_lt, if◌then◌else◌, List, [], ◌∷◌, length, map}
use Rattle.std.proofs.Common.{ap, ◌∙◌}
use Rattle.std.proofs.lemmas.Simd.{map-map}
use Rattle.fof_terms.proofs.Trees.{fold-Var, fold-App, fold-Atom, fold-Eq, fold-Not, fold-And, fold-Or, fold-Imp, fold-Iff, fold-All, fold-Ex}
use Rattle.fof_terms.specs.declared.term.Term.{Term, Var, App}
use Rattle.fof_terms.specs.declared.term.Term.TheFolds.{fold-Term}
use Rattle.fof_terms.specs.declared.form.Form.{Form, Atom, Eq, Not, And, Or, Imp, Iff, All, Ex}
use Rattle.fof_terms.specs.declared.form.Form.TheFolds.{fold-Form}
use Rattle.skolem_fresh.specs.Renamed.{place_of, renamed_term_step, renamed_term, renamed_step, renamed}
use Rattle.fof_terms.specs.declared.term.Term.TheOpen as term
use Rattle.fof_terms.specs.declared.form.Form.TheOpen as form

-- The equations of these words.
pub renamed_term-Var : (xs : List ℕ) (depth k : ℕ) → renamed_term xs depth (Var k) ≡ (if nat_lt k depth then Var k else Var (place_of xs (k - depth) + depth))
unfolding renamed_term
renamed_term-Var xs depth k = fold-Var Term (renamed_term_step xs depth) k

pub renamed_term-App : (xs : List ℕ) (depth f : ℕ) (ts : List Term) → renamed_term xs depth (App f ts) ≡ App f (map (renamed_term xs depth) ts)
unfolding renamed_term
renamed_term-App xs depth f ts = fold-App Term (renamed_term_step xs depth) f ts

pub renamed-Atom : (xs : List ℕ) (depth : ℕ) (p : ℕ) (ts : List Term) → renamed xs depth (Atom p ts) ≡ Atom p (map (renamed_term xs depth) ts)
unfolding renamed
renamed-Atom xs depth p ts = ap (λ g. g depth) (fold-Atom (ℕ → Form) (renamed_step xs) p ts)

pub renamed-Eq : (xs : List ℕ) (depth : ℕ) (l r : Term) → renamed xs depth (Eq l r) ≡ Eq (renamed_term xs depth l) (renamed_term xs depth r)
unfolding renamed
renamed-Eq xs depth l r = ap (λ g. g depth) (fold-Eq (ℕ → Form) (renamed_step xs) l r)

pub renamed-Not : (xs : List ℕ) (depth : ℕ) (a : Form) → renamed xs depth (Not a) ≡ Not (renamed xs depth a)
unfolding renamed
renamed-Not xs depth a = ap (λ g. g depth) (fold-Not (ℕ → Form) (renamed_step xs) a)

pub renamed-And : (xs : List ℕ) (depth : ℕ) (as_ : List Form) → renamed xs depth (And as_) ≡ And (map (renamed xs depth) as_)
unfolding renamed
renamed-And xs depth as_ = ap (λ g. g depth) (fold-And (ℕ → Form) (renamed_step xs) as_) ∙ ap And (map-map (λ a. a depth) _ as_)

pub renamed-Or : (xs : List ℕ) (depth : ℕ) (as_ : List Form) → renamed xs depth (Or as_) ≡ Or (map (renamed xs depth) as_)
unfolding renamed
renamed-Or xs depth as_ = ap (λ g. g depth) (fold-Or (ℕ → Form) (renamed_step xs) as_) ∙ ap Or (map-map (λ a. a depth) _ as_)

pub renamed-Imp : (xs : List ℕ) (depth : ℕ) (a b : Form) → renamed xs depth (Imp a b) ≡ Imp (renamed xs depth a) (renamed xs depth b)
unfolding renamed
renamed-Imp xs depth a b = ap (λ g. g depth) (fold-Imp (ℕ → Form) (renamed_step xs) a b)

pub renamed-Iff : (xs : List ℕ) (depth : ℕ) (a b : Form) → renamed xs depth (Iff a b) ≡ Iff (renamed xs depth a) (renamed xs depth b)
unfolding renamed
renamed-Iff xs depth a b = ap (λ g. g depth) (fold-Iff (ℕ → Form) (renamed_step xs) a b)

pub renamed-All : (xs : List ℕ) (depth : ℕ) (s : ℕ) (a : Form) → renamed xs depth (All s a) ≡ All s (renamed xs (depth + 1) a)
unfolding renamed
renamed-All xs depth s a = ap (λ g. g depth) (fold-All (ℕ → Form) (renamed_step xs) s a)

pub renamed-Ex : (xs : List ℕ) (depth : ℕ) (s : ℕ) (a : Form) → renamed xs depth (Ex s a) ≡ Ex s (renamed xs (depth + 1) a)
unfolding renamed
renamed-Ex xs depth s a = ap (λ g. g depth) (fold-Ex (ℕ → Form) (renamed_step xs) s a)

pub ruleset renamed_equations = (renamed_term-Var, renamed_term-App, renamed-Atom, renamed-Eq, renamed-Not, renamed-And, renamed-Or, renamed-Imp, renamed-Iff, renamed-All, renamed-Ex)
