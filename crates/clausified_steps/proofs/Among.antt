-- One of some parents, and one alone.
use Rattle.std.specs.Prelude.{ℕ, zero, suc, ◌≡◌, ◌<◌, List, [], ◌∷◌, length, get_or, slice_get, Option, Some, IfSome}
use Rattle.std.specs.List.{All as Every}
use Rattle.std.proofs.Common.{ap, sym, subst, ◌∙◌, arith}
use Rattle.std.proofs.lemmas.Option.{slice_get-get_or, slice_get_within, get_or_from_slice_get}
use Rattle.fof_terms.specs.Vocabulary.{Vocabulary}
use Rattle.clause_form.specs.declared.path.Parent.{Parent}
use Rattle.clause_rules.specs.Steps.{AreReady, IsReady}
use Rattle.derive_kit.specs.Derived.{AreOfTheory}
use Rattle.kernel.specs.Statements.{Statements}
use Rattle.clausified_steps.specs.code.Forms.{IsAmong}

-- what holds of each holds of the one at a place
pub every_at : {X : Type 0} (P : X → Type 0) (xs : List X) (i : ℕ) (x : X) → Every P xs → slice_get xs i ≡ Some x → P x
every_at P xs i x all at = subst P (get_or_from_slice_get xs i x x at) (all i x (slice_get_within xs i x at))

pub every_one : {X : Type 0} (P : X → Type 0) (x : X) (xs : List X) → P x → Every P xs → Every P (x ∷ xs)
every_one P x xs h all zero d lt = h
every_one P x xs h all (suc i) d lt = all i d (omega arith)

pub every_none : {X : Type 0} (P : X → Type 0) → Every P []
every_none P i d lt = absurd (omega arith)

-- what is one alone
pub only_one : {X : Type 0} (P : X → Type 0) (x : X) (xs : List X) → xs ≡ x ∷ [] → P x → Every P xs
only_one P x xs e h = subst (Every P) (sym e) (every_one P x [] h (every_none P))

pub is_among : (parents : List Parent) (number : ℕ) (p : Parent) → number < length parents → p ≡ get_or parents number p → IsAmong parents p
is_among parents number p lt is = record { place = number; there = slice_get-get_or parents number p lt ∙ ap Some (sym is) }

pub among_ready : (v : Vocabulary) (parents : List Parent) (p : Parent) → AreReady v parents → IsAmong parents p → IsReady v p.form
among_ready v parents p all a = every_at (λ (q : Parent). IsReady v q.form) parents a.place p all a.there

pub among_stated : (t : Statements) (parents : List Parent) (p : Parent) → AreOfTheory t parents → IsAmong parents p → slice_get t.formulas p.number ≡ Some p.form
among_stated t parents p all a = every_at (λ (q : Parent). slice_get t.formulas q.number ≡ Some q.form) parents a.place p all a.there

-- what is said of a value that is there
pub some_at : {X : Type 0} (P : X → Type 0) (r : Option X) (x y : X) → r ≡ Some x → y ≡ x → IfSome r P → P y
some_at P r x y e ey h = subst P (sym ey) (let there : IfSome (Some x) P = subst (λ o. IfSome o P) e h in there)
