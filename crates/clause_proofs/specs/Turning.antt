-- Equations that are turned round.
use Rattle.std.specs.Prelude.{ℕ, ◌≡◌, ◌<◌, List, length, Some}
use Rattle.fof_terms.specs.declared.term.Term.{Term, Var}
use Rattle.fof_terms.specs.declared.form.Form.{Eq}
use Rattle.fof_terms.specs.Vocabulary.{Vocabulary}
use Rattle.fof_terms.specs.Lift.{lifted_term}
use Rattle.fof_terms.specs.Sorts.{sort_of_term}
use Rattle.kernel.specs.declared.proof.Proof.{Proof, Refl, Subst}

-- the part has the equation of l and some other term turned round, by a part that shows the equation
abbrev pub IsTurned : Vocabulary → List ℕ → Term → Proof → Proof → Type 0
IsTurned w v l p made = (s : ℕ) × (sort_of_term w v l ≡ Some s) × (s < length w.sorts) × (made ≡ Subst s (Eq (Var 0) (lifted_term 1 0 l)) p (Refl l))
