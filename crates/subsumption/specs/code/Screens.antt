-- What a cheap test says that answers no: no substitution makes the one the other.
use Rattle.std.specs.Prelude.{ℕ, ◌≡◌, List, map}
use Rattle.fof_terms.specs.declared.term.Term.{Term}
use Rattle.clause_form.specs.declared.clause.Lit.{Lit}
use Rattle.clause_form.specs.declared.clause.AtomOf.{AtomOf}
use Rattle.clause_form.specs.Images.{image}
use Rattle.clause_form.specs.Covers.{lit_image, at_terms, HasOne, IsSame, IsSameAtom}
use Rattle.subsumption.specs.Subsumes.{StandsAt}

abbrev pub NeverEqual : Term → Term → Type 0
NeverEqual t u = (s : ℕ → Term) → image s t ≡ u → ⊥

abbrev pub NeverEquals : List Term → List Term → Type 0
NeverEquals ts us = (s : ℕ → Term) → map (image s) ts ≡ us → ⊥

abbrev pub NeverBoth : Term → Term → Term → Term → Type 0
NeverBoth one first other second = (s : ℕ → Term) → image s one ≡ first → image s other ≡ second → ⊥

abbrev pub NeverSameAtom : AtomOf → AtomOf → Type 0
NeverSameAtom a b = (s : ℕ → Term) → IsSameAtom (at_terms (image s) a) b → ⊥

abbrev pub NeverSame : Lit → Lit → Type 0
NeverSame k l = (s : ℕ → Term) → IsSame (lit_image s k) l → ⊥

-- at no place of the clause
abbrev pub StandsNowhere : List Lit → Lit → Type 0
StandsNowhere targets k = (s : ℕ → Term) (place : ℕ) → StandsAt targets place (lit_image s k) → ⊥

-- one of the literals stands nowhere
abbrev pub SomeNowhere : List Lit → List Lit → Type 0
SomeNowhere targets lits = HasOne (StandsNowhere targets) lits
