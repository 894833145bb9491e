-- What a few steps tell of pairs.
use Rattle.std.specs.Prelude.{ℕ, List, length, Option, None}
use Rattle.std.specs.Borrow.{Bor}
use Rattle.fof_terms.specs.Vocabulary.{Vocabulary}
use Rattle.fof_terms.specs.declared.term.Term.{Term}
use Rattle.unify_terms.specs.declared.pair.Pair.{Pair}
use Rattle.unify_terms.specs.declared.attempt.Attempt.{Attempt}
use Rattle.unify_terms.specs.declared.attempt.Attempt.TheVariants.{Found, Clash, Unknown}
use Rattle.unify_terms.specs.Unifiers.{IsMostGeneral, Unified}
use Rattle.unify_terms.specs.code.Shown.{AreShown}

-- a most general unifier, or that there is none
abbrev pub IsAttempt : Vocabulary → List ℕ → ℕ → List Pair → Attempt → Type 0
IsAttempt v sorts rigid pairs (Found subst) = IsMostGeneral v sorts rigid pairs subst
IsAttempt v sorts rigid pairs Clash = Unified v sorts rigid pairs None
IsAttempt v sorts rigid pairs Unknown = Unit {0}

-- the images of variables that are bound
abbrev pub IsFound : List (Option (Bor Term)) → Attempt → Type 0
IsFound bound (Found subst) = AreShown bound (length bound) subst
IsFound bound Clash = ⊥
IsFound bound Unknown = Unit {0}
