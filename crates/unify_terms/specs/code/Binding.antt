-- What variables are bound to while terms are made equal.
use Rattle.std.specs.Prelude.{ℕ, ◌≡◌, ◌≢◌, ◌<◌, ◌≤◌, List, length, map, sum, get_or, slice_get, Option, Some, None}
use Rattle.std.specs.Borrow.{Bor}
use Rattle.fof_terms.specs.Count.{symbol_count}
use Rattle.fof_terms.specs.Vocabulary.{Vocabulary}
use Rattle.fof_terms.specs.Sorts.{sort_of_term}
use Rattle.fof_terms.specs.declared.term.Term.{Term, Var}
use Rattle.unify_terms.specs.declared.pair.Pair.{Pair}
use Rattle.unify_terms.specs.declared.binding.Equating.{Equating}
use Rattle.unify_terms.specs.declared.binding.Equating.TheVariants.{Equal, Clash, Unknown}
use Rattle.unify_terms.specs.Substitution.{image_at, instance}

abbrev pub bound_of : Option (Bor Term) → ℕ → Term
bound_of None k = Var k
bound_of (Some t) k = t.now

-- what a variable is bound to; one that is not bound stands for itself
abbrev pub bound_at : List (Option (Bor Term)) → ℕ → Term
bound_at bound k = bound_of (get_or bound k None) k

-- each variable has the value of what it is bound to
pub record Obeys (images : List Term) (bound : List (Option (Bor Term))) : Type 0 where
  pub values : (k : ℕ) → image_at images k ≡ instance images (bound_at bound k)

-- variables are bound to terms of their sorts, and those that stand for themselves are not
pub record AreBound (v : Vocabulary) (sorts : List ℕ) (rigid : ℕ) (bound : List (Option (Bor Term))) : Type 0 where
  pub size : length bound ≡ length sorts
  pub sorted : (k : ℕ) → k < length sorts → sort_of_term v sorts (bound_at bound k) ≡ slice_get sorts k
  pub rigids : (k : ℕ) → k < rigid → bound_at bound k ≡ Var k

-- no value of the variable has more symbols than that of the term, or than those of the terms together
abbrev pub StandsIn : List (Option (Bor Term)) → ℕ → Term → Type 0
StandsIn bound k term = (images : List Term) → Obeys images bound
    → symbol_count (image_at images k) ≤ symbol_count (instance images term)

abbrev pub StandsInOne : List (Option (Bor Term)) → ℕ → List Term → Type 0
StandsInOne bound k terms = (images : List Term) → Obeys images bound
    → symbol_count (image_at images k) ≤ sum (map symbol_count (map (instance images) terms))

-- each has fewer
abbrev pub StandsBelow : List (Option (Bor Term)) → ℕ → Term → Type 0
StandsBelow bound k term = (images : List Term) → Obeys images bound
    → symbol_count (image_at images k) < symbol_count (instance images term)

-- a term and what it is bound to
pub record IsResolved (bound : List (Option (Bor Term))) (term last : Term) : Type 0 where
  pub same : (images : List Term) → Obeys images bound → instance images term ≡ instance images last
  pub sorted : (v : Vocabulary) (sorts : List ℕ) (rigid : ℕ) → AreBound v sorts rigid bound → sort_of_term v sorts last ≡ sort_of_term v sorts term

-- a substitution that makes two terms equal
abbrev pub Same : Term → Term → List Term → Type 0
Same left right images = instance images left ≡ instance images right

-- the same of the first n terms of two lists
abbrev pub AllSame : ℕ → List Term → List Term → List Term → Type 0
AllSame n left right images = (i : ℕ) → i < n → instance images (get_or left i (Var 0)) ≡ instance images (get_or right i (Var 0))

-- the substitutions that obey are those from before that have the property
pub record Adds (old new : List (Option (Bor Term))) (P : List Term → Type 0) : Type 0 where
  pub forth : (images : List Term) → Obeys images new → Obeys images old × P images
  pub back : (images : List Term) → Obeys images old → P images → Obeys images new

-- variables were bound so that the property holds, or it holds under no substitution
abbrev pub Equated : Vocabulary → List ℕ → ℕ → List (Option (Bor Term)) → List (Option (Bor Term)) → (List Term → Type 0) → Equating → Type 0
Equated v sorts rigid old new P Equal = AreBound v sorts rigid new × Adds old new P
Equated v sorts rigid old new P Clash = (images : List Term) → Obeys images old → P images → ⊥
Equated v sorts rigid old new P Unknown = Unit {0}
