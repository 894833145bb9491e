-- How far the search for a resolution has come: at two literals, at one literal of the left clause, with a left clause,
-- and among the clauses that the parents are.
use Rattle.std.specs.Prelude.{ℕ, ◌≡◌, not, List, [], ◌∷◌, ◌++◌, Option, Some, None, slice_get}
use Rattle.fof_terms.specs.declared.term.Term.{Term}
use Rattle.fof_terms.specs.Vocabulary.{Vocabulary}
use Rattle.clause_form.specs.declared.clause.Lit.{Lit}
use Rattle.clause_form.specs.declared.clause.Clause.{Clause}
use Rattle.unify_terms.specs.declared.goal.Goal.{Goal}
use Rattle.unify_terms.specs.declared.pair.Pair.{Pair}
use Rattle.clause_rules.specs.declared.joint.Joint.{Joint}
use Rattle.clause_rules.specs.declared.just.Just.{Just}
use Rattle.clause_rules.specs.declared.just.Just.TheVariants.{Resolution}
use Rattle.rule_steps.specs.declared.resolution_rule.Found.{Found}
use Rattle.clause_rules.specs.Steps.{scope_of_both, instances, IsJoint, images_of_parents}
use Rattle.clause_rules.specs.ResolutionRule.{IsResolvent, ResolvesTo}
use Rattle.clause_rules.specs.Ways.{lit_ways, cover_needs, goal_of_needs}

-- what is asked of a substitution: the pivot becomes complementary to the opposite, and each literal is covered
abbrev pub resolution_needs : List Lit → List Lit → List Lit → Lit → Lit → List (List (List Pair))
resolution_needs line left right pivot opposite =
    lit_ways (not pivot.positive) pivot.atom opposite ∷ (cover_needs (line ++ pivot ∷ []) left ++ cover_needs (line ++ opposite ∷ []) right)

-- no instances of the two clauses have the line as their resolvent at these literals
abbrev pub NeverResolves : List Lit → List Lit → List Lit → ℕ → ℕ → Type 0
NeverResolves line left right i j = (s r : ℕ → Term) → IsResolvent line (instances s left) (instances r right) i j → ⊥

-- the goal asks this at literal i of the left clause and literal j of the right one
abbrev pub AsksAt : Clause → Joint → ℕ → ℕ → Goal → Type 0
AsksAt line joint i j goal = (pivot opposite : Lit) → slice_get joint.left i ≡ Some pivot → slice_get joint.right j ≡ Some opposite → goal ≡ goal_of_needs (resolution_needs line.lits joint.left joint.right pivot opposite)

-- the images show the resolution at these literals
pub record IsShown (v : Vocabulary) (left right line : Clause) (i j : ℕ) (images : List Term) : Type 0 where
  pub joint : IsJoint v line (scope_of_both left right) images
  pub resolves : ResolvesTo v left right line i j (scope_of_both left right) (images_of_parents line images)

-- with literal i of the left clause
abbrev pub FoundAt : Vocabulary → Clause → Clause → Clause → ℕ → Option Found → Type 0
FoundAt v left right line i None = (j : ℕ) (more : List ℕ) (s : ℕ → Term) → ResolvesTo v left right line i j more s → ⊥
FoundAt v left right line i (Some found) = IsShown v left right line i found.place found.subst

-- the same with a right clause, if it is one
abbrev pub FoundInSlot : Vocabulary → Clause → Option Clause → Clause → ℕ → Option Found → Type 0
FoundInSlot v left slot line i None = (right : Clause) → slot ≡ Some right → (j : ℕ) (more : List ℕ) (s : ℕ → Term) → ResolvesTo v left right line i j more s → ⊥
FoundInSlot v left slot line i (Some found) = (right : Clause) × (slot ≡ Some right) × IsShown v left right line i found.place found.subst

-- clause b of the list is the right one of a resolution with this left one
pub record ResolvesWith (v : Vocabulary) (clauses : List (Option Clause)) (left line : Clause) (b i j : ℕ) (more : List ℕ) (s : ℕ → Term) : Type 0 where
  pub right : Clause
  pub there : slice_get clauses b ≡ Some (Some right)
  pub resolves : ResolvesTo v left right line i j more s

-- the justification shows a resolution of the left clause, whose number is a, with clause b
pub record ShowsWith (v : Vocabulary) (clauses : List (Option Clause)) (left line : Clause) (a : ℕ) (just : Just) : Type 0 where
  pub b : ℕ
  pub i : ℕ
  pub j : ℕ
  pub images : List Term
  pub right : Clause
  pub is : just ≡ Resolution a b i j images
  pub there : slice_get clauses b ≡ Some (Some right)
  pub shown : IsShown v left right line i j images

-- at literal i of the left clause
abbrev pub FoundPivot : Vocabulary → List (Option Clause) → Clause → Clause → ℕ → ℕ → Option Just → Type 0
FoundPivot v clauses left line a i None = (b j : ℕ) (more : List ℕ) (s : ℕ → Term) → ResolvesWith v clauses left line b i j more s → ⊥
FoundPivot v clauses left line a i (Some just) = ShowsWith v clauses left line a just

abbrev pub FoundWith : Vocabulary → List (Option Clause) → Clause → Clause → ℕ → Option Just → Type 0
FoundWith v clauses left line a None = (b i j : ℕ) (more : List ℕ) (s : ℕ → Term) → ResolvesWith v clauses left line b i j more s → ⊥
FoundWith v clauses left line a (Some just) = ShowsWith v clauses left line a just

-- with a left clause, if it is one
abbrev pub FoundFrom : Vocabulary → List (Option Clause) → Option Clause → Clause → ℕ → Option Just → Type 0
FoundFrom v clauses slot line a None = (left : Clause) → slot ≡ Some left → (b i j : ℕ) (more : List ℕ) (s : ℕ → Term) → ResolvesWith v clauses left line b i j more s → ⊥
FoundFrom v clauses slot line a (Some just) = (left : Clause) × (slot ≡ Some left) × ShowsWith v clauses left line a just

-- clause a of the list is the left one
pub record ResolvesFrom (v : Vocabulary) (clauses : List (Option Clause)) (line : Clause) (a b i j : ℕ) (more : List ℕ) (s : ℕ → Term) : Type 0 where
  pub left : Clause
  pub there : slice_get clauses a ≡ Some (Some left)
  pub rest : ResolvesWith v clauses left line b i j more s

pub record ShowsFrom (v : Vocabulary) (clauses : List (Option Clause)) (line : Clause) (just : Just) : Type 0 where
  pub a : ℕ
  pub left : Clause
  pub there : slice_get clauses a ≡ Some (Some left)
  pub rest : ShowsWith v clauses left line a just

abbrev pub FoundAmong : Vocabulary → List (Option Clause) → Clause → Option Just → Type 0
FoundAmong v clauses line None = (a b i j : ℕ) (more : List ℕ) (s : ℕ → Term) → ResolvesFrom v clauses line a b i j more s → ⊥
FoundAmong v clauses line (Some just) = ShowsFrom v clauses line just
