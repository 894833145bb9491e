-- The pairs that are to be made equal at a place.
use Rattle.std.specs.Prelude.{ℕ, Bool, ◌≡◌, List, length, map, Option, Some, None}
use Rattle.fof_terms.specs.declared.term.Term.{Term}
use Rattle.clause_form.specs.declared.clause.AtomOf.{AtomOf}
use Rattle.clause_form.specs.declared.clause.Lit.{Lit}
use Rattle.clause_form.specs.ClauseView.{stated}
use Rattle.clause_form.specs.Images.{image}
use Rattle.clause_form.specs.Covers.{at_terms}
use Rattle.clause_rules.specs.Places.{args_of_atom}
use Rattle.clause_rules.specs.Steps.{equation, unequal}
use Rattle.superpose.specs.declared.sides.Sides.{Sides}
use Rattle.unify_terms.specs.declared.pair.Pair.{Pair}
use Rattle.clause_rules.specs.Ways.{zip_pairs}

-- the pairs of the arguments, under which the atoms have equal instances
pub record IsPairing (a b : AtomOf) (pairs : List Pair) : Type 0 where
  pub pairs_are : pairs ≡ zip_pairs (args_of_atom a) (args_of_atom b)
  pub size : length (args_of_atom a) ≡ length (args_of_atom b)
  pub enough : (s : ℕ → Term) → map (image s) (args_of_atom a) ≡ map (image s) (args_of_atom b) → at_terms (image s) a
      ≡ at_terms (image s) b

-- what makes the atoms equal, or nothing does
abbrev pub ArePairsOf : AtomOf → AtomOf → Option (List Pair) → Type 0
ArePairsOf a b None = (s : ℕ → Term) → at_terms (image s) a ≡ at_terms (image s) b → ⊥
ArePairsOf a b (Some pairs) = IsPairing a b pairs

-- the sides of a positive equation, read from left to right or flipped
abbrev pub HasSides : Lit → Bool → Option Sides → Type 0
HasSides k flipped None = (l r : Term) → k ≡ equation flipped l r → ⊥
HasSides k flipped (Some sides) = k ≡ equation flipped sides.left.now sides.right.now

-- the same of a denied equation
abbrev pub HasDeniedSides : Lit → Option Sides → Type 0
HasDeniedSides k None = (l r : Term) → k ≡ unequal l r → ⊥
HasDeniedSides k (Some sides) = k ≡ unequal sides.left.now sides.right.now

-- one of the literals is denied
abbrev pub NotPositive : Lit → Lit → Type 0
NotPositive k l = (a b : AtomOf) → k ≡ stated a → l ≡ stated b → ⊥
