-- How far the search for an equality factoring has come.
use Rattle.std.specs.Prelude.{ℕ, Bool, ◌≡◌, List, Option, Some, None, slice_get}
use Rattle.fof_terms.specs.declared.term.Term.{Term}
use Rattle.fof_terms.specs.Vocabulary.{Vocabulary}
use Rattle.clause_form.specs.declared.clause.Lit.{Lit}
use Rattle.clause_form.specs.declared.clause.Clause.{Clause}
use Rattle.clause_form.specs.Covers.{scope_of}
use Rattle.clause_rules.specs.declared.just.Just.{Just}
use Rattle.clause_rules.specs.declared.just.Just.TheVariants.{EqFactor}
use Rattle.rule_steps.specs.declared.eqfactor_rule.Factor.{Factor}
use Rattle.rule_steps.specs.declared.sides.Sides.{Sides}
use Rattle.clause_rules.specs.EqFactorRule.{Factors}
use Rattle.clause_rules.specs.Steps.{equation, IsJoint, images_of_parents}

-- the sides of a positive equation, read from left to right or flipped
abbrev pub HasSides : Lit → Bool → Option Sides → Type 0
HasSides k flipped None = (l r : Term) → k ≡ equation flipped l r → ⊥
HasSides k flipped (Some sides) = k ≡ equation flipped sides.left.now sides.right.now

-- the equality factoring is shown
pub record IsFactor (v : Vocabulary) (c line : Clause) (factor : Factor) : Type 0 where
  pub joint : IsJoint v line (scope_of c) factor.subst
  pub factors : Factors v c line factor.first factor.first_flipped factor.second factor.second_flipped (scope_of c) (images_of_parents line factor.subst)

-- one was found, or something holds
abbrev pub FoundFactor : Vocabulary → Clause → Clause → Type 0 → Option Factor → Type 0
FoundFactor v c line otherwise None = otherwise
FoundFactor v c line otherwise (Some factor) = IsFactor v c line factor

-- there is none with these literals, read so
abbrev pub NoneAt : Vocabulary → Clause → Clause → ℕ → Bool → ℕ → Bool → Type 0
NoneAt v c line i first_flipped j second_flipped = (more : List ℕ) (s : ℕ → Term) → Factors v c line i first_flipped j second_flipped more s → ⊥

abbrev pub NoneRead : Vocabulary → Clause → Clause → ℕ → Bool → ℕ → Type 0
NoneRead v c line i first_flipped j = (second_flipped : Bool) → NoneAt v c line i first_flipped j second_flipped

abbrev pub NoneWith : Vocabulary → Clause → Clause → ℕ → ℕ → Type 0
NoneWith v c line i j = (first_flipped : Bool) → NoneRead v c line i first_flipped j

abbrev pub NoneFrom : Vocabulary → Clause → Clause → ℕ → Type 0
NoneFrom v c line i = (j : ℕ) → NoneWith v c line i j

abbrev pub NoneIn : Vocabulary → Clause → Clause → Type 0
NoneIn v c line = (i : ℕ) → NoneFrom v c line i

-- the clause of that number, if it is one, has one, or none has
abbrev pub FoundInParent : Vocabulary → Option Clause → Clause → Option Factor → Type 0
FoundInParent v slot line None = (c : Clause) → slot ≡ Some c → NoneIn v c line
FoundInParent v slot line (Some factor) = (c : Clause) × (slot ≡ Some c) × IsFactor v c line factor

pub record ShowsFactor (v : Vocabulary) (clauses : List (Option Clause)) (line : Clause) (just : Just) : Type 0 where
  pub a : ℕ
  pub c : Clause
  pub factor : Factor
  pub there : slice_get clauses a ≡ Some (Some c)
  pub is : just ≡ EqFactor a factor.first factor.first_flipped factor.second factor.second_flipped factor.subst
  pub shown : IsFactor v c line factor

abbrev pub FoundInParents : Vocabulary → List (Option Clause) → Clause → Option Just → Type 0
FoundInParents v clauses line None = (a : ℕ) (c : Clause) → slice_get clauses a ≡ Some (Some c) → NoneIn v c line
FoundInParents v clauses line (Some just) = ShowsFactor v clauses line just
