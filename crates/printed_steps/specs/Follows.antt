-- What follows from clauses by a rule, at some places and by some substitution.
use Rattle.std.specs.Prelude.{ℕ, Bool, List}
use Rattle.fof_terms.specs.declared.term.Term.{Term}
use Rattle.fof_terms.specs.Vocabulary.{Vocabulary}
use Rattle.clause_form.specs.declared.clause.Clause.{Clause}
use Rattle.clause_rules.specs.ResolutionRule.{ResolvesTo}
use Rattle.clause_rules.specs.ParamodulationRule.{Paramodulates}
use Rattle.clause_rules.specs.EqFactorRule.{Factors}

-- from two clauses, by `resolution`
abbrev pub IsByResolution : Vocabulary → Clause → Clause → Clause → Type 0
IsByResolution v c d e = (i j : ℕ) × (more : List ℕ) × (s : ℕ → Term) × ResolvesTo v c d e i j more s

-- from a clause and one with an equation, by `paramodulation`
abbrev pub IsByParamodulation : Vocabulary → Clause → Clause → Clause → Type 0
IsByParamodulation v c d e = (i : ℕ) × (place : List ℕ) × (j : ℕ) × (flipped : Bool) × (more : List ℕ) × (s : ℕ → Term) × Paramodulates v c d e i place j flipped more s

-- from one clause, by `eqfactor`
abbrev pub IsByEqFactor : Vocabulary → Clause → Clause → Type 0
IsByEqFactor v c e = (i : ℕ) × (first_flipped : Bool) × (j : ℕ) × (second_flipped : Bool) × (more : List ℕ) × (s : ℕ → Term) × Factors v c e i first_flipped j second_flipped more s
