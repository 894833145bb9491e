-- How far a search has come: it decides, concludes and learns, and each of these makes the trail weigh more.
use Rattle.std.specs.Prelude.{◌+◌, ◌-◌, ◌*◌, ◌^◌, ◌∷◌, [], ℕ, suc, List, Option, Some, None, length, reverse}
use Rattle.clause_learning.specs.declared.trail.Step.{Step}
use Rattle.clause_learning.specs.declared.trail.Trail.{Trail}

-- a literal that is taken freely counts one, one that follows counts two
abbrev pub digit : Option ℕ → ℕ
digit None = 1
digit (Some r) = 2

-- the steps, the last first, as the digits of a number to base 3
abbrev pub weight : ℕ → List Step → ℕ
weight atoms [] = 0
weight atoms (s ∷ older) = digit s.reason * 3 ^ (atoms - suc (length older)) + weight atoms older

-- what the trail weighs
abbrev pub weight_of : Trail → ℕ
weight_of t = weight (length t.values) (reverse t.steps)

-- what every trail that begins with these steps weighs less than
abbrev pub ceiling : ℕ → List Step → ℕ
ceiling atoms steps = weight atoms steps + 3 ^ (atoms - length steps)
