-- What a walk through a formula knows of variables.
use Rattle.std.specs.Prelude.{ℕ, ◌+◌, ◌≤◌, Bool, List, length}
use Rattle.sort_check.specs.declared.fault.SortRule.{SortRule}
use Rattle.sort_check.specs.declared.scope.Variable.{Variable}

-- the variables in scope, the outermost first, how many the formula has bound so far, the fault of a variable that is
-- not in scope, and whether a new symbol has the sorts of its place
pub record Reach : Type 0 where
  pub variables : List Variable
  pub bound : ℕ
  pub outside : SortRule
  pub by_place : Bool

-- at most 250 variables stand outside of the formula, and at most 250 are bound in it
pub record IsReach (r : Reach) : Type 0 where
  pub few : length r.variables ≤ r.bound + 250
  pub few_bound : r.bound ≤ 250
