-- How much may still be joined.
use Rattle.std.specs.Prelude.{ℕ, ◌+◌, ◌==◌, List, length, zero, suc, if◌then◌else◌}
use Rattle.unify_terms.specs.declared.node.Node.{Node}
use Rattle.unify_terms.specs.code.Graph.{numbers_at}
use Rattle.unify_terms.specs.code.Classes.{class_of}

-- one for a node that is its own class, and one for each of its arguments
abbrev pub share : List Node → List ℕ → ℕ → ℕ
share nodes classes i = if class_of classes i == i then 1 + length (numbers_at nodes i) else 0

-- the shares of the first n nodes
abbrev pub remaining : List Node → List ℕ → ℕ → ℕ
remaining nodes classes zero = 0
remaining nodes classes (suc n) = remaining nodes classes n + share nodes classes n
