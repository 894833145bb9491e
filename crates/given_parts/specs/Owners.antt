-- Which part a clause is of. The clauses stand in the order of their parts.
use Rattle.std.specs.Prelude.{ℕ, ◌+◌, List, [], ◌∷◌, ◌++◌, replicate}
use Rattle.clause_form.specs.Sizes.{clause_count_of}
use Rattle.given_parts.specs.declared.part.Part.{Part}

-- for each clause the number of its part; the first part has number k
abbrev pub owners_from : ℕ → List Part → List ℕ
owners_from k [] = []
owners_from k (p ∷ parts) = replicate (clause_count_of p.norm) k ++ owners_from (k + 1) parts
