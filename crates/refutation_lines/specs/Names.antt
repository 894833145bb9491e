-- The names of lines: f and the number of a given formula, s and this number for the line with its new functions, c and
-- its place for a clause, and e for the last line.
use Rattle.std.specs.Prelude.{ℕ, codes, nat_lt, Bool, false, if◌then◌else◌, List, length, Option, Some, None, slice_get}
use Rattle.derivation_items.specs.Words.{Text, numbered_word}
use Rattle.step_clauses.specs.declared.existentials.Existential.{Existential}
use Rattle.given_parts.specs.declared.part.Part.{Part}

abbrev pub given_name : ℕ → Text
given_name k = numbered_word (codes "f") k

abbrev pub skolem_name : ℕ → Text
skolem_name k = numbered_word (codes "s") k

abbrev pub clause_name : ℕ → Text
clause_name k = numbered_word (codes "c") k

abbrev pub has_some : List Existential → Bool
has_some es = nat_lt 0 (length es)

abbrev pub has_functions : Option Part → Bool
has_functions None = false
has_functions (Some p) = has_some p.existentials

-- the line of which the clauses of part k are
abbrev pub opened_name : List Part → ℕ → Text
opened_name parts k = if has_functions (slice_get parts k) then skolem_name k else given_name k
