-- Variables in the order that is told of some of them.
use Rattle.std.specs.Prelude.{ℕ, ◌==◌, ◌&&◌, not, if◌then◌else◌, Bool, true, false, List, [], ◌∷◌, filter, Option, Some, None}
use Rattle.std.specs.List.{list_any, list_all}
use Rattle.fof_terms.specs.Standing.{is_listed}

abbrev pub is_that : ℕ → Option ℕ → Bool
is_that k None = false
is_that k (Some j) = j == k

-- the variable is told of some argument
abbrev pub is_told : List (Option ℕ) → ℕ → Bool
is_told told k = list_any (is_that k) told

-- what is told of each argument, where nothing is told the next of the rest, and then what is left of the rest
abbrev pub filled : List (Option ℕ) → List ℕ → List ℕ
filled [] rest = rest
filled (Some k ∷ told) rest = k ∷ filled told rest
filled (None ∷ told) [] = filled told []
filled (None ∷ told) (k ∷ rest) = k ∷ filled told rest

-- these variables, each that is told in its place, and the others as they stand in the places that are left
abbrev pub as_told : List (Option ℕ) → List ℕ → List ℕ
as_told told ks = filled told (filter (λ k. not (is_told told k)) ks)

abbrev pub all_different : List ℕ → Bool
all_different [] = true
all_different (k ∷ ks) = not (is_listed ks k) && all_different ks

-- the variables are different, and all that are needed are among them
abbrev pub may_be_arguments : List ℕ → List ℕ → Bool
may_be_arguments needed ks = all_different ks && list_all (is_listed ks) needed

-- the variables as they are told, if so they may be arguments, and else as they stand
abbrev pub ordered : List ℕ → List (Option ℕ) → List ℕ → List ℕ
ordered needed told ks = if may_be_arguments needed (as_told told ks) then as_told told ks else ks
