-- What a signature contains: the names of the sorts and the symbols, each at its number.
use Rattle.std.specs.Prelude.{ℕ, ◌≡◌, ◌<◌, ◌≤◌, ◌+◌, ◌==◌, ◌&&◌, Bool, true, false, List, Option, codes, drop}
use Rattle.std.specs.Prelude.{slice_get, length, nat_eq, position, Some}
use Rattle.std.specs.List.{All}
use Rattle.std.specs.Option.{option_map}
use Rattle.std.specs.Cmp.Lexicographic.{pointwise}
use Rattle.fof_terms.specs.declared.signature.Symbol.{Symbol}
use Rattle.fof_terms.specs.declared.signature.Kind.{Kind}
use Rattle.fof_terms.specs.declared.signature.Kind.TheVariants.{Function, Predicate}

-- the names of the sorts, and the symbols
pub record Vocabulary : Type 0 where
  pub sorts : List (List ℕ)
  pub symbols : List Symbol

-- its sorts are there
pub record IsDeclared (sort_count : ℕ) (s : Symbol) : Type 0 where
  pub args : All (λ a. a < sort_count) s.args
  pub result : s.result < sort_count

-- what holds of every signature: sort 0 is that of individuals
pub record IsVocabulary (v : Vocabulary) : Type 0 where
  pub first : slice_get v.sorts 0 ≡ Some (codes "$i")
  pub few_sorts : length v.sorts ≤ 65536
  pub few_symbols : length v.symbols ≤ 16777216
  pub declared : All (IsDeclared (length v.sorts)) v.symbols

-- the two kinds are one
abbrev pub is_kind : Kind → Kind → Bool
is_kind Function Function = true
is_kind Function Predicate = false
is_kind Predicate Function = false
is_kind Predicate Predicate = true

-- the symbol has this name, this kind and so many arguments
abbrev pub is_symbol : List ℕ → Kind → ℕ → Symbol → Bool
is_symbol name kind arity s = pointwise nat_eq s.name name && (is_kind s.kind kind && (length s.args == arity))

-- the number of the first symbol of that name, kind and arity
abbrev pub found_symbol : Vocabulary → List ℕ → Kind → ℕ → Option ℕ
found_symbol v name kind arity = position (is_symbol name kind arity) v.symbols

-- the number of the first sort of that name, sort 0 left aside
abbrev pub found_sort : Vocabulary → List ℕ → Option ℕ
found_sort v name = option_map (λ i. i + 1) (position (λ sort. pointwise nat_eq sort name) (drop 1 v.sorts))
