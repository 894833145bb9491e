-- Names as symbols and sorts (TPTP technical manual, types). A name that a type line of the same text declares has its
-- one kind and arity; another name is known by name, kind and number of arguments, and has the sort of individuals
-- throughout, or in a derivation the sorts of the place where it is first met.
use Rattle.std.specs.Prelude.{ℕ, ◌==◌, ◌++◌, nat_lt, Bool, true, false, if◌then◌else◌, List, [], ◌∷◌, length, map, Option}
use Rattle.std.specs.Prelude.{Some, None, Ok, Err, slice_get}
use Rattle.std.specs.List.{list_any}
use Rattle.std.specs.Str.{bytes_eq}
use Rattle.tptp_base.specs.declared.limit.LimitName.TheVariants.{Symbols}
use Rattle.tptp_base.specs.declared.surface.SortName.{SortName}
use Rattle.fof_terms.specs.Vocabulary.{Vocabulary, found_symbol, found_sort}
use Rattle.fof_terms.specs.declared.signature.Kind.{Kind}
use Rattle.fof_terms.specs.declared.signature.Symbol.{Symbol}
use Rattle.sort_check.specs.declared.fault.SortRule.{SortRule}
use Rattle.sort_check.specs.declared.fault.SortRule.TheVariants.{Arity, UnknownSort, Limit}
use Rattle.sort_check.specs.Outcomes.{Outcome}
use Rattle.tptp_base.specs.declared.surface.SortName.TheVariants as name

abbrev pub Text : Type 0
Text = List ℕ

-- the name is one of the names
abbrev pub is_among : Text → List Text → Bool
is_among name names = list_any (bytes_eq name) names

-- the names with a further one, each once
abbrev pub with_name : Text → List Text → List Text
with_name name names = if is_among name names then names else names ++ name ∷ []

-- ---- symbols

-- The sort that a new symbol gets where a place tells one, which the vocabulary has: by place it is that sort. Else it
-- is that of individuals.
abbrev pub place_sort : Bool → Vocabulary → Option ℕ → ℕ
place_sort false v told = 0
place_sort true v None = 0
place_sort true v (Some sort) = if nat_lt sort (length v.sorts) then sort else 0

-- the symbol that a new name becomes, from what is known of its arguments and what its place asks for
abbrev pub new_symbol : Bool → Vocabulary → Text → Kind → List (Option ℕ) → Option ℕ → Symbol
new_symbol by_place v name kind known asked = record { name = name; kind = kind; args = map (place_sort by_place v) known; result = place_sort by_place v asked }

-- a further symbol, with its number
abbrev pub with_symbol : Symbol → Vocabulary → Outcome SortRule Vocabulary ℕ
with_symbol s v = if length v.symbols == 16777216 then Err (Limit Symbols) else Ok (length v.symbols, record v { symbols = v.symbols ++ s ∷ [] })

abbrev pub head_at : List Text → Text → Symbol → Option ℕ → Vocabulary → Outcome SortRule Vocabulary ℕ
head_at declared name new (Some number) v = Ok (number, v)
head_at declared name new None v = if is_among name declared then Err Arity else with_symbol new v

-- the symbol that a name of that kind means before so many arguments: this new one where there is none
unfoldable pub head : List Text → Text → Kind → ℕ → Symbol → Vocabulary → Outcome SortRule Vocabulary ℕ
head declared name kind arity new v = head_at declared name new (found_symbol v name kind arity) v

abbrev pub argument_at : Option Symbol → ℕ → Option ℕ
argument_at (Some s) place = slice_get s.args place
argument_at None place = None

-- the sort that the symbol of that number has at a place
abbrev pub argument_sort : Vocabulary → ℕ → ℕ → Option ℕ
argument_sort v number place = argument_at (slice_get v.symbols number) place

abbrev pub result_at : Option Symbol → ℕ
result_at (Some s) = s.result
result_at None = 0

-- the sort of its applications
abbrev pub result_sort : Vocabulary → ℕ → ℕ
result_sort v number = result_at (slice_get v.symbols number)

-- ---- sorts

abbrev pub known : Option ℕ → Vocabulary → Outcome SortRule Vocabulary ℕ
known (Some sort) v = Ok (sort, v)
known None v = Err UnknownSort

-- the sort of a variable or an argument: $o is none
abbrev pub named_sort : SortName → Vocabulary → Outcome SortRule Vocabulary ℕ
named_sort name.Individual v = Ok (0, v)
named_sort name.Truth v = Err UnknownSort
named_sort (name.Word word) v = known (found_sort v word) v
