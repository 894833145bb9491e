-- What the parser's functions for sorts and type lines compute. The number is the nesting that is left.
use Rattle.std.specs.Prelude.{ℕ, zero, suc, if◌then◌else◌, List, [], ◌∷◌, Option, Some, Ok, Err, codes}
use Rattle.std.specs.Str.{bytes_eq}
use Rattle.first_fault.specs.code.Reading.{TooDeep, Reader, refuse, and_then, mapped, next, tail, closed, opened}
use Rattle.first_fault.specs.code.Reading.{separated}
use Rattle.tptp_lexer.specs.declared.token.Token.{Token}
use Rattle.tptp_lexer.specs.declared.token.Token.TheVariants.{Lower, Quoted, Dollar, Mark as Sign}
use Rattle.tptp_base.specs.declared.surface.SortName.{SortName}
use Rattle.tptp_base.specs.declared.item.Shape.{Shape}
use Rattle.tptp_base.specs.declared.item.Typing.{Typing}
use Rattle.tptp_grammar.specs.Tokens.{Text}
use Rattle.tptp_grammar.specs.code.ReadTerms.{is_mark}
use Rattle.tptp_lexer.specs.declared.token.Mark.TheVariants as m
use Rattle.tptp_base.specs.declared.surface.SortName.TheVariants as sort
use Rattle.tptp_base.specs.declared.item.Shape.TheVariants as sh

-- ---- sorts

abbrev pub argument_sort_at : Option Token → Reader Token SortName
argument_sort_at (Some (Lower s)) ts = Ok (sort.Word s, tail ts)
argument_sort_at (Some (Quoted s)) ts = Ok (sort.Word s, tail ts)
argument_sort_at (Some (Dollar w)) ts = if bytes_eq w (codes "$i") then Ok (sort.Individual, tail ts) else refuse ts
argument_sort_at _ ts = refuse ts

unfoldable pub argument_sort : Reader Token SortName
argument_sort ts = argument_sort_at (next ts) ts

abbrev pub result_sort_at : Option Token → Reader Token SortName
result_sort_at (Some (Dollar w)) ts = if bytes_eq w (codes "$o") then Ok (sort.Truth, tail ts) else argument_sort ts
result_sort_at _ ts = argument_sort ts

unfoldable pub result_sort : Reader Token SortName
result_sort ts = result_sort_at (next ts) ts

-- ---- maps

-- `>` and the result of a map from these sorts
unfoldable pub map_from : List SortName → Reader Token Shape
map_from sorts ts = mapped (sh.Symbol sorts) (opened (is_mark m.Greater) result_sort ts)

-- a map of a product, from its first star on
abbrev pub product : SortName → Reader Token Shape
product a ts = and_then (closed (is_mark m.Close) (separated (is_mark m.Star) argument_sort) (tail ts)) (λ others. map_from (a ∷ others))

abbrev pub inside_from_at : SortName → Option Token → Reader Token Shape
inside_from_at a (Some (Sign m.Star)) ts = product a ts
inside_from_at a _ ts = closed (is_mark m.Close) (map_from (a ∷ [])) ts

-- behind a parenthesis and a sort
unfoldable pub inside_from : SortName → Reader Token Shape
inside_from a ts = inside_from_at a (next ts) ts

abbrev pub inside_at : Reader Token Shape → Option Token → Reader Token Shape
inside_at mapping (Some (Sign m.Open)) ts = closed (is_mark m.Close) mapping ts
inside_at mapping _ ts = and_then (argument_sort ts) inside_from

-- behind a parenthesis
unfoldable pub inside : Reader Token Shape → Reader Token Shape
inside mapping ts = inside_at mapping (next ts) ts

abbrev pub mapping_at : Reader Token Shape → Option Token → Reader Token Shape
mapping_at nested (Some (Sign m.Open)) ts = nested ts
mapping_at nested _ ts = and_then (argument_sort ts) (λ a. map_from (a ∷ []))

unfoldable pub mapping_by : Reader Token Shape → Reader Token Shape
mapping_by nested ts = mapping_at nested (next ts) ts

-- a map from its opening parenthesis on
unfoldable pub map_open : ℕ → Reader Token Shape
map_open zero ts = Err (TooDeep, ts)
map_open (suc room) ts = inside (mapping_by (map_open room)) (tail ts)

unfoldable pub mapping : ℕ → Reader Token Shape
mapping room = mapping_by (map_open room)

-- ---- shapes and type lines

abbrev pub after_sort_at : SortName → Option Token → Reader Token Shape
after_sort_at a (Some (Sign m.Greater)) ts = map_from (a ∷ []) ts
after_sort_at a _ ts = Ok (sh.Symbol [] a, ts)

-- behind a sort that stands first
unfoldable pub after_sort : SortName → Reader Token Shape
after_sort a ts = after_sort_at a (next ts) ts

abbrev pub from_sort : Reader Token Shape
from_sort ts = and_then (argument_sort ts) after_sort

abbrev pub dollar_shape : Text → Reader Token Shape
dollar_shape w ts = if bytes_eq w (codes "$tType") then Ok (sh.Sort, tail ts) else if bytes_eq w (codes "$o") then Ok (sh.Symbol [] sort.Truth, tail ts) else from_sort ts

abbrev pub shape_at : ℕ → Option Token → Reader Token Shape
shape_at room (Some (Sign m.Open)) ts = map_open room ts
shape_at room (Some (Dollar w)) ts = dollar_shape w ts
shape_at room _ ts = from_sort ts

unfoldable pub shape : ℕ → Reader Token Shape
shape room ts = shape_at room (next ts) ts

abbrev pub typing_of : Text → Shape → Typing
typing_of f s = record { name = f; shape = s }

-- behind the name
unfoldable pub typed : ℕ → Text → Reader Token Typing
typed room f ts = mapped (typing_of f) (opened (is_mark m.Colon) (shape room) ts)

abbrev pub typing_at : ℕ → Reader Token Typing → Option Token → Reader Token Typing
typing_at room nested (Some (Sign m.Open)) ts = nested ts
typing_at room nested (Some (Lower f)) ts = typed room f (tail ts)
typing_at room nested (Some (Quoted f)) ts = typed room f (tail ts)
typing_at room nested _ ts = refuse ts

unfoldable pub typing_by : ℕ → Reader Token Typing → Reader Token Typing
typing_by room nested ts = typing_at room nested (next ts) ts

-- from the opening parenthesis on
unfoldable pub typing_open : ℕ → Reader Token Typing
typing_open zero ts = Err (TooDeep, ts)
typing_open (suc room) ts = closed (is_mark m.Close) (typing_by room (typing_open room)) (tail ts)

unfoldable pub typing : ℕ → Reader Token Typing
typing room = typing_by room (typing_open room)
