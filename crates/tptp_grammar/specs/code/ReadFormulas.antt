-- What the parser's functions for formulas compute. The number is the nesting that is left.
use Rattle.std.specs.Prelude.{ℕ, zero, suc, Bool, true, List, [], ◌∷◌, length, Option, Some, None, Ok, Err}
use Rattle.first_fault.specs.code.Reading.{TooDeep, Reader, refuse, and_then, mapped, next, tail, closed, separated}
use Rattle.tptp_lexer.specs.declared.token.Token.{Token}
use Rattle.tptp_lexer.specs.declared.token.Token.TheVariants.{Upper, Mark as Sign}
use Rattle.tptp_base.specs.declared.surface.SortName.{SortName}
use Rattle.tptp_base.specs.declared.surface.BoundVar.{BoundVar}
use Rattle.tptp_base.specs.declared.surface.Quant.{Quant}
use Rattle.tptp_base.specs.declared.surface.Surface.{Surface}
use Rattle.tptp_grammar.specs.Tokens.{Text}
use Rattle.tptp_grammar.specs.code.ReadTerms.{is_mark, basic}
use Rattle.tptp_grammar.specs.code.ReadTypes.{argument_sort}
use Rattle.tptp_lexer.specs.declared.token.Mark.TheVariants as m
use Rattle.tptp_base.specs.declared.surface.BinOp.TheVariants as op
use Rattle.tptp_base.specs.declared.surface.Quant.TheVariants as q
use Rattle.tptp_base.specs.declared.surface.Surface.TheVariants as fm

-- ---- bound variables

abbrev pub bound_of : Text → Option SortName → BoundVar
bound_of x s = record { name = x; sort = s }

abbrev pub sorted_at : Bool → Text → Option Token → Reader Token BoundVar
sorted_at true x (Some (Sign m.Colon)) ts = mapped (λ s. bound_of x (Some s)) (argument_sort (tail ts))
sorted_at typed x _ ts = Ok (bound_of x None, ts)

-- behind the variable
unfoldable pub sorted : Bool → Text → Reader Token BoundVar
sorted typed x ts = sorted_at typed x (next ts) ts

abbrev pub bound_variable_at : Bool → Option Token → Reader Token BoundVar
bound_variable_at typed (Some (Upper x)) ts = sorted typed x (tail ts)
bound_variable_at typed _ ts = refuse ts

unfoldable pub bound_variable : Bool → Reader Token BoundVar
bound_variable typed ts = bound_variable_at typed (next ts) ts

-- from the opening bracket on
unfoldable pub bound_variables : Bool → ℕ → Reader Token (List BoundVar)
bound_variables typed zero ts = Err (TooDeep, ts)
bound_variables typed (suc room) ts = closed (is_mark m.CloseList) (separated (is_mark m.Comma) (bound_variable typed)) (tail ts)

abbrev pub bracket_at : Bool → ℕ → Option Token → Reader Token (List BoundVar)
bracket_at typed room (Some (Sign m.OpenList)) ts = bound_variables typed room ts
bracket_at typed room _ ts = refuse ts

unfoldable pub bracket : Bool → ℕ → Reader Token (List BoundVar)
bracket typed room ts = bracket_at typed room (next ts) ts

-- ---- formulas

abbrev pub joined_at : Reader Token Surface → Surface → Option Token → Reader Token Surface
joined_at unit a (Some (Sign m.Imp)) ts = mapped (fm.Binary op.Imp a) (unit (tail ts))
joined_at unit a (Some (Sign m.RevImp)) ts = mapped (fm.Binary op.RevImp a) (unit (tail ts))
joined_at unit a (Some (Sign m.Iff)) ts = mapped (fm.Binary op.Iff a) (unit (tail ts))
joined_at unit a (Some (Sign m.Xor)) ts = mapped (fm.Binary op.Xor a) (unit (tail ts))
joined_at unit a (Some (Sign m.Nor)) ts = mapped (fm.Binary op.Nor a) (unit (tail ts))
joined_at unit a (Some (Sign m.Nand)) ts = mapped (fm.Binary op.Nand a) (unit (tail ts))
joined_at unit a (Some (Sign m.Bar)) ts = mapped (λ fs. fm.Or (a ∷ fs)) (separated (is_mark m.Bar) unit (tail ts))
joined_at unit a (Some (Sign m.Ampersand)) ts = mapped (λ fs. fm.And (a ∷ fs)) (separated (is_mark m.Ampersand) unit (tail ts))
joined_at unit a _ ts = Ok (a, ts)

-- behind a unit
unfoldable pub joined : Reader Token Surface → Surface → Reader Token Surface
joined unit a ts = joined_at unit a (next ts) ts

unfoldable pub formula_by : Reader Token Surface → Reader Token Surface
formula_by unit ts = and_then (unit ts) (joined unit)

-- A reader of units that are nested deeper by one and the first number more, within the second list's first token
abbrev pub Deeper : Type 0
Deeper = ℕ → List Token → Reader Token Surface

abbrev pub bound : Deeper → List BoundVar → List Token → Reader Token Surface
bound deeper [] at ts = refuse at
bound deeper (x ∷ xs) at ts = deeper (length xs) at ts

abbrev pub scope_at : Deeper → Quant → List BoundVar → Option Token → Reader Token Surface
scope_at deeper q xs (Some (Sign m.Colon)) ts = mapped (fm.Bind q xs) (bound deeper xs ts (tail ts))
scope_at deeper q xs _ ts = refuse ts

-- behind the bound variables
unfoldable pub scope : Deeper → Quant → List BoundVar → Reader Token Surface
scope deeper q xs ts = scope_at deeper q xs (next ts) ts

-- behind the quantifier
unfoldable pub quantified : Bool → ℕ → Deeper → Quant → Reader Token Surface
quantified typed room deeper q ts = and_then (bracket typed room ts) (scope deeper q)

-- a formula in parentheses
abbrev pub parenthesis : Deeper → Reader Token Surface
parenthesis deeper ts = closed (is_mark m.Close) (formula_by (deeper 0 ts)) (tail ts)

abbrev pub unit_at : Bool → ℕ → Deeper → Option Token → Reader Token Surface
unit_at typed room deeper (Some (Sign m.Tilde)) ts = mapped fm.Not (deeper 0 ts (tail ts))
unit_at typed room deeper (Some (Sign m.Open)) ts = parenthesis deeper ts
unit_at typed room deeper (Some (Sign m.Bang)) ts = quantified typed room deeper q.All (tail ts)
unit_at typed room deeper (Some (Sign m.Question)) ts = quantified typed room deeper q.Ex (tail ts)
unit_at typed room deeper _ ts = basic room ts

unfoldable pub unit_by : Bool → ℕ → Deeper → Reader Token Surface
unit_by typed room deeper ts = unit_at typed room deeper (next ts) ts

unfoldable pub deeper : Bool → ℕ → Deeper
deeper typed zero levels at ts = Err (TooDeep, at)
deeper typed (suc room) zero at ts = unit_by typed room (deeper typed room) ts
deeper typed (suc room) (suc levels) at ts = deeper typed room levels at ts

unfoldable pub unit : Bool → ℕ → Reader Token Surface
unit typed room = unit_by typed room (deeper typed room)

unfoldable pub formula : Bool → ℕ → Reader Token Surface
formula typed room = formula_by (unit typed room)
