-- What the parser's functions for clauses compute. The number is the nesting that is left.
use Rattle.std.specs.Prelude.{ℕ, zero, suc, ◌∷◌, Option, Some, Ok, Err}
use Rattle.first_fault.specs.code.Reading.{TooDeep, Reader, and_then, mapped, next, tail, closed, separated}
use Rattle.tptp_lexer.specs.declared.token.Token.{Token}
use Rattle.tptp_lexer.specs.declared.token.Token.TheVariants.{Mark as Sign}
use Rattle.tptp_base.specs.declared.surface.Surface.{Surface}
use Rattle.tptp_grammar.specs.code.ReadTerms.{is_mark, atom, basic}
use Rattle.tptp_lexer.specs.declared.token.Mark.TheVariants as m
use Rattle.tptp_base.specs.declared.surface.Surface.TheVariants as fm

-- an atom from its opening parenthesis on
unfoldable pub atom_open : ℕ → Reader Token Surface
atom_open zero ts = Err (TooDeep, ts)
atom_open (suc room) ts = closed (is_mark m.Close) (atom room) (tail ts)

abbrev pub negated_at : ℕ → Option Token → Reader Token Surface
negated_at room (Some (Sign m.Open)) ts = atom_open room ts
negated_at room _ ts = atom room ts

-- behind the sign
unfoldable pub negated : ℕ → Reader Token Surface
negated room ts = negated_at room (next ts) ts

-- from the sign on
unfoldable pub negative : ℕ → Reader Token Surface
negative zero ts = Err (TooDeep, ts)
negative (suc room) ts = mapped fm.Not (negated room (tail ts))

abbrev pub literal_at : ℕ → Option Token → Reader Token Surface
literal_at room (Some (Sign m.Tilde)) ts = negative room ts
literal_at room _ ts = basic room ts

unfoldable pub literal : ℕ → Reader Token Surface
literal room ts = literal_at room (next ts) ts

abbrev pub literals_at : ℕ → Surface → Option Token → Reader Token Surface
literals_at room a (Some (Sign m.Bar)) ts = mapped (λ fs. fm.Or (a ∷ fs)) (separated (is_mark m.Bar) (literal room) (tail ts))
literals_at room a _ ts = Ok (a, ts)

-- behind a literal
unfoldable pub literals : ℕ → Surface → Reader Token Surface
literals room a ts = literals_at room a (next ts) ts

abbrev pub clause_at : ℕ → Reader Token Surface → Option Token → Reader Token Surface
clause_at room nested (Some (Sign m.Open)) ts = nested ts
clause_at room nested _ ts = and_then (literal room ts) (literals room)

unfoldable pub clause_by : ℕ → Reader Token Surface → Reader Token Surface
clause_by room nested ts = clause_at room nested (next ts) ts

-- from the opening parenthesis on
unfoldable pub clause_open : ℕ → Reader Token Surface
clause_open zero ts = Err (TooDeep, ts)
clause_open (suc room) ts = closed (is_mark m.Close) (clause_by room (clause_open room)) (tail ts)

unfoldable pub clause : ℕ → Reader Token Surface
clause room = clause_by room (clause_open room)
