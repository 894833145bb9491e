-- What the parser's functions for terms and atoms compute. The number is the nesting that is left.
use Rattle.std.specs.Prelude.{ℕ, zero, suc, Bool, false, if◌then◌else◌, List, [], Option, Some, Ok, Err, codes}
use Rattle.std.specs.Str.{bytes_eq}
use denote.Enum.Bare.{sameb}
use Rattle.first_fault.specs.code.Reading.{TooDeep, Reader, refuse, and_then, mapped, next, tail, closed, separated}
use Rattle.tptp_lexer.specs.contracts.token.Mark.{the_type}
use Rattle.tptp_lexer.specs.declared.token.Token.{Token}
use Rattle.tptp_lexer.specs.declared.token.Token.TheVariants.{Lower, Quoted, Upper, Dollar, Mark as Sign}
use Rattle.tptp_lexer.specs.declared.token.Mark.{Mark}
use Rattle.tptp_base.specs.declared.surface.STerm.{STerm, out-STerm}
use Rattle.tptp_base.specs.declared.surface.STerm.TheOpen.{STerm-F}
use Rattle.tptp_base.specs.declared.surface.Surface.{Surface}
use Rattle.tptp_grammar.specs.Tokens.{Text}
use Rattle.tptp_lexer.specs.declared.token.Mark.TheVariants as m
use Rattle.tptp_base.specs.declared.surface.STerm.TheVariants as tm
use Rattle.tptp_base.specs.declared.surface.Surface.TheVariants as fm

-- `==` on marks
unfoldable pub same_mark : Mark → Mark → Bool
same_mark = sameb the_type

abbrev pub is_mark : Mark → Token → Bool
is_mark mark (Sign other) = same_mark other mark
is_mark mark _ = false

-- ---- terms

abbrev pub applied_at : Reader Token (List STerm) → Text → Option Token → Reader Token STerm
applied_at arguments f (Some (Sign m.Open)) ts = mapped (tm.App f) (arguments ts)
applied_at arguments f _ ts = Ok (tm.App f [], ts)

-- behind a word
unfoldable pub applied : Reader Token (List STerm) → Text → Reader Token STerm
applied arguments f ts = applied_at arguments f (next ts) ts

abbrev pub term_at : Reader Token (List STerm) → Option Token → Reader Token STerm
term_at arguments (Some (Upper name)) ts = Ok (tm.Var name, tail ts)
term_at arguments (Some (Lower name)) ts = applied arguments name (tail ts)
term_at arguments (Some (Quoted name)) ts = applied arguments name (tail ts)
term_at arguments _ ts = refuse ts

unfoldable pub term_by : Reader Token (List STerm) → Reader Token STerm
term_by arguments ts = term_at arguments (next ts) ts

-- from the opening parenthesis on
unfoldable pub arguments : ℕ → Reader Token (List STerm)
arguments zero ts = Err (TooDeep, ts)
arguments (suc room) ts = closed (is_mark m.Close) (separated (is_mark m.Comma) (term_by (arguments room))) (tail ts)

unfoldable pub term : ℕ → Reader Token STerm
term room = term_by (arguments room)

-- ---- atoms

abbrev pub atom_of : STerm-F STerm → Reader Token Surface
atom_of (STerm-F.App f xs) ts = Ok (fm.Atom f xs, ts)
atom_of (STerm-F.Var name) ts = refuse ts

abbrev pub equated_at : ℕ → STerm → Option Token → Reader Token Surface
equated_at room a (Some (Sign m.Equal)) ts = mapped (fm.Eq a) (term room (tail ts))
equated_at room a _ ts = atom_of (out-STerm a) ts

-- behind a term, where no inequation may stand
unfoldable pub equated : ℕ → STerm → Reader Token Surface
equated room a ts = equated_at room a (next ts) ts

abbrev pub compared_at : ℕ → STerm → Option Token → Reader Token Surface
compared_at room a (Some (Sign m.NotEqual)) ts = mapped (fm.Neq a) (term room (tail ts))
compared_at room a _ ts = equated room a ts

-- behind a term
unfoldable pub compared : ℕ → STerm → Reader Token Surface
compared room a ts = compared_at room a (next ts) ts

-- $true and $false
unfoldable pub constant : Text → Reader Token Surface
constant w ts = if bytes_eq w (codes "$true") then Ok (fm.True, tail ts) else if bytes_eq w (codes "$false") then Ok (fm.False, tail ts) else refuse ts

abbrev pub atom_at : ℕ → Option Token → Reader Token Surface
atom_at room (Some (Dollar w)) ts = constant w ts
atom_at room _ ts = and_then (term room ts) (equated room)

unfoldable pub atom : ℕ → Reader Token Surface
atom room ts = atom_at room (next ts) ts

abbrev pub basic_at : ℕ → Option Token → Reader Token Surface
basic_at room (Some (Dollar w)) ts = constant w ts
basic_at room _ ts = and_then (term room ts) (compared room)

-- an atom or an inequation
unfoldable pub basic : ℕ → Reader Token Surface
basic room ts = basic_at room (next ts) ts
