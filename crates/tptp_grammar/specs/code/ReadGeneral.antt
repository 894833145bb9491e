-- What the parser's functions for general terms compute. The number is the nesting that is left.
use Rattle.std.specs.Prelude.{ℕ, zero, suc, false, true, if◌then◌else◌, List, [], Option, Some, None, Ok, Err, codes}
use Rattle.std.specs.Str.{bytes_eq}
use Rattle.first_fault.specs.code.Reading.{TooDeep, Reader, refuse, and_then, mapped, next, tail, closed, separated}
use Rattle.tptp_lexer.specs.declared.token.Token.{Token}
use Rattle.tptp_lexer.specs.declared.token.Token.TheVariants.{Lower, Quoted, Upper, Dollar, Number, Distinct}
use Rattle.tptp_lexer.specs.declared.token.Token.TheVariants.{Mark as Sign}
use Rattle.tptp_base.specs.declared.surface.STerm.{STerm}
use Rattle.tptp_base.specs.declared.surface.Surface.{Surface}
use Rattle.tptp_base.specs.declared.item.Lang.{Lang}
use Rattle.tptp_base.specs.declared.item.GTerm.{GTerm}
use Rattle.tptp_grammar.specs.Tokens.{Text, embedded_text}
use Rattle.tptp_grammar.specs.code.ReadTerms.{is_mark, term}
use Rattle.tptp_grammar.specs.code.ReadFormulas.{formula}
use Rattle.tptp_grammar.specs.code.ReadClauses.{clause}
use Rattle.tptp_grammar.specs.code.ReadTypedClauses.{typed_clause}
use Rattle.tptp_lexer.specs.declared.token.Mark.TheVariants as m
use Rattle.tptp_base.specs.declared.item.Lang.TheVariants as lang
use Rattle.tptp_base.specs.declared.item.GTerm.TheVariants as gt

-- ---- embedded formulas and terms

-- the formula of a language
abbrev pub formula_of : Lang → ℕ → Reader Token Surface
formula_of lang.Cnf = clause
formula_of lang.Fof = formula false
formula_of lang.Tff = formula true
formula_of lang.Tcf = typed_clause

-- from the opening parenthesis on
unfoldable pub formula_open : Lang → ℕ → Reader Token Surface
formula_open l zero ts = Err (TooDeep, ts)
formula_open l (suc room) ts = closed (is_mark m.Close) (formula_of l room) (tail ts)

abbrev pub formula_in_at : Lang → ℕ → Option Token → Reader Token Surface
formula_in_at l room (Some (Sign m.Open)) ts = formula_open l room ts
formula_in_at l room _ ts = refuse ts

unfoldable pub formula_in : Lang → ℕ → Reader Token Surface
formula_in l room ts = formula_in_at l room (next ts) ts

-- from the opening parenthesis on
unfoldable pub term_open : ℕ → Reader Token STerm
term_open zero ts = Err (TooDeep, ts)
term_open (suc room) ts = closed (is_mark m.Close) (term room) (tail ts)

abbrev pub term_in_at : ℕ → Option Token → Reader Token STerm
term_in_at room (Some (Sign m.Open)) ts = term_open room ts
term_in_at room _ ts = refuse ts

unfoldable pub term_in : ℕ → Reader Token STerm
term_in room ts = term_in_at room (next ts) ts

-- the language that a word embeds
unfoldable pub embedded : Text → Option Lang
embedded w =
    if bytes_eq w (embedded_text lang.Cnf) then Some lang.Cnf
    else if bytes_eq w (embedded_text lang.Fof) then Some lang.Fof
    else if bytes_eq w (embedded_text lang.Tff) then Some lang.Tff
    else None

abbrev pub term_data : ℕ → Text → Reader Token GTerm
term_data room w ts = if bytes_eq w (codes "$fot") then mapped gt.Term (term_in room (tail ts)) else refuse ts

abbrev pub formula_data_at : ℕ → Text → Option Lang → Reader Token GTerm
formula_data_at room w (Some l) ts = mapped (gt.Formula l) (formula_in l room (tail ts))
formula_data_at room w None ts = term_data room w ts

unfoldable pub formula_data : ℕ → Text → Reader Token GTerm
formula_data room w ts = formula_data_at room w (embedded w) ts

-- ---- general terms

-- the readers that begin with a token that nests
pub record Nesting : Type 0 where
  pub arguments : Reader Token (List GTerm)
  pub list : Reader Token (List GTerm)
  pub pair : GTerm → Reader Token GTerm

abbrev pub general_applied_at : Nesting → Text → Option Token → Reader Token GTerm
general_applied_at n f (Some (Sign m.Open)) ts = mapped (gt.Func f) (n.arguments ts)
general_applied_at n f _ ts = Ok (gt.Word f, ts)

-- behind a word
unfoldable pub general_applied : Nesting → Text → Reader Token GTerm
general_applied n f ts = general_applied_at n f (next ts) ts

abbrev pub general_data_at : ℕ → Nesting → Option Token → Reader Token GTerm
general_data_at room n (Some (Lower f)) ts = general_applied n f (tail ts)
general_data_at room n (Some (Quoted f)) ts = general_applied n f (tail ts)
general_data_at room n (Some (Upper x)) ts = Ok (gt.Var x, tail ts)
general_data_at room n (Some (Number x)) ts = Ok (gt.Number x, tail ts)
general_data_at room n (Some (Distinct x)) ts = Ok (gt.Distinct x, tail ts)
general_data_at room n (Some (Dollar w)) ts = formula_data room w ts
general_data_at room n _ ts = refuse ts

unfoldable pub general_data_by : ℕ → Nesting → Reader Token GTerm
general_data_by room n ts = general_data_at room n (next ts) ts

abbrev pub paired_at : Nesting → GTerm → Option Token → Reader Token GTerm
paired_at n x (Some (Sign m.Colon)) ts = n.pair x ts
paired_at n x _ ts = Ok (x, ts)

-- behind what may be the left side of a pair
unfoldable pub paired : Nesting → GTerm → Reader Token GTerm
paired n x ts = paired_at n x (next ts) ts

abbrev pub general_at : ℕ → Nesting → Option Token → Reader Token GTerm
general_at room n (Some (Sign m.OpenList)) ts = mapped gt.List (n.list ts)
general_at room n _ ts = and_then (general_data_by room n ts) (paired n)

unfoldable pub general_by : ℕ → Nesting → Reader Token GTerm
general_by room n ts = general_at room n (next ts) ts

abbrev pub listed_at : Reader Token GTerm → Option Token → Reader Token (List GTerm)
listed_at general (Some (Sign m.CloseList)) ts = Ok ([], tail ts)
listed_at general _ ts = closed (is_mark m.CloseList) (separated (is_mark m.Comma) general) ts

-- behind the opening bracket
unfoldable pub listed : Reader Token GTerm → Reader Token (List GTerm)
listed general ts = listed_at general (next ts) ts

unfoldable pub nesting : ℕ → Nesting
nesting zero = record { arguments = λ ts. Err (TooDeep, ts); list = λ ts. Err (TooDeep, ts); pair = λ x ts. Err (TooDeep, ts) }
nesting (suc room) = record {
  arguments = λ ts. closed (is_mark m.Close) (separated (is_mark m.Comma) (general_by room (nesting room))) (tail ts);
  list = λ ts. listed (general_by room (nesting room)) (tail ts);
  pair = λ x ts. mapped (gt.Pair x) (general_by room (nesting room) (tail ts));
}

unfoldable pub general : ℕ → Reader Token GTerm
general room = general_by room (nesting room)

abbrev pub general_arguments : ℕ → Reader Token (List GTerm)
general_arguments room = (nesting room).arguments

abbrev pub general_bracketed : ℕ → Reader Token (List GTerm)
general_bracketed room = (nesting room).list

abbrev pub general_pair : ℕ → GTerm → Reader Token GTerm
general_pair room = (nesting room).pair
