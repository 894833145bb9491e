-- What the readers do at a token that takes some of the nesting that is left.
use Rattle.std.proofs.Common.{◌≡◌, Bool, ℕ, zero, suc, ◌-◌, ◌≤◌, ◌<◌, List, [], ◌∷◌, length, Result, Ok, Err, refl, sym, ◌∙◌, ap, subst, arith}
use Rattle.first_fault.specs.code.Reading.{TooDeep, Reader, Outcome, mapped, tail, closed, separated}
use Rattle.first_fault.proofs.Exact.{Exact, IsRead}
use Rattle.tptp_lexer.specs.declared.token.Token.{Token}
use Rattle.tptp_lexer.specs.declared.token.Mark.TheVariants as m
use Rattle.tptp_base.specs.declared.surface.BoundVar.{BoundVar}
use Rattle.tptp_base.specs.declared.item.GTerm.{GTerm}
use Rattle.tptp_base.specs.declared.item.GTerm.TheVariants as gt
use Rattle.tptp_grammar.specs.declared.stop.Stop.{Stop}
use Rattle.tptp_grammar.specs.code.Outcomes.{Reads}
use Rattle.tptp_grammar.specs.code.ReadTerms.{is_mark}
use Rattle.tptp_grammar.specs.code.ReadTypes.{inside, mapping, map_open, typing, typing_open}
use Rattle.tptp_grammar.specs.code.ReadFormulas.{bracket, deeper, unit, formula_by, formula, parenthesis}
use Rattle.tptp_grammar.specs.code.ReadTypedClauses.{deeper_clause, typed_clause}
use Rattle.tptp_grammar.specs.code.ReadGeneral.{general, nesting, listed, general_arguments, general_bracketed, general_pair}
use Rattle.tptp_grammar.proofs.ExactFormulas.{deeper_is, deeper_none}
use Rattle.tptp_grammar.proofs.ExactTypedClauses.{deeper_clause_is, deeper_clause_none}
use Rattle.tptp_grammar.proofs.ExactVariables.{good_bracket, some_in_bracket, IsBracket}

-- what is read of one list, of another that is the same
pub reads_again : {A : Type 0} (ts us : List Token) → ts ≡ us → (p : Reader Token A) (o : Outcome Token A) (r : Result A Stop) (left : List Token) → o ≡ p us → Reads (p ts) r left → Reads o r left
reads_again ts us moved p o r left same h = subst (λ x. Reads x r left) (sym same) (subst (λ vs. Reads (p vs) r left) moved h)

pub map_some : (room : ℕ) (ts : List Token) → 0 < room → map_open room ts ≡ inside (mapping (room - 1)) (tail ts)
unfolding map_open mapping
map_some zero ts lt = absurd (omega arith)
map_some (suc room) ts lt = let e : room ≡ suc room - 1 = omega arith in ap (λ n. inside (mapping n) (tail ts)) e

pub typing_some : (room : ℕ) (ts : List Token) → 0 < room → typing_open room ts ≡ closed (is_mark m.Close) (typing (room - 1)) (tail ts)
unfolding typing_open typing
typing_some zero ts lt = absurd (omega arith)
typing_some (suc room) ts lt = let e : room ≡ suc room - 1 = omega arith in ap (λ n. closed (is_mark m.Close) (typing n) (tail ts)) e

pub none_deeper : (typed : Bool) (room levels : ℕ) (at us : List Token) → 1 ≤ levels → room < levels → deeper typed room (levels - 1) at us ≡ Err (TooDeep, at)
none_deeper typed room levels at us some lt = deeper_none typed room (levels - 1) at us (omega arith)

pub some_deeper : (typed : Bool) (room levels : ℕ) (at us : List Token) → 1 ≤ levels → levels ≤ room → deeper typed room (levels - 1) at us ≡ unit typed (room - levels) us
some_deeper typed room levels at us some le = let e : room - suc (levels - 1) ≡ room - levels = omega arith in deeper_is typed room (levels - 1) at us (omega arith) ∙ ap (λ n. unit typed n us) e

pub open_none : (typed : Bool) (ts : List Token) → parenthesis (deeper typed 0) ts ≡ Err (TooDeep, ts)
unfolding deeper formula_by
open_none typed ts = refl

pub open_some : (typed : Bool) (room : ℕ) (ts : List Token) → 0 < room → parenthesis (deeper typed room) ts ≡ closed (is_mark m.Close) (formula typed (room - 1)) (tail ts)
unfolding deeper formula unit
open_some typed zero ts lt = absurd (omega arith)
open_some typed (suc room) ts lt = let e : room ≡ suc room - 1 = omega arith in ap (λ n. closed (is_mark m.Close) (formula typed n) (tail ts)) e

names_some : (xs : List BoundVar) → (xs ≡ [] → ⊥) → 0 < length xs
names_some [] h = absurd (h refl)
names_some (x ∷ xs) h = omega arith

read_some : (typed : Bool) (room : ℕ) (xs : List BoundVar) (ts rest : List Token) → IsRead (bracket typed room) (IsBracket typed 0) room xs ts rest → 0 < length xs
read_some typed room xs ts rest h = names_some xs (some_in_bracket (h.spells []))

pub bracket_some : (typed : Bool) (room : ℕ) (xs : List BoundVar) (ts rest : List Token) → bracket typed room ts ≡ Ok (xs, rest) → 0 < length xs
bracket_some typed room xs ts rest e = read_some typed room xs ts rest (subst (Exact (bracket typed room) (IsBracket typed 0) room ts) e ((good_bracket typed room 0 room (omega arith)).exact ts))

-- ---- typed clauses

pub no_clause_deeper : (room levels : ℕ) (at us : List Token) → 1 ≤ levels → room < levels → deeper_clause room (levels - 1) at us ≡ Err (TooDeep, at)
no_clause_deeper room levels at us some lt = deeper_clause_none room (levels - 1) at us (omega arith)

pub some_clause_deeper : (room levels : ℕ) (at us : List Token) → 1 ≤ levels → levels ≤ room → deeper_clause room (levels - 1) at us ≡ typed_clause (room - levels) us
some_clause_deeper room levels at us some le = let e : room - suc (levels - 1) ≡ room - levels = omega arith in deeper_clause_is room (levels - 1) at us (omega arith) ∙ ap (λ n. typed_clause n us) e

-- ---- general terms

pub arguments_none : (ts : List Token) → general_arguments 0 ts ≡ Err (TooDeep, ts)
unfolding nesting
arguments_none ts = refl

pub arguments_some : (room : ℕ) (ts : List Token) → 0 < room → general_arguments room ts ≡ closed (is_mark m.Close) (separated (is_mark m.Comma) (general (room - 1))) (tail ts)
unfolding nesting general
arguments_some zero ts lt = absurd (omega arith)
arguments_some (suc room) ts lt = let e : room ≡ suc room - 1 = omega arith in ap (λ n. closed (is_mark m.Close) (separated (is_mark m.Comma) (general n)) (tail ts)) e

pub bracketed_none : (ts : List Token) → general_bracketed 0 ts ≡ Err (TooDeep, ts)
unfolding nesting
bracketed_none ts = refl

pub bracketed_some : (room : ℕ) (ts : List Token) → 0 < room → general_bracketed room ts ≡ listed (general (room - 1)) (tail ts)
unfolding nesting general
bracketed_some zero ts lt = absurd (omega arith)
bracketed_some (suc room) ts lt = let e : room ≡ suc room - 1 = omega arith in ap (λ n. listed (general n) (tail ts)) e

pub pair_none : (x : GTerm) (ts : List Token) → general_pair 0 x ts ≡ Err (TooDeep, ts)
unfolding nesting
pair_none x ts = refl

pub pair_some : (room : ℕ) (x : GTerm) (ts : List Token) → 0 < room → general_pair room x ts ≡ mapped (gt.Pair x) (general (room - 1) (tail ts))
unfolding nesting general
pair_some zero x ts lt = absurd (omega arith)
pair_some (suc room) x ts lt = let e : room ≡ suc room - 1 = omega arith in ap (λ n. mapped (gt.Pair x) (general n (tail ts))) e
