-- What the loops over lists do at each turn.
use Rattle.std.proofs.Common.{◌≡◌, Bool, true, ℕ, List, Err, arith}
use Rattle.first_fault.specs.code.Reading.{Cause, Unexpected, TooDeep, Outcome, Reader, sees, after_seen, separated}
use Rattle.first_fault.proofs.Loops.{Steps, steps, members, turn_fails}
use Rattle.first_fault.proofs.Separated.{separated_err}
use Rattle.tptp_lexer.specs.declared.token.Token.{Token}
use Rattle.tptp_lexer.specs.declared.token.Mark.{Mark}
use Rattle.tptp_lexer.specs.declared.token.Mark.TheVariants as m
use Rattle.tptp_grammar.specs.declared.stop.Stop.{Stop}
use Rattle.tptp_grammar.specs.declared.stop.Stop.TheVariants as stop
use Rattle.tptp_grammar.specs.code.Outcomes.{Fails}
use Rattle.tptp_grammar.specs.Terms.{IsTerm}
use Rattle.tptp_grammar.specs.code.ReadTerms.{is_mark, term}
use Rattle.tptp_grammar.specs.Types.{IsArgumentSort}
use Rattle.tptp_grammar.specs.Clauses.{IsLiteral}
use Rattle.tptp_grammar.specs.Formulas.{IsBoundVariable, IsUnit}
use Rattle.tptp_grammar.specs.GeneralTerms.{IsGeneralTerm}
use Rattle.tptp_grammar.specs.Items.{IsName}
use Rattle.tptp_grammar.specs.code.ReadTypes.{argument_sort}
use Rattle.tptp_grammar.specs.code.ReadClauses.{literal}
use Rattle.tptp_grammar.specs.code.ReadFormulas.{bound_variable, unit}
use Rattle.tptp_grammar.specs.code.ReadGeneral.{general}
use Rattle.tptp_grammar.specs.code.ReadItems.{name}
use Rattle.tptp_grammar.proofs.ExactTerms.{moves_term, good_term}
use Rattle.tptp_grammar.proofs.ExactSorts.{moves_argument_sort, good_argument_sort}
use Rattle.tptp_grammar.proofs.ExactClauses.{moves_literal, good_literal}
use Rattle.tptp_grammar.proofs.ExactVariables.{moves_bound_variable, good_bound_variable}
use Rattle.tptp_grammar.proofs.ExactFormulas.{moves_unit, good_unit}
use Rattle.tptp_grammar.proofs.ExactGeneral.{moves_general, good_general}
use Rattle.tptp_grammar.proofs.ExactNames.{moves_name, good_name}

pub term_steps : (room : ℕ) → Steps (is_mark m.Comma) (term room)
term_steps room = steps (is_mark m.Comma) (term room) (IsTerm 0) room (λ x ts rest h. moves_term h) ((good_term room 0 room (omega arith)).exact)

pub sort_steps : Steps (is_mark m.Star) argument_sort
sort_steps = steps (is_mark m.Star) argument_sort (IsArgumentSort 0) 0 (λ x ts rest h. moves_argument_sort h) ((good_argument_sort 0 0 (omega arith)).exact)

pub literal_steps : (room : ℕ) → Steps (is_mark m.Bar) (literal room)
literal_steps room = steps (is_mark m.Bar) (literal room) (IsLiteral 0) room (λ x ts rest h. moves_literal h) ((good_literal room 0 room (omega arith)).exact)

pub variable_steps : (typed : Bool) → Steps (is_mark m.Comma) (bound_variable typed)
variable_steps typed = steps (is_mark m.Comma) (bound_variable typed) (IsBoundVariable typed 0) 0 (λ x ts rest h. moves_bound_variable h) ((good_bound_variable typed 0 0 (omega arith)).exact)

pub name_steps : Steps (is_mark m.Comma) name
name_steps = steps (is_mark m.Comma) name IsName 0 (λ x ts rest h. moves_name h) ((good_name 0).exact)

pub unit_steps : (mark : Mark) (typed : Bool) (room : ℕ) → Steps (is_mark mark) (unit typed room)
unit_steps mark typed room = steps (is_mark mark) (unit typed room) (IsUnit typed 0) room (λ x ts rest h. moves_unit h) ((good_unit typed room 0 room (omega arith)).exact)

pub general_steps : (room : ℕ) → Steps (is_mark m.Comma) (general room)
general_steps room = steps (is_mark m.Comma) (general room) (IsGeneralTerm 0) room (λ x ts rest h. moves_general h) ((good_general room 0 room (omega arith)).exact)

module _ {A B : Type 0} (o : Outcome Token A) (left : List Token) where
  -- a fault stays a fault where its reader is a part of another
  pub fails_as : (whole : Outcome Token B) → ((f : Cause × List Token) → o ≡ Err f → whole ≡ Err f) → (e : Stop) → Fails o e left → Fails whole e left
  fails_as whole h stop.Memory k = tt
  fails_as whole h stop.Unexpected k = h (Unexpected, left) k
  fails_as whole h stop.TooDeep k = h (TooDeep, left) k

module _ {A : Type 0} (mark : Mark) (p : Reader Token A) where
  pub first_fails : (ts left : List Token) (e : Stop) → Fails (p ts) e left → Fails (separated (is_mark mark) p ts) e left
  first_fails ts left e h = fails_as (p ts) left (separated (is_mark mark) p ts) (separated_err (is_mark mark) p ts) e h

module _ {A : Type 0} (mark : Mark) (p : Reader Token A) (s : Steps (is_mark mark) p) (old ts new : List Token) (xs : List A) (kept : separated (is_mark mark) p old ≡ members (is_mark mark) p xs ts) (seen : sees (is_mark mark) ts ≡ true)
    (moved : new ≡ after_seen (is_mark mark) ts) where
  pub later_fails : (left : List Token) (e : Stop) → Fails (p new) e left → Fails (separated (is_mark mark) p old) e left
  later_fails left e h = fails_as (p new) left (separated (is_mark mark) p old) (turn_fails (is_mark mark) p s old ts new xs kept seen moved) e h
