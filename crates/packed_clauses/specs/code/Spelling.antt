-- The bytes of numbers, terms and clauses.
use Rattle.std.specs.Prelude.{ℕ, zero, suc, ◌+◌, ◌-◌, ◌/◌, ◌%◌, if◌then◌else◌, Bool, List, [], ◌∷◌, ◌++◌}
use Rattle.std.specs.List.{concat, flat_map}
use Rattle.fof_terms.specs.declared.term.Term.{Term}
use Rattle.fof_terms.specs.declared.term.Term.TheFolds.{fold-Term}
use Rattle.clause_form.specs.declared.clause.AtomOf.{AtomOf}
use Rattle.clause_form.specs.declared.clause.AtomOf.TheVariants.{Pred, Eq, True, False}
use Rattle.clause_form.specs.declared.clause.Lit.{Lit}
use Rattle.clause_form.specs.declared.clause.Clause.{Clause}
use Rattle.packed_clauses.specs.declared.piece.Kind.{Kind}
use Rattle.packed_clauses.specs.declared.piece.Kind.TheVariants.{Sort, Variable, Open, Close, Predicate, Equation, Truth, Falsehood}
use Rattle.fof_terms.specs.declared.term.Term.TheOpen as term

abbrev pub code : Kind → ℕ
code Sort = 0
code Variable = 1
code Open = 2
code Close = 3
code (Predicate positive) = if positive then 4 else 5
code (Equation positive) = if positive then 6 else 7
code (Truth positive) = if positive then 8 else 9
code (Falsehood positive) = if positive then 10 else 11

abbrev pub two_digits : ℕ → List ℕ
two_digits n = (128 + n / 128) ∷ n % 128 ∷ []

abbrev pub five_digits : ℕ → List ℕ
five_digits n = (128 + n / 128 / 128 / 128 / 128) ∷ (128 + n / 128 / 128 / 128 % 128) ∷ (128 + n / 128 / 128 % 128)
    ∷ (128 + n / 128 % 128) ∷ n % 128 ∷ []

-- one digit, two or five, by whether the number is past 127 and past 16383
abbrev pub digits_past : ℕ → ℕ → ℕ → List ℕ
digits_past n zero more = n ∷ []
digits_past n (suc past) zero = two_digits n
digits_past n (suc past) (suc more) = five_digits n

-- the digits at base 128, the greatest first, with 128 more but for the last
unfoldable pub digits : ℕ → List ℕ
digits n = digits_past n (n - 127) (n - 16383)

abbrev pub spelled_piece : Kind → ℕ → List ℕ
spelled_piece k n = code k ∷ digits n

-- one layer of a term, with what its arguments are written as
abbrev pub spelled_step : term.Term-F (List ℕ) → List ℕ
spelled_step (term.Var k) = spelled_piece Variable k
spelled_step (term.App f args) = spelled_piece Open f ++ concat args ++ spelled_piece Close 0

unfoldable pub spelled_term : Term → List ℕ
spelled_term = fold-Term (List ℕ) spelled_step

abbrev pub spelled_terms : List Term → List ℕ
spelled_terms = flat_map spelled_term

abbrev pub spelled_atom : Bool → AtomOf → List ℕ
spelled_atom positive (Pred p ts) = spelled_terms ts ++ spelled_piece (Predicate positive) p
spelled_atom positive (Eq l r) = spelled_term l ++ spelled_term r ++ spelled_piece (Equation positive) 0
spelled_atom positive True = spelled_piece (Truth positive) 0
spelled_atom positive False = spelled_piece (Falsehood positive) 0

abbrev pub spelled_sorts : List ℕ → List ℕ
spelled_sorts = flat_map (spelled_piece Sort)

abbrev pub spelled_lits : List Lit → List ℕ
spelled_lits = flat_map (λ l. spelled_atom l.positive l.atom)

abbrev pub spelled_clause : Clause → List ℕ
spelled_clause c = spelled_sorts c.sorts ++ spelled_lits c.lits
