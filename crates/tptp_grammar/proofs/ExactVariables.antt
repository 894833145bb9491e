-- The readers of bound variables are exact and find all that is derived.
use Rattle.std.proofs.Common.{◌≡◌, Bool, true, false, ℕ, zero, suc, ◌+◌, ◌≤◌, ◌<◌, List, [], ◌∷◌, length, Option, Some, None, Ok, inl, refl, arith}
use Rattle.first_fault.specs.Nesting.{plain}
use Rattle.first_fault.proofs.NestingFacts.{done}
use Rattle.first_fault.specs.code.Reading.{next, closed, separated}
use Rattle.first_fault.specs.Rules.{Listed, last, more}
use Rattle.first_fault.proofs.Exact.{Exact, Inhabited, exact_done, exact_stop}
use Rattle.first_fault.proofs.Found.{Found, found_as}
use Rattle.first_fault.proofs.Good.{Good, GoodAt, After, after, widen, good_choice, behind_token, over_token, unmapped, always}
use Rattle.tptp_lexer.specs.declared.token.Token.{Token}
use Rattle.tptp_lexer.specs.declared.token.Token.TheVariants.{Upper, Mark as Sign}
use Rattle.tptp_lexer.specs.declared.token.Mark.TheVariants as m
use Rattle.tptp_base.specs.declared.surface.BoundVar.{BoundVar}
use Rattle.tptp_grammar.specs.Tokens.{Text, Tokens}
use Rattle.tptp_grammar.specs.Types.{IsArgumentSort}
use Rattle.tptp_grammar.specs.Formulas as g
use Rattle.tptp_grammar.specs.Formulas.{IsBoundVariable, AreBoundVariables}
use Rattle.tptp_grammar.specs.code.ReadTerms.{is_mark, same_mark}
use Rattle.tptp_grammar.specs.code.ReadTypes.{argument_sort}
use Rattle.tptp_grammar.specs.code.ReadFormulas.{bound_of, sorted_at, sorted, bound_variable_at, bound_variable, bound_variables, bracket_at, bracket}
use Rattle.tptp_grammar.proofs.Marks.{closes_list, sees_mark, good_in, good_list}
use Rattle.tptp_grammar.proofs.ExactSorts.{moves_argument_sort, good_argument_sort}

-- ---- each takes a token

pub moves_bound_variable : {typed : Bool} {d : ℕ} {x : BoundVar} {ts rest : Tokens} → IsBoundVariable typed d x ts rest → length rest < length ts
moves_bound_variable g.untyped_variable = omega arith
moves_bound_variable (g.typed_variable e h) = omega (arith, moves_argument_sort h)

pub moves_bound_variables : {typed : Bool} {d : ℕ} {xs : List BoundVar} {ts rest : Tokens} → Listed (Sign m.Comma) d (IsBoundVariable typed d) xs ts rest → length rest < length ts
moves_bound_variables (last h) = moves_bound_variable h
moves_bound_variables (more h k) = omega (arith, moves_bound_variable h, moves_bound_variables k)

-- ---- bound variables

abbrev ends_variable : Option Token → Bool
ends_variable (Some (Sign m.Colon)) = false
ends_variable _ = true

pub data Sorted (typed : Bool) (d : ℕ) (x : Text) : BoundVar → Tokens → Tokens → Type 0 where
  no_sort : {rest : Tokens} → Sorted typed d x (bound_of x None) rest rest
  with_sort : {v : BoundVar} {ts rest : Tokens} → typed ≡ true → After (Sign m.Colon) d (λ s. bound_of x (Some s)) (IsArgumentSort d) v ts rest → Sorted typed d x v ts rest

of_sorted : (typed : Bool) (d : ℕ) (x : Text) (v : BoundVar) (ts rest : Tokens) → After (Upper x) d (λ y. y) (Sorted typed d x) v ts rest → IsBoundVariable typed d v ts rest
of_sorted typed d x v ts rest (after no_sort) = g.untyped_variable
of_sorted typed d x v ts rest (after (with_sort e (after h))) = g.typed_variable e h

some_variable : (typed : Bool) (d : ℕ) → Inhabited (IsBoundVariable typed d)
some_variable typed d = record { value = bound_of [] None; text = λ rest. (Upper [], d) ∷ rest; spells = λ rest. g.untyped_variable }

module _ (d limit : ℕ) (fits : d ≤ limit) (x : Text) where
  colon : GoodAt limit (Sign m.Colon) (sorted_at true x (Some (Sign m.Colon))) (After (Sign m.Colon) d (λ s. bound_of x (Some s)) (IsArgumentSort d)) always
  colon = behind_token limit (Sign m.Colon) d (sorted_at true x (Some (Sign m.Colon))) (λ s. bound_of x (Some s)) (IsArgumentSort d) always argument_sort fits (good_argument_sort d limit fits) (λ us. refl)

  exact_sorted : (typed : Bool) (ts : List Token) → Exact (sorted_at typed x (next ts)) (Sorted typed d x) limit ts (sorted_at typed x (next ts) ts)
  exact_sorted true (Sign m.Colon ∷ ts) =
      widen (sorted_at true x (Some (Sign m.Colon))) (After (Sign m.Colon) d (λ s. bound_of x (Some s)) (IsArgumentSort d)) (Sorted true d x) limit (λ v us rest h. with_sort refl h) (Sign m.Colon ∷ ts) (sorted_at true x (Some (Sign m.Colon)) (Sign m.Colon ∷ ts)) (colon.exact ts)
  exact_sorted true ts = exact_done (sorted_at true x (next ts)) (Sorted true d x) limit ts (bound_of x None) (λ rest. no_sort) (λ other e. refl)
  exact_sorted false ts = exact_done (sorted_at false x (next ts)) (Sorted false d x) limit ts (bound_of x None) (λ rest. no_sort) (λ other e. refl)

  sorted_ends : (typed : Bool) (h : Option Token) → ends_variable h ≡ true → (ts : List Token) → sorted_at typed x h ts ≡ Ok (bound_of x None, ts)
  sorted_ends true (Some (Sign m.Colon)) e ts = cc
  sorted_ends true h e ts = refl
  sorted_ends false h e ts = refl

  sorted_colon : (typed : Bool) → typed ≡ true → (ts : List Token) → sorted_at typed x (Some (Sign m.Colon)) ts ≡ sorted_at true x (Some (Sign m.Colon)) ts
  sorted_colon true e ts = refl
  sorted_colon false e ts = cc

  found_sorted : (typed : Bool) (v : BoundVar) (ts rest : Tokens) → Sorted typed d x v ts rest → ends_variable (next (plain rest)) ≡ true → Found limit (sorted_at typed x (next (plain ts))) v ts rest
  found_sorted typed v ts rest no_sort k = inl (done, sorted_ends typed (next (plain rest)) k (plain rest))
  found_sorted typed v ts rest (with_sort e (after {ts = us} h)) k =
      found_as limit (sorted_at typed x (Some (Sign m.Colon))) (sorted_at true x (Some (Sign m.Colon))) v ((Sign m.Colon, d) ∷ us) rest (sorted_colon typed e (Sign m.Colon ∷ plain us)) (colon.found v ((Sign m.Colon, d) ∷ us) rest (after h) refl)

  good_sorted : (typed : Bool) → Good limit (sorted typed x) (Sorted typed d x) ends_variable
  unfolding sorted
  good_sorted typed = good_choice limit (sorted typed x) (sorted_at typed x) (Sorted typed d x) ends_variable (λ us. refl) (exact_sorted typed) (found_sorted typed) (record { value = bound_of x None; text = λ rest. rest; spells = λ rest. no_sort })

module _ (typed : Bool) (d limit : ℕ) (fits : d ≤ limit) where
  named : (x : Text) → GoodAt limit (Upper x) (bound_variable_at typed (Some (Upper x))) (After (Upper x) d (λ y. y) (Sorted typed d x)) ends_variable
  named x = behind_token limit (Upper x) d (bound_variable_at typed (Some (Upper x))) (λ y. y) (Sorted typed d x) ends_variable (sorted typed x) fits (good_sorted d limit fits x typed) (λ us. unmapped _ _ refl)

  exact_bound_variable : (ts : List Token) → Exact (bound_variable_at typed (next ts)) (IsBoundVariable typed d) limit ts (bound_variable_at typed (next ts) ts)
  exact_bound_variable (Upper x ∷ ts) =
      widen (bound_variable_at typed (Some (Upper x))) (After (Upper x) d (λ y. y) (Sorted typed d x)) (IsBoundVariable typed d) limit (of_sorted typed d x) (Upper x ∷ ts) (bound_variable_at typed (Some (Upper x)) (Upper x ∷ ts)) ((named x).exact ts)
  exact_bound_variable ts = exact_stop (bound_variable_at typed (next ts)) (IsBoundVariable typed d) limit ts (some_variable typed d) (λ other e. refl)

  found_bound_variable : (v : BoundVar) (ts rest : Tokens) → IsBoundVariable typed d v ts rest → ends_variable (next (plain rest)) ≡ true → Found limit (bound_variable_at typed (next (plain ts))) v ts rest
  found_bound_variable v ts rest (g.untyped_variable {x = x}) k = (named x).found v ts rest (after no_sort) k
  found_bound_variable v ts rest (g.typed_variable {x = x} e h) k = (named x).found v ts rest (after (with_sort e (after h))) k

  pub good_bound_variable : Good limit (bound_variable typed) (IsBoundVariable typed d) ends_variable
  unfolding bound_variable
  good_bound_variable = good_choice limit (bound_variable typed) (bound_variable_at typed) (IsBoundVariable typed d) ends_variable (λ us. refl) exact_bound_variable found_bound_variable (some_variable typed d)

abbrev pub EnclosedVariables : Bool → ℕ → List BoundVar → Tokens → Tokens → Type 0
EnclosedVariables typed d xs ts rest = AreBoundVariables typed (suc d) xs ts ((Sign m.CloseList, suc d) ∷ rest)

abbrev pub IsBracket : Bool → ℕ → List BoundVar → Tokens → Tokens → Type 0
IsBracket typed d = After (Sign m.OpenList) (suc d) (λ xs. xs) (EnclosedVariables typed d)

closed_variables : (h : Option Token) → closes_list h ≡ true → (ends_variable h ≡ true) × (sees_mark m.Comma h ≡ false)
unfolding same_mark
closed_variables (Some (Sign m.CloseList)) e = (refl, refl)
closed_variables h e = cc

some_enclosed : (typed : Bool) (d : ℕ) → Inhabited (EnclosedVariables typed d)
some_enclosed typed d = record { value = bound_of [] None ∷ []; text = λ rest. (Upper [], suc d) ∷ (Sign m.CloseList, suc d) ∷ rest; spells = λ rest. last g.untyped_variable }

good_bound_variables : (typed : Bool) (room d limit : ℕ) → limit ≡ d + room → GoodAt limit (Sign m.OpenList) (bound_variables typed room) (IsBracket typed d) always
unfolding bound_variables
good_bound_variables typed zero d limit e = over_token limit (Sign m.OpenList) (suc d) (bound_variables typed zero) (λ xs. xs) (EnclosedVariables typed d) always (omega arith) (some_enclosed typed d) (λ us. refl)
good_bound_variables typed (suc room) d limit e =
    behind_token limit (Sign m.OpenList) (suc d) (bound_variables typed (suc room)) (λ xs. xs) (EnclosedVariables typed d) always (closed (is_mark m.CloseList) (separated (is_mark m.Comma) (bound_variable typed))) (omega arith)
    (good_in m.CloseList limit (suc d) (omega arith) (separated (is_mark m.Comma) (bound_variable typed)) (AreBoundVariables typed (suc d)) closes_list always refl
    (good_list m.Comma limit (suc d) (omega arith) (bound_variable typed) (IsBoundVariable typed (suc d)) ends_variable closes_list (good_bound_variable typed (suc d) limit (omega arith)) (λ x ts rest h. moves_bound_variable h) refl closed_variables))
    (λ us. unmapped _ _ refl)

module _ (typed : Bool) (room d limit : ℕ) (e : limit ≡ d + room) where
  some_bracket : Inhabited (IsBracket typed d)
  some_bracket = record { value = (some_enclosed typed d).value; text = λ rest. (Sign m.OpenList, suc d) ∷ (some_enclosed typed d).text rest; spells = λ rest. after ((some_enclosed typed d).spells rest) }

  exact_bracket : (ts : List Token) → Exact (bracket_at typed room (next ts)) (IsBracket typed d) limit ts (bracket_at typed room (next ts) ts)
  exact_bracket (Sign m.OpenList ∷ ts) = (good_bound_variables typed room d limit e).exact ts
  exact_bracket ts = exact_stop (bracket_at typed room (next ts)) (IsBracket typed d) limit ts some_bracket (λ other k. refl)

  found_bracket : (xs : List BoundVar) (ts rest : Tokens) → IsBracket typed d xs ts rest → Found limit (bracket_at typed room (next (plain ts))) xs ts rest
  found_bracket xs ts rest (after h) = (good_bound_variables typed room d limit e).found xs ts rest (after h) refl

  pub good_bracket : Good limit (bracket typed room) (IsBracket typed d) always
  unfolding bracket
  good_bracket = good_choice limit (bracket typed room) (bracket_at typed room) (IsBracket typed d) always (λ us. refl) exact_bracket (λ xs ts rest h k. found_bracket xs ts rest h) some_bracket

some_variables : {typed : Bool} {d : ℕ} {xs : List BoundVar} {ts rest : Tokens} → Listed (Sign m.Comma) d (IsBoundVariable typed d) xs ts rest → xs ≡ [] → ⊥
some_variables (last h) e = cc
some_variables (more h k) e = cc

pub some_in_bracket : {typed : Bool} {d : ℕ} {xs : List BoundVar} {ts rest : Tokens} → IsBracket typed d xs ts rest → xs ≡ [] → ⊥
some_in_bracket (after h) e = some_variables h e
