-- The readers of bound variables and of what stands under them are exact and find all that is derived, whatever it is
-- that they bind.
use Rattle.std.proofs.Common.{◌≡◌, Bool, true, ℕ, zero, suc, ◌+◌, ◌-◌, ◌≤◌, ◌<◌, List, [], ◌∷◌, length, Option, Some, Err, ◌⊎◌, inl, inr, refl, ap, arith}
use Rattle.first_fault.specs.Nesting.{plain}
use Rattle.first_fault.specs.code.Reading.{TooDeep, Reader, mapped, next}
use Rattle.first_fault.proofs.Exact.{Exact, Inhabited, Can, exact_stop}
use Rattle.first_fault.proofs.Found.{Found}
use Rattle.first_fault.proofs.Good.{Good, GoodAt, After, after, Both, good_both, good_choice, behind_token, over_token, always}
use Rattle.tptp_lexer.specs.declared.token.Token.{Token}
use Rattle.tptp_lexer.specs.declared.token.Token.TheVariants.{Mark as Sign}
use Rattle.tptp_lexer.specs.declared.token.Mark.TheVariants as m
use Rattle.tptp_base.specs.declared.surface.BoundVar.{BoundVar}
use Rattle.tptp_base.specs.declared.surface.Quant.{Quant}
use Rattle.tptp_base.specs.declared.surface.Surface.{Surface}
use Rattle.tptp_base.specs.declared.surface.Surface.TheVariants as fm
use Rattle.tptp_grammar.specs.Tokens.{Tokens}
use Rattle.tptp_grammar.specs.Formulas.{under}
use Rattle.tptp_grammar.specs.code.ReadFormulas.{Deeper, bracket, scope_at, scope, quantified}
use Rattle.tptp_grammar.proofs.ExactVariables.{IsBracket, good_bracket, some_in_bracket}

-- what is bound, at each nesting
abbrev pub Nested : Type 1
Nested = ℕ → Surface → Tokens → Tokens → Type 0

-- The reader of what is nested deeper is that of less room, or there is no room.
pub record Scopes (P : Nested) (p : ℕ → Reader Token Surface) (deeper : ℕ → Deeper) : Type 0 where
  pub is : (room levels : ℕ) (at us : List Token) → levels < room → deeper room levels at us ≡ p (room - suc levels) us
  pub none : (room levels : ℕ) (at us : List Token) → room ≤ levels → deeper room levels at us ≡ Err (TooDeep, at)
  pub some : (d : ℕ) → Inhabited (P d)

lt_or_le : (a b : ℕ) → (a < b) ⊎ (b ≤ a)
lt_or_le a zero = inr (omega arith)
lt_or_le zero (suc b) = inl (omega arith)
lt_or_le (suc a) (suc b) = elim (lt_or_le a b) [ inl h ↦ inl (omega arith) | inr h ↦ inr (omega arith) ]

under_is : (d : ℕ) (xs : List BoundVar) → under d xs ≡ d + length xs
under_is d [] = omega arith
under_is d (x ∷ xs) = omega (arith, under_is d xs)

abbrev pub Scope : Nested → ℕ → Quant → List BoundVar → Surface → Tokens → Tokens → Type 0
Scope P d q xs = After (Sign m.Colon) (under d xs) (fm.Bind q xs) (P (under d xs))

abbrev pub Quantified : Nested → Bool → ℕ → Quant → Surface → Tokens → Tokens → Type 0
Quantified P typed d q = Both (IsBracket typed d) (Scope P d q)

module _ (P : Nested) (p : ℕ → Reader Token Surface) (deeper : ℕ → Deeper) (scopes : Scopes P p deeper) (ends : Option Token → Bool) where
  some_scope : (d : ℕ) (q : Quant) (xs : List BoundVar) → Inhabited (Scope P d q xs)
  some_scope d q xs =
      let some = scopes.some (under d xs) in record { value = fm.Bind q xs some.value; text = λ rest. (Sign m.Colon, under d xs) ∷ some.text rest; spells = λ rest. after (some.spells rest) }

  module _ (room d limit : ℕ) (e : limit ≡ d + room) (ih : (r d : ℕ) → r < room → limit ≡ d + r → Good limit (p r) (P d) ends) where
    module _ (q : Quant) (x : BoundVar) (xs : List BoundVar) where
      abbrev scope_from : Option Token → Reader Token Surface
      scope_from h = scope_at (deeper room) q (x ∷ xs) h

      colon_scope : (length xs < room) ⊎ (room ≤ length xs) → GoodAt limit (Sign m.Colon) (scope_from (Some (Sign m.Colon))) (Scope P d q (x ∷ xs)) ends
      colon_scope (inl lt) =
          let level : under d (x ∷ xs) ≡ d + length xs + 1 = omega (arith, under_is d xs) in
          behind_token limit (Sign m.Colon) (under d (x ∷ xs)) (scope_from (Some (Sign m.Colon))) (fm.Bind q (x ∷ xs)) (P (under d (x ∷ xs))) ends (p (room - suc (length xs))) (omega arith)
          (ih (room - suc (length xs)) (under d (x ∷ xs)) (omega arith) (omega arith)) (λ us. ap (mapped (fm.Bind q (x ∷ xs))) (scopes.is room (length xs) (Sign m.Colon ∷ us) us lt))
      colon_scope (inr le) =
          let level : under d (x ∷ xs) ≡ d + length xs + 1 = omega (arith, under_is d xs) in
          over_token limit (Sign m.Colon) (under d (x ∷ xs)) (scope_from (Some (Sign m.Colon))) (fm.Bind q (x ∷ xs)) (P (under d (x ∷ xs))) ends (omega arith) (scopes.some (under d (x ∷ xs)))
          (λ us. ap (mapped (fm.Bind q (x ∷ xs))) (scopes.none room (length xs) (Sign m.Colon ∷ us) us le))

      colon_here : GoodAt limit (Sign m.Colon) (scope_from (Some (Sign m.Colon))) (Scope P d q (x ∷ xs)) ends
      colon_here = colon_scope (lt_or_le (length xs) room)

      exact_scope : (ts : List Token) → Exact (scope_from (next ts)) (Scope P d q (x ∷ xs)) limit ts (scope_from (next ts) ts)
      exact_scope (Sign m.Colon ∷ ts) = colon_here.exact ts
      exact_scope ts = exact_stop (scope_from (next ts)) (Scope P d q (x ∷ xs)) limit ts (some_scope d q (x ∷ xs)) (λ other k. refl)

      found_scope : (f : Surface) (ts rest : Tokens) → Scope P d q (x ∷ xs) f ts rest → ends (next (plain rest)) ≡ true → Found limit (scope_from (next (plain ts))) f ts rest
      found_scope f ts rest (after h) k = colon_here.found f ts rest (after h) k

      good_scope : Good limit (scope (deeper room) q (x ∷ xs)) (Scope P d q (x ∷ xs)) ends
      unfolding scope
      good_scope = good_choice limit (scope (deeper room) q (x ∷ xs)) scope_from (Scope P d q (x ∷ xs)) ends (λ us. refl) exact_scope found_scope (some_scope d q (x ∷ xs))

    scope_of : (typed : Bool) (q : Quant) (xs : List BoundVar) → Can (IsBracket typed d) xs → Good limit (scope (deeper room) q xs) (Scope P d q xs) ends
    scope_of typed q [] can = absurd (some_in_bracket can.spells refl)
    scope_of typed q (x ∷ xs) can = good_scope q x xs

    pub good_quantified : (typed : Bool) (q : Quant) → Good limit (quantified typed room (deeper room) q) (Quantified P typed d q) ends
    unfolding quantified
    good_quantified typed q =
        good_both limit (bracket typed room) (scope (deeper room) q) (IsBracket typed d) (Scope P d q) always ends (λ xs v mid rest h k. refl) (good_bracket typed room d limit e) (scope_of typed q)
