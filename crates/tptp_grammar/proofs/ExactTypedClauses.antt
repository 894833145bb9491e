-- The readers of typed clauses are exact and find all that is derived.
use Rattle.std.proofs.Common.{◌≡◌, true, ℕ, zero, suc, ◌+◌, ◌-◌, ◌≤◌, ◌<◌, List, ◌∷◌, length, Option, Some, Err, refl, sym, ◌∙◌, ap, arith}
use Rattle.first_fault.specs.Nesting.{plain}
use Rattle.first_fault.specs.code.Reading.{TooDeep, Reader, next}
use Rattle.first_fault.proofs.Exact.{Exact, Inhabited}
use Rattle.first_fault.proofs.Found.{Found, found_as}
use Rattle.first_fault.proofs.Good.{Good, GoodAt, After, after, both, widen, good_choice, behind_token, unmapped}
use Rattle.tptp_lexer.specs.declared.token.Token.{Token}
use Rattle.tptp_lexer.specs.declared.token.Token.TheVariants.{Mark as Sign}
use Rattle.tptp_lexer.specs.declared.token.Mark.TheVariants as m
use Rattle.tptp_base.specs.declared.surface.Quant.TheVariants as q
use Rattle.tptp_base.specs.declared.surface.Surface.{Surface}
use Rattle.tptp_grammar.specs.Tokens.{Tokens}
use Rattle.tptp_grammar.specs.Clauses.{IsClause}
use Rattle.tptp_grammar.specs.TypedClauses as g
use Rattle.tptp_grammar.specs.TypedClauses.{IsTypedClause}
use Rattle.tptp_grammar.specs.code.ReadFormulas.{quantified}
use Rattle.tptp_grammar.specs.code.ReadClauses.{clause}
use Rattle.tptp_grammar.specs.code.ReadTypedClauses.{typed_clause_at, typed_clause_by, deeper_clause, typed_clause}
use Rattle.tptp_grammar.proofs.Marks.{ends_literals}
use Rattle.tptp_grammar.proofs.ExactAtoms.{term_head, upper, lower, quoted, dollar}
use Rattle.tptp_grammar.proofs.ExactVariables.{moves_bound_variables}
use Rattle.tptp_grammar.proofs.ExactClauses.{basic_head, tilde, ClauseHead, open_head, literal_head, head_of_clause, moves_clause, some_clause, good_clause}
use Rattle.tptp_grammar.proofs.ExactScopes.{Scopes, Quantified, good_quantified}

pub moves_typed_clause : {d : ℕ} {f : Surface} {ts rest : Tokens} → IsTypedClause d f ts rest → length rest < length ts
moves_typed_clause (g.unquantified h) = moves_clause h
moves_typed_clause (g.quantified_clause h k) = omega (arith, moves_bound_variables h, moves_typed_clause k)

some_typed_clause : (d : ℕ) → Inhabited (IsTypedClause d)
some_typed_clause d = record { value = (some_clause d).value; text = (some_clause d).text; spells = λ rest. g.unquantified ((some_clause d).spells rest) }

-- ---- nesting

pub deeper_clause_is : (room levels : ℕ) (at us : List Token) → levels < room → deeper_clause room levels at us ≡ typed_clause (room - suc levels) us
unfolding deeper_clause typed_clause
deeper_clause_is zero levels at us lt = absurd (omega arith)
deeper_clause_is (suc room) zero at us lt = let e : suc room - 1 ≡ room = omega arith in ap (λ n. typed_clause_by n (deeper_clause n) us) (sym e)
deeper_clause_is (suc room) (suc levels) at us lt =
    let e : suc room - suc (suc levels) ≡ room - suc levels = omega arith in deeper_clause_is room levels at us (omega arith) ∙ ap (λ n. typed_clause n us) (sym e)

pub deeper_clause_none : (room levels : ℕ) (at us : List Token) → room ≤ levels → deeper_clause room levels at us ≡ Err (TooDeep, at)
unfolding deeper_clause
deeper_clause_none zero levels at us le = refl
deeper_clause_none (suc room) zero at us le = absurd (omega arith)
deeper_clause_none (suc room) (suc levels) at us le = deeper_clause_none room levels at us (omega arith)

scopes : Scopes IsTypedClause typed_clause deeper_clause
scopes = record { is = deeper_clause_is; none = deeper_clause_none; some = some_typed_clause }

-- ---- typed clauses

abbrev QuantifiedClause : ℕ → Surface → Tokens → Tokens → Type 0
QuantifiedClause d = After (Sign m.Bang) d (λ x. x) (Quantified IsTypedClause true d q.All)

of_quantified : (d : ℕ) (f : Surface) (ts rest : Tokens) → QuantifiedClause d f ts rest → IsTypedClause d f ts rest
of_quantified d f ts rest (after (both (after h) (after k))) = g.quantified_clause h k

of_clause : (d : ℕ) (f : Surface) (ts rest : Tokens) → IsClause d f ts rest → IsTypedClause d f ts rest
of_clause d f ts rest h = g.unquantified h

module _ (room d limit : ℕ) (e : limit ≡ d + room) (ih : (r d : ℕ) → r < room → limit ≡ d + r → Good limit (typed_clause r) (IsTypedClause d) ends_literals) where
  abbrev typed_from : Option Token → Reader Token Surface
  typed_from h = typed_clause_at room (deeper_clause room) h

  bang : GoodAt limit (Sign m.Bang) (typed_from (Some (Sign m.Bang))) (QuantifiedClause d) ends_literals
  bang = behind_token limit (Sign m.Bang) d (typed_from (Some (Sign m.Bang))) (λ x. x) (Quantified IsTypedClause true d q.All) ends_literals (quantified true room (deeper_clause room) q.All) (omega arith)
      (good_quantified IsTypedClause typed_clause deeper_clause scopes ends_literals room d limit e ih true q.All) (λ us. unmapped _ _ refl)

  exact_typed : (ts : List Token) → Exact (typed_from (next ts)) (IsTypedClause d) limit ts (typed_from (next ts) ts)
  exact_typed (Sign m.Bang ∷ ts) = widen (typed_from (Some (Sign m.Bang))) (QuantifiedClause d) (IsTypedClause d) limit (of_quantified d) (Sign m.Bang ∷ ts) (typed_from (Some (Sign m.Bang)) (Sign m.Bang ∷ ts)) (bang.exact ts)
  exact_typed ts = widen (clause room) (IsClause d) (IsTypedClause d) limit (of_clause d) ts (clause room ts) ((good_clause room d limit e).exact ts)

  typed_by_head : {h : Option Token} → ClauseHead h → (ts : List Token) → typed_from h ts ≡ clause room ts
  typed_by_head open_head ts = refl
  typed_by_head (literal_head (basic_head (term_head upper))) ts = refl
  typed_by_head (literal_head (basic_head (term_head lower))) ts = refl
  typed_by_head (literal_head (basic_head (term_head quoted))) ts = refl
  typed_by_head (literal_head (basic_head dollar)) ts = refl
  typed_by_head (literal_head tilde) ts = refl

  found_typed : (f : Surface) (ts rest : Tokens) → IsTypedClause d f ts rest → ends_literals (next (plain rest)) ≡ true → Found limit (typed_from (next (plain ts))) f ts rest
  found_typed f ts rest (g.unquantified h) k =
      found_as limit (typed_from (next (plain ts))) (clause room) f ts rest (typed_by_head (head_of_clause h) (plain ts)) ((good_clause room d limit e).found f ts rest h k)
  found_typed f ts rest (g.quantified_clause h l) k = bang.found f ts rest (after (both (after h) (after l))) k

  good_typed_from : Good limit (typed_clause room) (IsTypedClause d) ends_literals
  unfolding typed_clause typed_clause_by
  good_typed_from = good_choice limit (typed_clause room) typed_from (IsTypedClause d) ends_literals (λ us. refl) exact_typed found_typed (some_typed_clause d)

good_below : (bound room d limit : ℕ) → room < bound → limit ≡ d + room → Good limit (typed_clause room) (IsTypedClause d) ends_literals
good_below zero room d limit lt e = absurd (omega arith)
good_below (suc bound) room d limit lt e = good_typed_from room d limit e (λ r d' below is. good_below bound r d' limit (omega arith) is)

pub good_typed_clause : (room d limit : ℕ) → limit ≡ d + room → Good limit (typed_clause room) (IsTypedClause d) ends_literals
good_typed_clause room d limit e = good_below (suc room) room d limit (omega arith) e
