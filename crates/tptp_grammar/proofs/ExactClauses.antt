-- The readers of clauses are exact and find all that is derived.
use Rattle.std.proofs.Common.{◌≡◌, true, ℕ, zero, suc, ◌+◌, ◌<◌, List, [], ◌∷◌, length, Option, Some, Ok, inl, refl, arith}
use Rattle.first_fault.specs.Nesting.{plain}
use Rattle.first_fault.proofs.NestingFacts.{done}
use Rattle.first_fault.specs.code.Reading.{Reader, and_then, next, closed, separated}
use Rattle.first_fault.specs.Rules.{Listed, last, more}
use Rattle.first_fault.proofs.Exact.{Exact, Inhabited, exact_done}
use Rattle.first_fault.proofs.Found.{Found, found_as}
use Rattle.first_fault.proofs.Good.{Good, GoodAt, After, after, Both, both, widen, good_both, good_choice, behind_token, over_token, unmapped, always}
use Rattle.tptp_lexer.specs.declared.token.Token.{Token}
use Rattle.tptp_lexer.specs.declared.token.Token.TheVariants.{Lower, Mark as Sign}
use Rattle.tptp_lexer.specs.declared.token.Mark.TheVariants as m
use Rattle.tptp_base.specs.declared.surface.Surface.{Surface}
use Rattle.tptp_base.specs.declared.surface.Surface.TheVariants as fm
use Rattle.tptp_grammar.specs.Tokens.{Tokens}
use Rattle.tptp_grammar.specs.Terms as t
use Rattle.tptp_grammar.specs.Terms.{IsAtom}
use Rattle.tptp_grammar.specs.Clauses as g
use Rattle.tptp_grammar.specs.Clauses.{IsLiteral, IsClause}
use Rattle.tptp_grammar.specs.code.ReadTerms.{is_mark, atom, basic}
use Rattle.tptp_grammar.specs.code.ReadClauses.{atom_open, negated_at, negated, negative, literal_at, literal, literals_at, literals, clause_at, clause_by, clause_open, clause}
use Rattle.tptp_grammar.proofs.Marks.{ends_atom, ends_unit, unit_ends_atom, ends_literals, literals_end_unit, good_in, good_list}
use Rattle.tptp_grammar.proofs.ExactAtoms.{IsBasic, of_atom, of_inequation, upper, lower, quoted, BasicHead, term_head, dollar, head_of_atom, head_of_inequation, moves_atom, moves_inequation, some_atom, good_atom, good_basic}

pub moves_literal : {d : ℕ} {f : Surface} {ts rest : Tokens} → IsLiteral d f ts rest → length rest < length ts
moves_literal (g.positive h) = moves_atom h
moves_literal (g.unequal h) = moves_inequation h
moves_literal (g.negative h) = omega (arith, moves_atom h)
moves_literal (g.negative_in_parentheses h) = omega (arith, moves_atom h)

moves_bars : {d : ℕ} {fs : List Surface} {ts rest : Tokens} → Listed (Sign m.Bar) d (IsLiteral d) fs ts rest → length rest < length ts
moves_bars (last h) = moves_literal h
moves_bars (more h k) = omega (arith, moves_literal h, moves_bars k)

pub moves_clause : {d : ℕ} {f : Surface} {ts rest : Tokens} → IsClause d f ts rest → length rest < length ts
moves_clause (g.literal h) = moves_literal h
moves_clause (g.literals h k) = omega (arith, moves_literal h, moves_bars k)
moves_clause (g.clause_in_parentheses h) = omega (arith, moves_clause h)

-- ---- negative literals

abbrev EnclosedAtom : ℕ → Surface → Tokens → Tokens → Type 0
EnclosedAtom d f ts rest = IsAtom (suc d) f ts ((Sign m.Close, suc d) ∷ rest)

abbrev OpenAtom : ℕ → Surface → Tokens → Tokens → Type 0
OpenAtom d = After (Sign m.Open) (suc d) (λ x. x) (EnclosedAtom d)

some_enclosed : (d : ℕ) → Inhabited (EnclosedAtom d)
some_enclosed d = record { value = fm.Atom [] []; text = λ rest. (Lower [], suc d) ∷ (Sign m.Close, suc d) ∷ rest; spells = λ rest. t.predicate (t.constant refl) }

good_atom_open : (room d limit : ℕ) → limit ≡ d + room → GoodAt limit (Sign m.Open) (atom_open room) (OpenAtom d) always
unfolding atom_open
good_atom_open zero d limit e = over_token limit (Sign m.Open) (suc d) (atom_open zero) (λ x. x) (EnclosedAtom d) always (omega arith) (some_enclosed d) (λ us. refl)
good_atom_open (suc room) d limit e =
    behind_token limit (Sign m.Open) (suc d) (atom_open (suc room)) (λ x. x) (EnclosedAtom d) always (closed (is_mark m.Close) (atom room)) (omega arith)
    (good_in m.Close limit (suc d) (omega arith) (atom room) (IsAtom (suc d)) ends_atom always refl (good_atom room (suc d) limit (omega arith)))
    (λ us. unmapped _ _ refl)

-- behind the sign, under the nesting that it makes
data Negated (d : ℕ) : Surface → Tokens → Tokens → Type 0 where
  bare : {f : Surface} {ts rest : Tokens} → IsAtom d f ts rest → Negated d f ts rest
  enclosed : {f : Surface} {ts rest : Tokens} → OpenAtom d f ts rest → Negated d f ts rest

module _ (room d limit : ℕ) (e : limit ≡ d + room) where
  exact_negated : (ts : List Token) → Exact (negated_at room (next ts)) (Negated d) limit ts (negated_at room (next ts) ts)
  exact_negated (Sign m.Open ∷ ts) = widen (atom_open room) (OpenAtom d) (Negated d) limit (λ f us rest h. enclosed h) (Sign m.Open ∷ ts) (atom_open room (Sign m.Open ∷ ts)) ((good_atom_open room d limit e).exact ts)
  exact_negated ts = widen (atom room) (IsAtom d) (Negated d) limit (λ f us rest h. bare h) ts (atom room ts) ((good_atom room d limit e).exact ts)

  negated_by : {h : Option Token} → BasicHead h → (ts : List Token) → negated_at room h ts ≡ atom room ts
  negated_by (term_head upper) ts = refl
  negated_by (term_head lower) ts = refl
  negated_by (term_head quoted) ts = refl
  negated_by dollar ts = refl

  found_negated : (f : Surface) (ts rest : Tokens) → Negated d f ts rest → ends_unit (next (plain rest)) ≡ true → Found limit (negated_at room (next (plain ts))) f ts rest
  found_negated f ts rest (bare h) k =
      found_as limit (negated_at room (next (plain ts))) (atom room) f ts rest (negated_by (head_of_atom h) (plain ts)) ((good_atom room d limit e).found f ts rest h (unit_ends_atom (next (plain rest)) k))
  found_negated f ts rest (enclosed (after h)) k = (good_atom_open room d limit e).found f ts rest (after h) refl

  good_negated : Good limit (negated room) (Negated d) ends_unit
  unfolding negated
  good_negated = good_choice limit (negated room) (negated_at room) (Negated d) ends_unit (λ us. refl) exact_negated found_negated (record { value = (some_atom d).value; text = (some_atom d).text; spells = λ rest. bare ((some_atom d).spells rest) })

abbrev Negative : ℕ → Surface → Tokens → Tokens → Type 0
Negative d = After (Sign m.Tilde) (suc d) fm.Not (Negated (suc d))

good_negative : (room d limit : ℕ) → limit ≡ d + room → GoodAt limit (Sign m.Tilde) (negative room) (Negative d) ends_unit
unfolding negative
good_negative zero d limit e = over_token limit (Sign m.Tilde) (suc d) (negative zero) fm.Not (Negated (suc d)) ends_unit (omega arith)
    (record { value = (some_atom (suc d)).value; text = (some_atom (suc d)).text; spells = λ rest. bare ((some_atom (suc d)).spells rest) }) (λ us. refl)
good_negative (suc room) d limit e =
    behind_token limit (Sign m.Tilde) (suc d) (negative (suc room)) fm.Not (Negated (suc d)) ends_unit (negated room) (omega arith) (good_negated room (suc d) limit (omega arith)) (λ us. refl)

-- ---- literals

of_negative : (d : ℕ) (f : Surface) (ts rest : Tokens) → Negative d f ts rest → IsLiteral d f ts rest
of_negative d f ts rest (after (bare h)) = g.negative h
of_negative d f ts rest (after (enclosed (after h))) = g.negative_in_parentheses h

of_basic : (d : ℕ) (f : Surface) (ts rest : Tokens) → IsBasic d f ts rest → IsLiteral d f ts rest
of_basic d f ts rest (of_atom h) = g.positive h
of_basic d f ts rest (of_inequation h) = g.unequal h

some_literal : (d : ℕ) → Inhabited (IsLiteral d)
some_literal d = record { value = (some_atom d).value; text = (some_atom d).text; spells = λ rest. g.positive ((some_atom d).spells rest) }

module _ (room d limit : ℕ) (e : limit ≡ d + room) where
  exact_literal : (ts : List Token) → Exact (literal_at room (next ts)) (IsLiteral d) limit ts (literal_at room (next ts) ts)
  exact_literal (Sign m.Tilde ∷ ts) = widen (negative room) (Negative d) (IsLiteral d) limit (of_negative d) (Sign m.Tilde ∷ ts) (negative room (Sign m.Tilde ∷ ts)) ((good_negative room d limit e).exact ts)
  exact_literal ts = widen (basic room) (IsBasic d) (IsLiteral d) limit (of_basic d) ts (basic room ts) ((good_basic room d limit e).exact ts)

  literal_by : {h : Option Token} → BasicHead h → (ts : List Token) → literal_at room h ts ≡ basic room ts
  literal_by (term_head upper) ts = refl
  literal_by (term_head lower) ts = refl
  literal_by (term_head quoted) ts = refl
  literal_by dollar ts = refl

  found_literal : (f : Surface) (ts rest : Tokens) → IsLiteral d f ts rest → ends_unit (next (plain rest)) ≡ true → Found limit (literal_at room (next (plain ts))) f ts rest
  found_literal f ts rest (g.positive h) k = found_as limit (literal_at room (next (plain ts))) (basic room) f ts rest (literal_by (head_of_atom h) (plain ts)) ((good_basic room d limit e).found f ts rest (of_atom h) k)
  found_literal f ts rest (g.unequal h) k = found_as limit (literal_at room (next (plain ts))) (basic room) f ts rest (literal_by (head_of_inequation h) (plain ts)) ((good_basic room d limit e).found f ts rest (of_inequation h) k)
  found_literal f ts rest (g.negative h) k = (good_negative room d limit e).found f ts rest (after (bare h)) k
  found_literal f ts rest (g.negative_in_parentheses h) k = (good_negative room d limit e).found f ts rest (after (enclosed (after h))) k

  pub good_literal : Good limit (literal room) (IsLiteral d) ends_unit
  unfolding literal
  good_literal = good_choice limit (literal room) (literal_at room) (IsLiteral d) ends_unit (λ us. refl) exact_literal found_literal (some_literal d)

-- ---- clauses

abbrev Bars : ℕ → List Surface → Tokens → Tokens → Type 0
Bars d = Listed (Sign m.Bar) d (IsLiteral d)

data Literals (d : ℕ) (a : Surface) : Surface → Tokens → Tokens → Type 0 where
  alone : {rest : Tokens} → Literals d a a rest rest
  with_bars : {f : Surface} {ts rest : Tokens} → After (Sign m.Bar) d (λ fs. fm.Or (a ∷ fs)) (Bars d) f ts rest → Literals d a f ts rest

join_parts : {d : ℕ} {a f : Surface} {ts mid rest : Tokens} → IsLiteral d a ts mid → Literals d a f mid rest → IsClause d f ts rest
join_parts h alone = g.literal h
join_parts h (with_bars (after k)) = g.literals h k

join_literals : (d : ℕ) (f : Surface) (ts rest : Tokens) → Both (IsLiteral d) (Literals d) f ts rest → IsClause d f ts rest
join_literals d f ts rest (both h k) = join_parts h k

literals_link : (d : ℕ) (a v : Surface) (mid rest : Tokens) → Literals d a v mid rest → ends_literals (next (plain rest)) ≡ true → ends_unit (next (plain mid)) ≡ true
literals_link d a v mid rest alone e = (literals_end_unit (next (plain rest)) e).0
literals_link d a v mid rest (with_bars (after k)) e = refl

module _ (room d limit : ℕ) (e : limit ≡ d + room) (a : Surface) where
  bars : GoodAt limit (Sign m.Bar) (literals_at room a (Some (Sign m.Bar))) (After (Sign m.Bar) d (λ fs. fm.Or (a ∷ fs)) (Bars d)) ends_literals
  bars = behind_token limit (Sign m.Bar) d (literals_at room a (Some (Sign m.Bar))) (λ fs. fm.Or (a ∷ fs)) (Bars d) ends_literals (separated (is_mark m.Bar) (literal room)) (omega arith)
      (good_list m.Bar limit d (omega arith) (literal room) (IsLiteral d) ends_unit ends_literals (good_literal room d limit e) (λ x ts rest h. moves_literal h) refl literals_end_unit) (λ us. refl)

  exact_literals : (ts : List Token) → Exact (literals_at room a (next ts)) (Literals d a) limit ts (literals_at room a (next ts) ts)
  exact_literals (Sign m.Bar ∷ ts) =
      widen (literals_at room a (Some (Sign m.Bar))) (After (Sign m.Bar) d (λ fs. fm.Or (a ∷ fs)) (Bars d)) (Literals d a) limit (λ f us rest h. with_bars h) (Sign m.Bar ∷ ts) (literals_at room a (Some (Sign m.Bar)) (Sign m.Bar ∷ ts)) (bars.exact ts)
  exact_literals ts = exact_done (literals_at room a (next ts)) (Literals d a) limit ts a (λ rest. alone) (λ other k. refl)

  literals_end : (h : Option Token) → ends_literals h ≡ true → (ts : List Token) → literals_at room a h ts ≡ Ok (a, ts)
  literals_end (Some (Sign m.Bar)) k ts = cc
  literals_end h k ts = refl

  found_literals : (f : Surface) (ts rest : Tokens) → Literals d a f ts rest → ends_literals (next (plain rest)) ≡ true → Found limit (literals_at room a (next (plain ts))) f ts rest
  found_literals f ts rest alone k = inl (done, literals_end (next (plain rest)) k (plain rest))
  found_literals f ts rest (with_bars (after h)) k = bars.found f ts rest (after h) k

  good_literals : Good limit (literals room a) (Literals d a) ends_literals
  unfolding literals
  good_literals = good_choice limit (literals room a) (literals_at room a) (Literals d a) ends_literals (λ us. refl) exact_literals found_literals (record { value = a; text = λ rest. rest; spells = λ rest. alone })

-- what a literal begins with
pub data LiteralHead : Option Token → Type 0 where
  basic_head : {h : Option Token} → BasicHead h → LiteralHead h
  tilde : LiteralHead (Some (Sign m.Tilde))

head_of_literal : {d : ℕ} {f : Surface} {ts rest : Tokens} → IsLiteral d f ts rest → LiteralHead (next (plain ts))
head_of_literal (g.positive h) = basic_head (head_of_atom h)
head_of_literal (g.unequal h) = basic_head (head_of_inequation h)
head_of_literal (g.negative h) = tilde
head_of_literal (g.negative_in_parentheses h) = tilde

-- what a clause begins with
pub data ClauseHead : Option Token → Type 0 where
  literal_head : {h : Option Token} → LiteralHead h → ClauseHead h
  open_head : ClauseHead (Some (Sign m.Open))

pub head_of_clause : {d : ℕ} {f : Surface} {ts rest : Tokens} → IsClause d f ts rest → ClauseHead (next (plain ts))
head_of_clause (g.literal h) = literal_head (head_of_literal h)
head_of_clause (g.literals h k) = literal_head (head_of_literal h)
head_of_clause (g.clause_in_parentheses h) = open_head

abbrev EnclosedClause : ℕ → Surface → Tokens → Tokens → Type 0
EnclosedClause d f ts rest = IsClause (suc d) f ts ((Sign m.Close, suc d) ∷ rest)

abbrev OpenClause : ℕ → Surface → Tokens → Tokens → Type 0
OpenClause d = After (Sign m.Open) (suc d) (λ x. x) (EnclosedClause d)

of_open_clause : (d : ℕ) (f : Surface) (ts rest : Tokens) → OpenClause d f ts rest → IsClause d f ts rest
of_open_clause d f ts rest (after h) = g.clause_in_parentheses h

pub some_clause : (d : ℕ) → Inhabited (IsClause d)
some_clause d = record { value = (some_atom d).value; text = (some_atom d).text; spells = λ rest. g.literal (g.positive ((some_atom d).spells rest)) }

module _ (room d limit : ℕ) (e : limit ≡ d + room) (nested : Reader Token Surface) (good : GoodAt limit (Sign m.Open) nested (OpenClause d) always) where
  abbrev from_literal : Reader Token Surface
  from_literal ts = and_then (literal room ts) (literals room)

  good_from_literal : Good limit from_literal (Both (IsLiteral d) (Literals d)) ends_literals
  good_from_literal = good_both limit (literal room) (literals room) (IsLiteral d) (Literals d) ends_unit ends_literals (literals_link d) (good_literal room d limit e) (λ a can. good_literals room d limit e a)

  exact_clause : (ts : List Token) → Exact (clause_at room nested (next ts)) (IsClause d) limit ts (clause_at room nested (next ts) ts)
  exact_clause (Sign m.Open ∷ ts) = widen nested (OpenClause d) (IsClause d) limit (of_open_clause d) (Sign m.Open ∷ ts) (nested (Sign m.Open ∷ ts)) (good.exact ts)
  exact_clause ts = widen from_literal (Both (IsLiteral d) (Literals d)) (IsClause d) limit (join_literals d) ts (from_literal ts) (good_from_literal.exact ts)

  clause_by_head : {h : Option Token} → LiteralHead h → (ts : List Token) → clause_at room nested h ts ≡ from_literal ts
  clause_by_head (basic_head (term_head upper)) ts = refl
  clause_by_head (basic_head (term_head lower)) ts = refl
  clause_by_head (basic_head (term_head quoted)) ts = refl
  clause_by_head (basic_head dollar) ts = refl
  clause_by_head tilde ts = refl

  found_clause : (f : Surface) (ts rest : Tokens) → IsClause d f ts rest → ends_literals (next (plain rest)) ≡ true → Found limit (clause_at room nested (next (plain ts))) f ts rest
  found_clause f ts rest (g.literal h) k =
      found_as limit (clause_at room nested (next (plain ts))) from_literal f ts rest (clause_by_head (head_of_literal h) (plain ts)) (good_from_literal.found f ts rest (both h alone) k)
  found_clause f ts rest (g.literals h l) k =
      found_as limit (clause_at room nested (next (plain ts))) from_literal f ts rest (clause_by_head (head_of_literal h) (plain ts)) (good_from_literal.found f ts rest (both h (with_bars (after l))) k)
  found_clause f ts rest (g.clause_in_parentheses h) k = good.found f ts rest (after h) refl

  good_clause_by : Good limit (clause_by room nested) (IsClause d) ends_literals
  unfolding clause_by
  good_clause_by = good_choice limit (clause_by room nested) (clause_at room nested) (IsClause d) ends_literals (λ us. refl) exact_clause found_clause (some_clause d)

good_clause_open : (room d limit : ℕ) → limit ≡ d + room → GoodAt limit (Sign m.Open) (clause_open room) (OpenClause d) always
unfolding clause_open
good_clause_open zero d limit e = over_token limit (Sign m.Open) (suc d) (clause_open zero) (λ x. x) (EnclosedClause d) always (omega arith)
    (record { value = fm.Atom [] []; text = λ rest. (Lower [], suc d) ∷ (Sign m.Close, suc d) ∷ rest; spells = λ rest. g.literal (g.positive (t.predicate (t.constant refl))) }) (λ us. refl)
good_clause_open (suc room) d limit e =
    behind_token limit (Sign m.Open) (suc d) (clause_open (suc room)) (λ x. x) (EnclosedClause d) always (closed (is_mark m.Close) (clause_by room (clause_open room))) (omega arith)
    (good_in m.Close limit (suc d) (omega arith) (clause_by room (clause_open room)) (IsClause (suc d)) ends_literals always refl
    (good_clause_by room (suc d) limit (omega arith) (clause_open room) (good_clause_open room (suc d) limit (omega arith))))
    (λ us. unmapped _ _ refl)

pub good_clause : (room d limit : ℕ) → limit ≡ d + room → Good limit (clause room) (IsClause d) ends_literals
unfolding clause
good_clause room d limit e = good_clause_by room d limit e (clause_open room) (good_clause_open room d limit e)
