-- The readers of formulas are exact and find all that is derived.
use Rattle.std.proofs.Common.{◌≡◌, Bool, true, ℕ, zero, suc, ◌+◌, ◌-◌, ◌≤◌, ◌<◌, List, [], ◌∷◌, length, Option, Some, Ok, Err, inl, refl, sym, ◌∙◌, ap, arith}
use Rattle.first_fault.specs.Nesting.{plain}
use Rattle.first_fault.proofs.NestingFacts.{done}
use Rattle.first_fault.specs.code.Reading.{TooDeep, Reader, mapped, next, closed, separated}
use Rattle.first_fault.specs.Rules.{Listed, last, more}
use Rattle.first_fault.proofs.Exact.{Exact, Inhabited, exact_done}
use Rattle.first_fault.proofs.Found.{Found, found_as}
use Rattle.first_fault.proofs.Good.{Good, GoodAt, After, after, Both, both, widen, good_as, good_both, good_choice, behind_token, over_token, unmapped, always}
use Rattle.tptp_lexer.specs.declared.token.Token.{Token}
use Rattle.tptp_lexer.specs.declared.token.Token.TheVariants.{Lower, Mark as Sign}
use Rattle.tptp_lexer.specs.declared.token.Mark.{Mark}
use Rattle.tptp_lexer.specs.declared.token.Mark.TheVariants as m
use Rattle.tptp_base.specs.declared.surface.BinOp.{BinOp}
use Rattle.tptp_base.specs.declared.surface.BinOp.TheVariants as op
use Rattle.tptp_base.specs.declared.surface.Quant.{Quant}
use Rattle.tptp_base.specs.declared.surface.Quant.TheVariants as q
use Rattle.tptp_base.specs.declared.surface.Surface.{Surface}
use Rattle.tptp_base.specs.declared.surface.Surface.TheVariants as fm
use Rattle.tptp_grammar.specs.Tokens.{Tokens, operator, quantifier}
use Rattle.tptp_grammar.specs.Terms as t
use Rattle.tptp_grammar.specs.Formulas as g
use Rattle.tptp_grammar.specs.Formulas.{IsUnit, IsFormula, AreUnits}
use Rattle.tptp_grammar.specs.code.ReadTerms.{is_mark, basic}
use Rattle.tptp_grammar.specs.code.ReadFormulas.{joined_at, joined, formula_by, quantified, unit_at, unit_by, deeper, unit, formula}
use Rattle.tptp_grammar.proofs.Marks.{ends_unit, ends_formula, formula_ends_unit, formula_ends_units, separates, good_in, good_list}
use Rattle.tptp_grammar.proofs.ExactAtoms.{IsBasic, of_atom, of_inequation, upper, lower, quoted, BasicHead, term_head, dollar, head_of_atom, head_of_inequation, moves_atom, moves_inequation, some_atom, good_basic}
use Rattle.tptp_grammar.proofs.ExactVariables.{moves_bound_variables}
use Rattle.tptp_grammar.proofs.ExactScopes.{Scopes, Quantified, good_quantified}

-- ---- each takes a token

mutual
  pub moves_unit : {typed : Bool} {d : ℕ} {f : Surface} {ts rest : Tokens} → IsUnit typed d f ts rest → length rest < length ts
  moves_unit (g.negation h) = omega (arith, moves_unit h)
  moves_unit (g.parenthesis h) = omega (arith, moves_formula h)
  moves_unit (g.quantified e h k) = omega (arith, moves_bound_variables h, moves_unit k)
  moves_unit (g.atom h) = moves_atom h
  moves_unit (g.unequal h) = moves_inequation h

  pub moves_formula : {typed : Bool} {d : ℕ} {f : Surface} {ts rest : Tokens} → IsFormula typed d f ts rest → length rest < length ts
  moves_formula (g.single h) = moves_unit h
  moves_formula (g.binary e h k) = omega (arith, moves_unit h, moves_unit k)
  moves_formula (g.disjunction h k) = omega (arith, moves_unit h, moves_units k)
  moves_formula (g.conjunction h k) = omega (arith, moves_unit h, moves_units k)

  moves_units : {typed : Bool} {mark : Mark} {d : ℕ} {fs : List Surface} {ts rest : Tokens} → AreUnits typed mark d fs ts rest → length rest < length ts
  moves_units (g.last_unit h) = moves_unit h
  moves_units (g.more_units h k) = omega (arith, moves_unit h, moves_units k)

-- ---- behind a unit

units_of : {typed : Bool} {mark : Mark} {d : ℕ} {fs : List Surface} {ts rest : Tokens} → Listed (Sign mark) d (IsUnit typed d) fs ts rest → AreUnits typed mark d fs ts rest
units_of (last h) = g.last_unit h
units_of (more h k) = g.more_units h (units_of k)

of_units : {typed : Bool} {mark : Mark} {d : ℕ} {fs : List Surface} {ts rest : Tokens} → AreUnits typed mark d fs ts rest → Listed (Sign mark) d (IsUnit typed d) fs ts rest
of_units (g.last_unit h) = last h
of_units (g.more_units h k) = more h (of_units k)

data Joined (typed : Bool) (d : ℕ) (a : Surface) : Surface → Tokens → Tokens → Type 0 where
  alone : {rest : Tokens} → Joined typed d a a rest rest
  with_operator : {mark : Mark} {o : BinOp} {f : Surface} {ts rest : Tokens} → operator mark ≡ Some o → After (Sign mark) d (fm.Binary o a) (IsUnit typed d) f ts rest → Joined typed d a f ts rest
  with_bars : {f : Surface} {ts rest : Tokens} → After (Sign m.Bar) d (λ fs. fm.Or (a ∷ fs)) (AreUnits typed m.Bar d) f ts rest → Joined typed d a f ts rest
  with_ampersands : {f : Surface} {ts rest : Tokens} → After (Sign m.Ampersand) d (λ fs. fm.And (a ∷ fs)) (AreUnits typed m.Ampersand d) f ts rest → Joined typed d a f ts rest

join_parts : {typed : Bool} {d : ℕ} {a f : Surface} {ts mid rest : Tokens} → IsUnit typed d a ts mid → Joined typed d a f mid rest → IsFormula typed d f ts rest
join_parts h alone = g.single h
join_parts h (with_operator e (after k)) = g.binary e h k
join_parts h (with_bars (after k)) = g.disjunction h k
join_parts h (with_ampersands (after k)) = g.conjunction h k

join_joined : (typed : Bool) (d : ℕ) (f : Surface) (ts rest : Tokens) → Both (IsUnit typed d) (Joined typed d) f ts rest → IsFormula typed d f ts rest
join_joined typed d f ts rest (both h k) = join_parts h k

split_joined : (typed : Bool) (d : ℕ) (f : Surface) (ts rest : Tokens) → IsFormula typed d f ts rest → Both (IsUnit typed d) (Joined typed d) f ts rest
split_joined typed d f ts rest (g.single h) = both h alone
split_joined typed d f ts rest (g.binary e h k) = both h (with_operator e (after k))
split_joined typed d f ts rest (g.disjunction h k) = both h (with_bars (after k))
split_joined typed d f ts rest (g.conjunction h k) = both h (with_ampersands (after k))

operator_ends : (mark : Mark) (o : BinOp) → operator mark ≡ Some o → ends_unit (Some (Sign mark)) ≡ true
operator_ends m.Imp o e = refl
operator_ends m.RevImp o e = refl
operator_ends m.Iff o e = refl
operator_ends m.Xor o e = refl
operator_ends m.Nor o e = refl
operator_ends m.Nand o e = refl
operator_ends mark o e = cc

joined_link : (typed : Bool) (d : ℕ) (a v : Surface) (mid rest : Tokens) → Joined typed d a v mid rest → ends_formula (next (plain rest)) ≡ true → ends_unit (next (plain mid)) ≡ true
joined_link typed d a v mid rest alone e = formula_ends_unit (next (plain rest)) e
joined_link typed d a v mid rest (with_operator {mark = mark} {o = o} is (after k)) e = operator_ends mark o is
joined_link typed d a v mid rest (with_bars (after k)) e = refl
joined_link typed d a v mid rest (with_ampersands (after k)) e = refl

module _ (typed : Bool) (d limit : ℕ) (fits : d ≤ limit) (u : Reader Token Surface) (good : Good limit u (IsUnit typed d) ends_unit) where
  good_units : (mark : Mark) → separates mark ≡ true → ends_unit (Some (Sign mark)) ≡ true → Good limit (separated (is_mark mark) u) (AreUnits typed mark d) ends_formula
  good_units mark joins goes =
      good_as limit (separated (is_mark mark) u) (Listed (Sign mark) d (IsUnit typed d)) (AreUnits typed mark d) ends_formula ends_formula
      (good_list mark limit d fits u (IsUnit typed d) ends_unit ends_formula good (λ x ts rest h. moves_unit h) goes (formula_ends_units mark joins))
      (λ fs ts rest h. units_of h) (λ fs ts rest h. of_units h) (λ h e. e)

  module _ (a : Surface) where
    good_operator : (mark : Mark) (o : BinOp) → ((us : List Token) → joined_at u a (Some (Sign mark)) (Sign mark ∷ us) ≡ mapped (fm.Binary o a) (u us)) → GoodAt limit (Sign mark) (joined_at u a (Some (Sign mark))) (After (Sign mark) d (fm.Binary o a) (IsUnit typed d)) ends_unit
    good_operator mark o same = behind_token limit (Sign mark) d (joined_at u a (Some (Sign mark))) (fm.Binary o a) (IsUnit typed d) ends_unit u fits good same

    exact_operator : (mark : Mark) (o : BinOp) → operator mark ≡ Some o → ((us : List Token) → joined_at u a (Some (Sign mark)) (Sign mark ∷ us) ≡ mapped (fm.Binary o a) (u us)) → (ts : List Token)
        → Exact (joined_at u a (Some (Sign mark))) (Joined typed d a) limit (Sign mark ∷ ts) (joined_at u a (Some (Sign mark)) (Sign mark ∷ ts))
    exact_operator mark o e same ts =
        widen (joined_at u a (Some (Sign mark))) (After (Sign mark) d (fm.Binary o a) (IsUnit typed d)) (Joined typed d a) limit (λ f us rest h. with_operator e h) (Sign mark ∷ ts) (joined_at u a (Some (Sign mark)) (Sign mark ∷ ts)) ((good_operator mark o same).exact ts)

    bars : GoodAt limit (Sign m.Bar) (joined_at u a (Some (Sign m.Bar))) (After (Sign m.Bar) d (λ fs. fm.Or (a ∷ fs)) (AreUnits typed m.Bar d)) ends_formula
    bars = behind_token limit (Sign m.Bar) d (joined_at u a (Some (Sign m.Bar))) (λ fs. fm.Or (a ∷ fs)) (AreUnits typed m.Bar d) ends_formula (separated (is_mark m.Bar) u) fits (good_units m.Bar refl refl) (λ us. refl)

    ampersands : GoodAt limit (Sign m.Ampersand) (joined_at u a (Some (Sign m.Ampersand))) (After (Sign m.Ampersand) d (λ fs. fm.And (a ∷ fs)) (AreUnits typed m.Ampersand d)) ends_formula
    ampersands = behind_token limit (Sign m.Ampersand) d (joined_at u a (Some (Sign m.Ampersand))) (λ fs. fm.And (a ∷ fs)) (AreUnits typed m.Ampersand d) ends_formula (separated (is_mark m.Ampersand) u) fits (good_units m.Ampersand refl refl) (λ us. refl)

    exact_joined : (ts : List Token) → Exact (joined_at u a (next ts)) (Joined typed d a) limit ts (joined_at u a (next ts) ts)
    exact_joined (Sign m.Imp ∷ ts) = exact_operator m.Imp op.Imp refl (λ us. refl) ts
    exact_joined (Sign m.RevImp ∷ ts) = exact_operator m.RevImp op.RevImp refl (λ us. refl) ts
    exact_joined (Sign m.Iff ∷ ts) = exact_operator m.Iff op.Iff refl (λ us. refl) ts
    exact_joined (Sign m.Xor ∷ ts) = exact_operator m.Xor op.Xor refl (λ us. refl) ts
    exact_joined (Sign m.Nor ∷ ts) = exact_operator m.Nor op.Nor refl (λ us. refl) ts
    exact_joined (Sign m.Nand ∷ ts) = exact_operator m.Nand op.Nand refl (λ us. refl) ts
    exact_joined (Sign m.Bar ∷ ts) =
        widen (joined_at u a (Some (Sign m.Bar))) (After (Sign m.Bar) d (λ fs. fm.Or (a ∷ fs)) (AreUnits typed m.Bar d)) (Joined typed d a) limit (λ f us rest h. with_bars h) (Sign m.Bar ∷ ts) (joined_at u a (Some (Sign m.Bar)) (Sign m.Bar ∷ ts)) (bars.exact ts)
    exact_joined (Sign m.Ampersand ∷ ts) =
        widen (joined_at u a (Some (Sign m.Ampersand))) (After (Sign m.Ampersand) d (λ fs. fm.And (a ∷ fs)) (AreUnits typed m.Ampersand d)) (Joined typed d a) limit (λ f us rest h. with_ampersands h) (Sign m.Ampersand ∷ ts)
        (joined_at u a (Some (Sign m.Ampersand)) (Sign m.Ampersand ∷ ts)) (ampersands.exact ts)
    exact_joined ts = exact_done (joined_at u a (next ts)) (Joined typed d a) limit ts a (λ rest. alone) (λ other k. refl)

    joined_ends : (h : Option Token) → ends_formula h ≡ true → (ts : List Token) → joined_at u a h ts ≡ Ok (a, ts)
    joined_ends (Some (Sign m.Imp)) e ts = cc
    joined_ends (Some (Sign m.RevImp)) e ts = cc
    joined_ends (Some (Sign m.Iff)) e ts = cc
    joined_ends (Some (Sign m.Xor)) e ts = cc
    joined_ends (Some (Sign m.Nor)) e ts = cc
    joined_ends (Some (Sign m.Nand)) e ts = cc
    joined_ends (Some (Sign m.Bar)) e ts = cc
    joined_ends (Some (Sign m.Ampersand)) e ts = cc
    joined_ends h e ts = refl

    operator_same : (mark : Mark) (o : BinOp) → operator mark ≡ Some o → (us : List Token) → joined_at u a (Some (Sign mark)) (Sign mark ∷ us) ≡ mapped (fm.Binary o a) (u us)
    operator_same m.Imp o e us = let same : _ ≡ o = cc in ap (λ b. mapped (fm.Binary b a) (u us)) same
    operator_same m.RevImp o e us = let same : _ ≡ o = cc in ap (λ b. mapped (fm.Binary b a) (u us)) same
    operator_same m.Iff o e us = let same : _ ≡ o = cc in ap (λ b. mapped (fm.Binary b a) (u us)) same
    operator_same m.Xor o e us = let same : _ ≡ o = cc in ap (λ b. mapped (fm.Binary b a) (u us)) same
    operator_same m.Nor o e us = let same : _ ≡ o = cc in ap (λ b. mapped (fm.Binary b a) (u us)) same
    operator_same m.Nand o e us = let same : _ ≡ o = cc in ap (λ b. mapped (fm.Binary b a) (u us)) same
    operator_same mark o e us = cc

    found_joined : (f : Surface) (ts rest : Tokens) → Joined typed d a f ts rest → ends_formula (next (plain rest)) ≡ true → Found limit (joined_at u a (next (plain ts))) f ts rest
    found_joined f ts rest alone k = inl (done, joined_ends (next (plain rest)) k (plain rest))
    found_joined f ts rest (with_operator {mark = mark} {o = o} e (after {ts = us} h)) k = (good_operator mark o (operator_same mark o e)).found f ((Sign mark, d) ∷ us) rest (after h) (formula_ends_unit (next (plain rest)) k)
    found_joined f ts rest (with_bars (after h)) k = bars.found f ts rest (after h) k
    found_joined f ts rest (with_ampersands (after h)) k = ampersands.found f ts rest (after h) k

    good_joined : Good limit (joined u a) (Joined typed d a) ends_formula
    unfolding joined
    good_joined = good_choice limit (joined u a) (joined_at u a) (Joined typed d a) ends_formula (λ us. refl) exact_joined found_joined (record { value = a; text = λ rest. rest; spells = λ rest. alone })

  good_formula_by : Good limit (formula_by u) (IsFormula typed d) ends_formula
  unfolding formula_by
  good_formula_by =
      good_as limit (formula_by u) (Both (IsUnit typed d) (Joined typed d)) (IsFormula typed d) ends_formula ends_formula
      (good_both limit u (joined u) (IsUnit typed d) (Joined typed d) ends_unit ends_formula (joined_link typed d) good (λ a can. good_joined a))
      (join_joined typed d) (split_joined typed d) (λ h e. e)

-- ---- nesting

pub deeper_is : (typed : Bool) (room levels : ℕ) (at us : List Token) → levels < room → deeper typed room levels at us ≡ unit typed (room - suc levels) us
unfolding deeper unit
deeper_is typed zero levels at us lt = absurd (omega arith)
deeper_is typed (suc room) zero at us lt = let e : suc room - 1 ≡ room = omega arith in ap (λ n. unit_by typed n (deeper typed n) us) (sym e)
deeper_is typed (suc room) (suc levels) at us lt = let e : suc room - suc (suc levels) ≡ room - suc levels = omega arith in deeper_is typed room levels at us (omega arith) ∙ ap (λ n. unit typed n us) (sym e)

pub deeper_none : (typed : Bool) (room levels : ℕ) (at us : List Token) → room ≤ levels → deeper typed room levels at us ≡ Err (TooDeep, at)
unfolding deeper
deeper_none typed zero levels at us le = refl
deeper_none typed (suc room) zero at us le = absurd (omega arith)
deeper_none typed (suc room) (suc levels) at us le = deeper_none typed room levels at us (omega arith)

-- ---- units

some_unit : (typed : Bool) (d : ℕ) → Inhabited (IsUnit typed d)
some_unit typed d = record { value = (some_atom d).value; text = (some_atom d).text; spells = λ rest. g.atom ((some_atom d).spells rest) }

abbrev EnclosedFormula : Bool → ℕ → Surface → Tokens → Tokens → Type 0
EnclosedFormula typed d f ts rest = IsFormula typed (suc d) f ts ((Sign m.Close, suc d) ∷ rest)

some_enclosed_formula : (typed : Bool) (d : ℕ) → Inhabited (EnclosedFormula typed d)
some_enclosed_formula typed d = record { value = fm.Atom [] []; text = λ rest. (Lower [], suc d) ∷ (Sign m.Close, suc d) ∷ rest; spells = λ rest. g.single (g.atom (t.predicate (t.constant refl))) }

scopes : (typed : Bool) → Scopes (IsUnit typed) (unit typed) (deeper typed)
scopes typed = record { is = deeper_is typed; none = deeper_none typed; some = some_unit typed }

of_quantified : (typed : Bool) (d : ℕ) (mark : Mark) (q : Quant) → quantifier mark ≡ Some q → (f : Surface) (ts rest : Tokens) → After (Sign mark) d (λ x. x) (Quantified (IsUnit typed) typed d q) f ts rest → IsUnit typed d f ts rest
of_quantified typed d mark q e f ts rest (after (both (after h) (after k))) = g.quantified e h k

of_tilde : (typed : Bool) (d : ℕ) (f : Surface) (ts rest : Tokens) → After (Sign m.Tilde) (suc d) fm.Not (IsUnit typed (suc d)) f ts rest → IsUnit typed d f ts rest
of_tilde typed d f ts rest (after h) = g.negation h

of_open : (typed : Bool) (d : ℕ) (f : Surface) (ts rest : Tokens) → After (Sign m.Open) (suc d) (λ x. x) (EnclosedFormula typed d) f ts rest → IsUnit typed d f ts rest
of_open typed d f ts rest (after h) = g.parenthesis h

of_basic : (typed : Bool) (d : ℕ) (f : Surface) (ts rest : Tokens) → IsBasic d f ts rest → IsUnit typed d f ts rest
of_basic typed d f ts rest (of_atom h) = g.atom h
of_basic typed d f ts rest (of_inequation h) = g.unequal h

-- the units that begin with a token that nests
module _ (typed : Bool) (d limit : ℕ) where
  abbrev Below : ℕ → Type 0
  Below room = (r d : ℕ) → r < room → limit ≡ d + r → Good limit (unit typed r) (IsUnit typed d) ends_unit

  abbrev tilde_at : ℕ → Reader Token Surface
  tilde_at room = unit_at typed room (deeper typed room) (Some (Sign m.Tilde))

  tilde : (room : ℕ) → limit ≡ d + room → Below room → GoodAt limit (Sign m.Tilde) (tilde_at room) (After (Sign m.Tilde) (suc d) fm.Not (IsUnit typed (suc d))) ends_unit
  unfolding deeper unit
  tilde zero e ih = over_token limit (Sign m.Tilde) (suc d) (tilde_at zero) fm.Not (IsUnit typed (suc d)) ends_unit (omega arith) (some_unit typed (suc d)) (λ us. refl)
  tilde (suc room) e ih = behind_token limit (Sign m.Tilde) (suc d) (tilde_at (suc room)) fm.Not (IsUnit typed (suc d)) ends_unit (unit typed room) (omega arith) (ih room (suc d) (omega arith) (omega arith)) (λ us. refl)

  abbrev open_at : ℕ → Reader Token Surface
  open_at room = unit_at typed room (deeper typed room) (Some (Sign m.Open))

  open_parenthesis : (room : ℕ) → limit ≡ d + room → Below room → GoodAt limit (Sign m.Open) (open_at room) (After (Sign m.Open) (suc d) (λ x. x) (EnclosedFormula typed d)) always
  unfolding deeper unit formula_by
  open_parenthesis zero e ih = over_token limit (Sign m.Open) (suc d) (open_at zero) (λ x. x) (EnclosedFormula typed d) always (omega arith) (some_enclosed_formula typed d) (λ us. refl)
  open_parenthesis (suc room) e ih =
      behind_token limit (Sign m.Open) (suc d) (open_at (suc room)) (λ x. x) (EnclosedFormula typed d) always (closed (is_mark m.Close) (formula_by (unit typed room))) (omega arith)
      (good_in m.Close limit (suc d) (omega arith) (formula_by (unit typed room)) (IsFormula typed (suc d)) ends_formula always refl (good_formula_by typed (suc d) limit (omega arith) (unit typed room) (ih room (suc d) (omega arith) (omega arith))))
      (λ us. unmapped _ _ refl)

module _ (typed : Bool) (room d limit : ℕ) (e : limit ≡ d + room) (ih : (r d : ℕ) → r < room → limit ≡ d + r → Good limit (unit typed r) (IsUnit typed d) ends_unit) where
  read_quantified : (q : Quant) → Good limit (quantified typed room (deeper typed room) q) (Quantified (IsUnit typed) typed d q) ends_unit
  read_quantified q = good_quantified (IsUnit typed) (unit typed) (deeper typed) (scopes typed) ends_unit room d limit e ih typed q

  abbrev unit_from : Option Token → Reader Token Surface
  unit_from h = unit_at typed room (deeper typed room) h

  good_quantifier : (mark : Mark) (q : Quant) → ((us : List Token) → unit_from (Some (Sign mark)) (Sign mark ∷ us) ≡ quantified typed room (deeper typed room) q us) → GoodAt limit (Sign mark) (unit_from (Some (Sign mark))) (After (Sign mark) d (λ x. x) (Quantified (IsUnit typed) typed d q)) ends_unit
  good_quantifier mark q same = behind_token limit (Sign mark) d (unit_from (Some (Sign mark))) (λ x. x) (Quantified (IsUnit typed) typed d q) ends_unit (quantified typed room (deeper typed room) q) (omega arith) (read_quantified q) (λ us. unmapped _ _ (same us))

  exact_quantifier : (mark : Mark) (q : Quant) → quantifier mark ≡ Some q → ((us : List Token) → unit_from (Some (Sign mark)) (Sign mark ∷ us) ≡ quantified typed room (deeper typed room) q us) → (ts : List Token)
      → Exact (unit_from (Some (Sign mark))) (IsUnit typed d) limit (Sign mark ∷ ts) (unit_from (Some (Sign mark)) (Sign mark ∷ ts))
  exact_quantifier mark q is same ts = widen (unit_from (Some (Sign mark))) (After (Sign mark) d (λ x. x) (Quantified (IsUnit typed) typed d q)) (IsUnit typed d) limit (of_quantified typed d mark q is) (Sign mark ∷ ts) (unit_from (Some (Sign mark)) (Sign mark ∷ ts)) ((good_quantifier mark q same).exact ts)

  exact_unit : (ts : List Token) → Exact (unit_from (next ts)) (IsUnit typed d) limit ts (unit_from (next ts) ts)
  exact_unit (Sign m.Tilde ∷ ts) = widen (unit_from (Some (Sign m.Tilde))) (After (Sign m.Tilde) (suc d) fm.Not (IsUnit typed (suc d))) (IsUnit typed d) limit (of_tilde typed d) (Sign m.Tilde ∷ ts) (unit_from (Some (Sign m.Tilde)) (Sign m.Tilde ∷ ts)) ((tilde typed d limit room e ih).exact ts)
  exact_unit (Sign m.Open ∷ ts) = widen (unit_from (Some (Sign m.Open))) (After (Sign m.Open) (suc d) (λ x. x) (EnclosedFormula typed d)) (IsUnit typed d) limit (of_open typed d) (Sign m.Open ∷ ts) (unit_from (Some (Sign m.Open)) (Sign m.Open ∷ ts)) ((open_parenthesis typed d limit room e ih).exact ts)
  exact_unit (Sign m.Bang ∷ ts) = exact_quantifier m.Bang q.All refl (λ us. refl) ts
  exact_unit (Sign m.Question ∷ ts) = exact_quantifier m.Question q.Ex refl (λ us. refl) ts
  exact_unit ts = widen (basic room) (IsBasic d) (IsUnit typed d) limit (of_basic typed d) ts (basic room ts) ((good_basic room d limit e).exact ts)

  unit_by_head : {h : Option Token} → BasicHead h → (ts : List Token) → unit_from h ts ≡ basic room ts
  unit_by_head (term_head upper) ts = refl
  unit_by_head (term_head lower) ts = refl
  unit_by_head (term_head quoted) ts = refl
  unit_by_head dollar ts = refl

  quantifier_same : (mark : Mark) (q : Quant) → quantifier mark ≡ Some q → (us : List Token) → unit_from (Some (Sign mark)) (Sign mark ∷ us) ≡ quantified typed room (deeper typed room) q us
  quantifier_same m.Bang q is us = let same : _ ≡ q = cc in ap (λ k. quantified typed room (deeper typed room) k us) same
  quantifier_same m.Question q is us = let same : _ ≡ q = cc in ap (λ k. quantified typed room (deeper typed room) k us) same
  quantifier_same mark q is us = cc

  found_unit : (f : Surface) (ts rest : Tokens) → IsUnit typed d f ts rest → ends_unit (next (plain rest)) ≡ true → Found limit (unit_from (next (plain ts))) f ts rest
  found_unit f ts rest (g.negation h) k = (tilde typed d limit room e ih).found f ts rest (after h) k
  found_unit f ts rest (g.parenthesis h) k = (open_parenthesis typed d limit room e ih).found f ts rest (after h) refl
  found_unit f ts rest (g.quantified {mark = mark} {q = q} is h l) k = (good_quantifier mark q (quantifier_same mark q is)).found f ts rest (after (both (after h) (after l))) k
  found_unit f ts rest (g.atom h) k = found_as limit (unit_from (next (plain ts))) (basic room) f ts rest (unit_by_head (head_of_atom h) (plain ts)) ((good_basic room d limit e).found f ts rest (of_atom h) k)
  found_unit f ts rest (g.unequal h) k = found_as limit (unit_from (next (plain ts))) (basic room) f ts rest (unit_by_head (head_of_inequation h) (plain ts)) ((good_basic room d limit e).found f ts rest (of_inequation h) k)

  good_unit_from : Good limit (unit typed room) (IsUnit typed d) ends_unit
  unfolding unit unit_by
  good_unit_from = good_choice limit (unit typed room) unit_from (IsUnit typed d) ends_unit (λ us. refl) exact_unit found_unit (some_unit typed d)

good_below : (typed : Bool) (bound room d limit : ℕ) → room < bound → limit ≡ d + room → Good limit (unit typed room) (IsUnit typed d) ends_unit
good_below typed zero room d limit lt e = absurd (omega arith)
good_below typed (suc bound) room d limit lt e = good_unit_from typed room d limit e (λ r d' below is. good_below typed bound r d' limit (omega arith) is)

pub good_unit : (typed : Bool) (room d limit : ℕ) → limit ≡ d + room → Good limit (unit typed room) (IsUnit typed d) ends_unit
good_unit typed room d limit e = good_below typed (suc room) room d limit (omega arith) e

pub good_formula : (typed : Bool) (room d limit : ℕ) → limit ≡ d + room → Good limit (formula typed room) (IsFormula typed d) ends_formula
unfolding formula
good_formula typed room d limit e = good_formula_by typed d limit (omega arith) (unit typed room) (good_unit typed room d limit e)
