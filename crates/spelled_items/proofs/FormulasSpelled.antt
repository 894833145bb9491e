-- Formulas that can be written are spelled by tokens that nest as deeply as is said.
use Rattle.std.proofs.Common.{◌≡◌, ℕ, suc, ◌+◌, ◌≤◌, true, false, List, [], ◌∷◌, length, map, max, Option, None, Some, codes, refl, sym, subst, ap, arith}
use Rattle.std.specs.Prelude.{◌&&◌}
use Rattle.std.specs.List.{list_all, AllByRecursion}
use Rattle.std.proofs.lemmas.Bool.{and_parts}
use Rattle.first_fault.specs.Rules.{last, more}
use Rattle.tptp_base.specs.declared.surface.BinOp.{BinOp}
use Rattle.tptp_base.specs.declared.surface.BinOp.TheVariants as op
use Rattle.tptp_base.specs.declared.surface.BoundVar.{BoundVar}
use Rattle.tptp_base.specs.declared.surface.Quant.{Quant}
use Rattle.tptp_base.specs.declared.surface.Quant.TheVariants as q
use Rattle.tptp_base.specs.declared.surface.SortName.{SortName}
use Rattle.tptp_base.specs.declared.surface.SortName.TheVariants as sort
use Rattle.tptp_base.specs.declared.surface.STerm.{STerm}
use Rattle.tptp_base.specs.declared.surface.Surface.{Surface}
use Rattle.tptp_base.specs.declared.surface.Surface.TheVariants as fm
use Rattle.tptp_lexer.specs.declared.token.Token.TheVariants.{Quoted, Upper, Dollar, Mark as Sign}
use Rattle.tptp_lexer.specs.declared.token.Mark.{Mark}
use Rattle.tptp_lexer.specs.declared.token.Mark.TheVariants as m
use Rattle.tptp_grammar.specs.Tokens.{Tokens, operator, quantifier}
use Rattle.tptp_grammar.specs.Terms as t
use Rattle.tptp_grammar.specs.Types as y
use Rattle.tptp_grammar.specs.Types.{IsArgumentSort}
use Rattle.tptp_grammar.specs.Formulas as g
use Rattle.tptp_grammar.specs.Formulas.{IsBoundVariable, AreBoundVariables, under, IsUnit, IsFormula, AreUnits}
use Rattle.canon_print.proofs.Lexed.{Given}
use Rattle.fof_terms.specs.Lift.{greatest}
use Rattle.sort_check.proofs.Inducing.{form_induction}
use Rattle.derivation_items.specs.Words.{Text}
use Rattle.derivation_limits.specs.Nesting.{Nested, alone, applied_nesting, as_unit, grouping, nested, nesting_of, term_nesting}
use Rattle.derivation_limits.specs.code.Units.{unit_nesting}
use Rattle.derivation_limits.proofs.NestingFacts.{nested-True, nested-False, nested-Atom, nested-Eq, nested-Neq, nested-Not, nested-And, nested-Or, nested-Binary, nested-Bind}
use Rattle.spelled_items.specs.Writable.{all_true, has_one, has_two, is_argument_sort, is_bound, is_formula, is_term, is_variable, is_word, is_written_sort}
use Rattle.spelled_items.proofs.WordsSpelled.{Has, word_facts, variable_facts}
use Rattle.spelled_items.proofs.TermsSpelled.{applied, sides_spelled, terms_spelled}
use Rattle.spelled_items.proofs.WritableFacts.{is_formula-Atom, is_formula-Eq, is_formula-Neq, is_formula-Not, is_formula-And, is_formula-Or, is_formula-Binary, is_formula-Bind, as_mapped}

-- where there is this room under so many tokens, the rule is met before any tokens
abbrev pub Fitting : ℕ → (ℕ → Tokens → Tokens → Type 0) → ℕ → Type 0
Fitting limit R depth = (d : ℕ) → d + depth ≤ limit → (rest : Tokens) → Given limit rest → Has limit (R d) rest

-- as a formula and as a unit
pub record Both (limit : ℕ) (f : Surface) : Type 0 where
  pub formula : Fitting limit (λ d. IsFormula true d f) (nesting_of f)
  pub unit : Fitting limit (λ d. IsUnit true d f) (unit_nesting f)

abbrev pub FormulaSpelled : ℕ → Surface → Type 0
FormulaSpelled limit f = is_formula f ≡ true → Both limit f

module _ (limit : ℕ) where
  depth_of : (f : Surface) (n : Nested) → nested f ≡ n → nesting_of f ≡ n.depth
  depth_of f n is = ap (λ (k : Nested). k.depth) is

  unit_of : (f : Surface) (n : Nested) → nested f ≡ n → unit_nesting f ≡ as_unit n
  unit_of f n is = ap as_unit is

  -- a formula that is a unit
  simple : (f : Surface) (depth : ℕ) → nested f ≡ alone depth → Fitting limit (λ d. IsUnit true d f) depth → Both limit f
  simple f depth is fitting = record {
    formula = λ d fits rest given.
        let same = depth_of f (alone depth) is in
        let room : d + depth ≤ limit = omega (arith, fits, same) in
        let u = fitting d room rest given in
        record { us = u.us; rule = g.single u.rule; given = u.given };
    unit = λ d fits rest given.
        let same = unit_of f (alone depth) is in
        let room : d + depth ≤ limit = omega (arith, fits, same) in
        fitting d room rest given;
  }

  -- a formula that stands in parentheses as a unit
  grouped : (f : Surface) (depth : ℕ) → nested f ≡ grouping depth → Fitting limit (λ d. IsFormula true d f) depth → Both limit f
  grouped f depth is fitting = record {
    formula = λ d fits rest given.
        let same = depth_of f (grouping depth) is in
        let room : d + depth ≤ limit = omega (arith, fits, same) in
        fitting d room rest given;
    unit = λ d fits rest given.
        let same = unit_of f (grouping depth) is in
        let room : suc d + depth ≤ limit = omega (arith, fits, same) in
        let within : suc d ≤ limit = omega arith in
        let inner = fitting (suc d) room ((Sign m.Close, suc d) ∷ rest) (tt, within, given) in
        record { us = (Sign m.Open, suc d) ∷ inner.us; rule = g.parenthesis inner.rule; given = (tt, within, inner.given) };
  }

  -- ---- atoms

  atom_spelled : (word : Text) (args : List STerm) → FormulaSpelled limit (fm.Atom word args)
  atom_spelled word args ok =
      let parts = and_parts (is_word word) (list_all is_term args) (rw is_formula-Atom at ok) in
      let all : all_true (map is_term args) ≡ true = as_mapped is_term args parts.1 in
      simple (fm.Atom word args) (applied_nesting (map term_nesting args)) (nested-Atom word args) (λ d fits rest given.
      let inner = applied limit d word args (terms_spelled limit args) parts.0 all fits rest given in
      record { us = inner.us; rule = g.atom (t.predicate inner.rule); given = inner.given })

  equation_spelled : (left right : STerm) → FormulaSpelled limit (fm.Eq left right)
  equation_spelled left right ok =
      simple (fm.Eq left right) (max (term_nesting left) (term_nesting right)) (nested-Eq left right) (λ d fits rest given.
      let sides = sides_spelled limit m.Equal d left right (rw is_formula-Eq at ok) fits rest given in
      record { us = sides.1.us; rule = g.atom (t.equation sides.1.rule.0 sides.1.rule.1); given = sides.1.given })

  inequation_spelled : (left right : STerm) → FormulaSpelled limit (fm.Neq left right)
  inequation_spelled left right ok =
      simple (fm.Neq left right) (max (term_nesting left) (term_nesting right)) (nested-Neq left right) (λ d fits rest given.
      let sides = sides_spelled limit m.NotEqual d left right (rw is_formula-Neq at ok) fits rest given in
      record { us = sides.1.us; rule = g.unequal (t.inequation sides.1.rule.0 sides.1.rule.1); given = sides.1.given })

  truth_spelled : FormulaSpelled limit fm.True
  truth_spelled ok = simple fm.True 0 nested-True (λ d fits rest given.
      let near : d ≤ limit = omega arith in
      record { us = (Dollar (codes "$true"), d) ∷ rest; rule = g.atom (t.truth refl); given = (tt, near, given) })

  falsehood_spelled : FormulaSpelled limit fm.False
  falsehood_spelled ok = simple fm.False 0 nested-False (λ d fits rest given.
      let near : d ≤ limit = omega arith in
      record { us = (Dollar (codes "$false"), d) ∷ rest; rule = g.atom (t.falsehood refl); given = (tt, near, given) })

  -- ---- connectives

  negation_spelled : (part : Surface) → FormulaSpelled limit part → FormulaSpelled limit (fm.Not part)
  negation_spelled part spelled ok =
      let both = spelled (rw is_formula-Not at ok) in
      simple (fm.Not part) (1 + unit_nesting part) (nested-Not part) (λ d fits rest given.
      let room : suc d + unit_nesting part ≤ limit = omega arith in
      let within : suc d ≤ limit = omega arith in
      let inner = both.unit (suc d) room rest given in
      record { us = (Sign m.Tilde, suc d) ∷ inner.us; rule = g.negation inner.rule; given = (tt, within, inner.given) })

  -- one unit or more, with the mark between them
  units : (mark : Mark) (d : ℕ) (f : Surface) (fs : List Surface) → AllByRecursion (FormulaSpelled limit) (f ∷ fs) → all_true (map is_formula (f ∷ fs)) ≡ true → d + greatest (map unit_nesting (f ∷ fs)) ≤ limit → (rest : Tokens) → Given limit rest
      → Has limit (AreUnits true mark d (f ∷ fs)) rest
  units mark d f [] all ok fits rest given =
      let parts = and_parts (is_formula f) true ok in
      let room : d + unit_nesting f ≤ limit = omega arith in
      let one = (all.0 parts.0).unit d room rest given in
      record { us = one.us; rule = g.last_unit one.rule; given = one.given }
  units mark d f (h ∷ fs) all ok fits rest given =
      let parts = and_parts (is_formula f) (all_true (map is_formula (h ∷ fs))) ok in
      let room : d + unit_nesting f ≤ limit = omega arith in
      let later : d + greatest (map unit_nesting (h ∷ fs)) ≤ limit = omega arith in
      let near : d ≤ limit = omega arith in
      let others = units mark d h fs all.1 parts.1 later rest given in
      let one = (all.0 parts.0).unit d room ((Sign mark, d) ∷ others.us) (tt, near, others.given) in
      record { us = one.us; rule = g.more_units one.rule others.rule; given = one.given }

  -- a first unit, the mark, and the others
  members : (mark : Mark) (d : ℕ) (f h : Surface) (fs : List Surface) → AllByRecursion (FormulaSpelled limit) (f ∷ h ∷ fs) → all_true (map is_formula (f ∷ h ∷ fs)) ≡ true → d + greatest (map unit_nesting (f ∷ h ∷ fs)) ≤ limit → (rest : Tokens) → Given limit rest
      → (mid : Tokens) × Has limit (λ us others. IsUnit true d f us ((Sign mark, d) ∷ mid) × AreUnits true mark d (h ∷ fs) mid others) rest
  members mark d f h fs all ok fits rest given =
      let parts = and_parts (is_formula f) (all_true (map is_formula (h ∷ fs))) ok in
      let room : d + unit_nesting f ≤ limit = omega arith in
      let later : d + greatest (map unit_nesting (h ∷ fs)) ≤ limit = omega arith in
      let near : d ≤ limit = omega arith in
      let others = units mark d h fs all.1 parts.1 later rest given in
      let one = (all.0 parts.0).unit d room ((Sign mark, d) ∷ others.us) (tt, near, others.given) in
      (others.us, record { us = one.us; rule = (one.rule, others.rule); given = one.given })

  two_parts : (fs : List Surface) → (has_two (map is_formula fs) && all_true (map is_formula fs)) ≡ true → (has_two (map is_formula fs) ≡ true) × (all_true (map is_formula fs) ≡ true)
  two_parts fs ok = and_parts (has_two (map is_formula fs)) (all_true (map is_formula fs)) ok

  conjunction_spelled : (fs : List Surface) → AllByRecursion (FormulaSpelled limit) fs → FormulaSpelled limit (fm.And fs)
  conjunction_spelled [] all ok = absurd (let parts = two_parts [] (rw is_formula-And at ok) in let clash : false ≡ true = parts.0 in cc)
  conjunction_spelled (f ∷ []) all ok = absurd (let parts = two_parts (f ∷ []) (rw is_formula-And at ok) in let clash : false ≡ true = parts.0 in cc)
  conjunction_spelled (f ∷ h ∷ fs) all ok =
      let parts = two_parts (f ∷ h ∷ fs) (rw is_formula-And at ok) in
      grouped (fm.And (f ∷ h ∷ fs)) (greatest (map unit_nesting (f ∷ h ∷ fs))) (nested-And (f ∷ h ∷ fs)) (λ d fits rest given.
      let inner = members m.Ampersand d f h fs all parts.1 fits rest given in
      record { us = inner.1.us; rule = g.conjunction inner.1.rule.0 inner.1.rule.1; given = inner.1.given })

  disjunction_spelled : (fs : List Surface) → AllByRecursion (FormulaSpelled limit) fs → FormulaSpelled limit (fm.Or fs)
  disjunction_spelled [] all ok = absurd (let parts = two_parts [] (rw is_formula-Or at ok) in let clash : false ≡ true = parts.0 in cc)
  disjunction_spelled (f ∷ []) all ok = absurd (let parts = two_parts (f ∷ []) (rw is_formula-Or at ok) in let clash : false ≡ true = parts.0 in cc)
  disjunction_spelled (f ∷ h ∷ fs) all ok =
      let parts = two_parts (f ∷ h ∷ fs) (rw is_formula-Or at ok) in
      grouped (fm.Or (f ∷ h ∷ fs)) (greatest (map unit_nesting (f ∷ h ∷ fs))) (nested-Or (f ∷ h ∷ fs)) (λ d fits rest given.
      let inner = members m.Bar d f h fs all parts.1 fits rest given in
      record { us = inner.1.us; rule = g.disjunction inner.1.rule.0 inner.1.rule.1; given = inner.1.given })

  mark_of : (o : BinOp) → (mark : Mark) × (operator mark ≡ Some o)
  mark_of = elim [
    | op.Imp ↦ (m.Imp, refl)
    | op.RevImp ↦ (m.RevImp, refl)
    | op.Iff ↦ (m.Iff, refl)
    | op.Xor ↦ (m.Xor, refl)
    | op.Nor ↦ (m.Nor, refl)
    | op.Nand ↦ (m.Nand, refl)
  ]

  binary_spelled : (o : BinOp) (left right : Surface) → FormulaSpelled limit left → FormulaSpelled limit right → FormulaSpelled limit (fm.Binary o left right)
  binary_spelled o left right first second ok =
      let parts = and_parts (is_formula left) (is_formula right) (rw is_formula-Binary at ok) in
      let mark = mark_of o in
      grouped (fm.Binary o left right) (max (unit_nesting left) (unit_nesting right)) (nested-Binary o left right) (λ d fits rest given.
      let near : d ≤ limit = omega arith in
      let room : d + unit_nesting left ≤ limit = omega arith in
      let later : d + unit_nesting right ≤ limit = omega arith in
      let r = (second parts.1).unit d later rest given in
      let l = (first parts.0).unit d room ((Sign mark.0, d) ∷ r.us) (tt, near, r.given) in
      record { us = l.us; rule = g.binary mark.1 l.rule r.rule; given = l.given })

  -- ---- quantifiers

  pub argument_sort_spelled : (d : ℕ) (s : SortName) → is_argument_sort s ≡ true → d ≤ limit → (rest : Tokens) → Given limit rest → Has limit (IsArgumentSort d s) rest
  argument_sort_spelled d sort.Individual ok near rest given = record { us = (Dollar (codes "$i"), d) ∷ rest; rule = y.individuals refl; given = (tt, near, given) }
  argument_sort_spelled d sort.Truth ok near rest given = absurd (let clash : false ≡ true = ok in cc)
  argument_sort_spelled d (sort.Word word) ok near rest given = record { us = (Quoted word, d) ∷ rest; rule = y.named_sort refl; given = (word_facts word ok, near, given) }

  bound_by : (d : ℕ) (name : Text) (o : Option SortName) → is_variable name ≡ true → is_written_sort o ≡ true → d ≤ limit → (rest : Tokens) → Given limit rest → Has limit (IsBoundVariable true d (record { name = name; sort = o })) rest
  bound_by d name None ok sort_ok near rest given = record { us = (Upper name, d) ∷ rest; rule = g.untyped_variable; given = (variable_facts name ok, near, given) }
  bound_by d name (Some s) ok sort_ok near rest given =
      let inner = argument_sort_spelled d s sort_ok near rest given in
      record { us = (Upper name, d) ∷ (Sign m.Colon, d) ∷ inner.us; rule = g.typed_variable refl inner.rule; given = (variable_facts name ok, near, (tt, near, inner.given)) }

  bound_spelled : (d : ℕ) (x : BoundVar) → is_bound x ≡ true → d ≤ limit → (rest : Tokens) → Given limit rest → Has limit (IsBoundVariable true d x) rest
  bound_spelled d x ok near rest given =
      let parts = and_parts (is_variable x.name) (is_written_sort x.sort) ok in
      bound_by d x.name x.sort parts.0 parts.1 near rest given

  bounds_spelled : (d : ℕ) (x : BoundVar) (xs : List BoundVar) → list_all is_bound (x ∷ xs) ≡ true → d ≤ limit → (rest : Tokens) → Given limit rest → Has limit (AreBoundVariables true d (x ∷ xs)) rest
  bounds_spelled d x [] ok near rest given =
      let parts = and_parts (is_bound x) true ok in
      let one = bound_spelled d x parts.0 near rest given in
      record { us = one.us; rule = last one.rule; given = one.given }
  bounds_spelled d x (z ∷ xs) ok near rest given =
      let parts = and_parts (is_bound x) (list_all is_bound (z ∷ xs)) ok in
      let others = bounds_spelled d z xs parts.1 near rest given in
      let one = bound_spelled d x parts.0 near ((Sign m.Comma, d) ∷ others.us) (tt, near, others.given) in
      record { us = one.us; rule = more one.rule others.rule; given = one.given }

  under_is : (d : ℕ) (xs : List BoundVar) → under d xs ≡ d + length xs
  under_is d [] = omega arith
  under_is d (x ∷ xs) = omega (arith, under_is d xs)

  mark_for : (quant : Quant) → (mark : Mark) × (quantifier mark ≡ Some quant)
  mark_for = elim [ q.All ↦ (m.Bang, refl) | q.Ex ↦ (m.Question, refl) ]

  quantified_spelled : (quant : Quant) (xs : List BoundVar) (part : Surface) → FormulaSpelled limit part → FormulaSpelled limit (fm.Bind quant xs part)
  quantified_spelled quant xs part spelled ok = by xs refl
    where
      parts : ((has_one xs && list_all is_bound xs) ≡ true) × (is_formula part ≡ true)
      parts = and_parts (has_one xs && list_all is_bound xs) (is_formula part) (rw is_formula-Bind at ok)

      some : (has_one xs ≡ true) × (list_all is_bound xs ≡ true)
      some = and_parts (has_one xs) (list_all is_bound xs) parts.0

      by : (ys : List BoundVar) → xs ≡ ys → Both limit (fm.Bind quant xs part)
      by [] is = absurd (let clash : false ≡ true = subst (λ (zs : List BoundVar). has_one zs ≡ true) is some.0 in cc)
      by (y ∷ ys) is =
          let all : list_all is_bound (y ∷ ys) ≡ true = subst (λ (zs : List BoundVar). list_all is_bound zs ≡ true) is some.1 in
          let mark = mark_for quant in
          let both = spelled parts.1 in
          let whole : Both limit (fm.Bind quant (y ∷ ys) part) =
          simple (fm.Bind quant (y ∷ ys) part) (max 1 (length (y ∷ ys) + unit_nesting part)) (nested-Bind quant (y ∷ ys) part) (λ d fits rest given.
          let level = under_is d (y ∷ ys) in
          let near : d ≤ limit = omega arith in
          let within : suc d ≤ limit = omega arith in
          let inside : under d (y ∷ ys) ≤ limit = omega arith in
          let room : under d (y ∷ ys) + unit_nesting part ≤ limit = omega arith in
          let inner = both.unit (under d (y ∷ ys)) room rest given in
          let variables = bounds_spelled (suc d) y ys all within ((Sign m.CloseList, suc d) ∷ (Sign m.Colon, under d (y ∷ ys)) ∷ inner.us) (tt, within, (tt, inside, inner.given)) in
          record { us = (Sign mark.0, d) ∷ (Sign m.OpenList, suc d) ∷ variables.us; rule = g.quantified mark.1 variables.rule inner.rule; given = (tt, near, (tt, within, variables.given)) }) in
          subst (λ (zs : List BoundVar). Both limit (fm.Bind quant zs part)) (sym is) whole

  pub formula_spelled : (f : Surface) → FormulaSpelled limit f
  formula_spelled = form_induction (FormulaSpelled limit) (record {
    truth = truth_spelled;
    falsity = falsehood_spelled;
    atom = atom_spelled;
    eq = equation_spelled;
    neq = inequation_spelled;
    not = negation_spelled;
    and = conjunction_spelled;
    or = disjunction_spelled;
    binary = binary_spelled;
    bind = quantified_spelled;
  })
