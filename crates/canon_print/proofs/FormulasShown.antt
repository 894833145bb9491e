-- The canonical text of formulas is cut into tokens that spell them.
use Rattle.std.proofs.Common.{◌≡◌, ℕ, suc, ◌≤◌, Bool, true, false, List, [], ◌∷◌, ◌++◌, map, codes, Some, refl, sym, subst, ◌∙◌, ap, arith, append_assoc}
use Rattle.std.proofs.lemmas.List.{append-nil}
use Rattle.tptp_lexer.specs.declared.token.Token.TheVariants.{Upper, Mark as Sign}
use Rattle.tptp_lexer.specs.declared.token.Mark.{Mark}
use Rattle.tptp_lexer.specs.declared.token.Mark.TheVariants as m
use Rattle.tptp_base.specs.declared.surface.BoundVar.{BoundVar}
use Rattle.tptp_base.specs.declared.surface.BinOp.{BinOp}
use Rattle.tptp_base.specs.declared.surface.BinOp.TheVariants as op
use Rattle.tptp_base.specs.declared.surface.Quant.{Quant}
use Rattle.tptp_base.specs.declared.surface.Quant.TheVariants as q
use Rattle.tptp_base.specs.declared.surface.Surface.{Surface}
use Rattle.tptp_base.specs.declared.surface.Surface.TheVariants as fm
use Rattle.tptp_lexer.specs.Bytes.{Text}
use Rattle.tptp_grammar.specs.Tokens.{Tokens, operator, quantifier}
use Rattle.tptp_grammar.specs.Formulas as g
use Rattle.tptp_grammar.specs.Formulas.{IsBoundVariable, AreBoundVariables, under, IsUnit, IsFormula, AreUnits}
use Rattle.canon_print.specs.Words.{later, separated}
use Rattle.canon_print.specs.Canonical.{Shown, opening, closing, shown, formula_text, sort_text, variable_text, operator_text, quantifier_text}
use Rattle.canon_print.specs.code.Canonical.{is_compound, unit_text}
use Rattle.canon_print.proofs.Equations.{shown-Not, shown-And, shown-Or, shown-Binary, shown-Bind}
use Rattle.canon_print.proofs.Longest.{Ends}
use Rattle.canon_print.proofs.Lexed.{LexedTo, done, blank, join, sign, Given, print_upper}
use Rattle.canon_print.proofs.Shows.{Prints, Shows, by_rule, by_text, prints_by, two, Separator, comma, bar, ampersand, separated_one, shows_listed}
use Rattle.canon_print.proofs.TermsShown.{atom_shown, inequation_shown}
use Rattle.canon_print.proofs.TypesShown.{argument_sort_shown}

-- ---- units and formulas

pub record ShowsUnit (limit : ℕ) (typed : Bool) (f : Surface) (d : ℕ) (rest : Tokens) : Type 0 where
  pub left : Given limit rest
  pub formula : Prints limit (λ e. IsFormula typed e f) d (formula_text f)
  pub unit : Prints limit (λ e. IsUnit typed e f) d (unit_text f)

pub record ShowsFormula (limit : ℕ) (typed : Bool) (f : Surface) (d : ℕ) (rest : Tokens) : Type 0 where
  pub left : Given limit rest
  pub formula : Prints limit (λ e. IsFormula typed e f) d (formula_text f)
  pub simple : is_compound f ≡ false → Prints limit (λ e. IsUnit typed e f) d (formula_text f)

-- a unit that needs no parentheses
pub bare_text : (f : Surface) → is_compound f ≡ false → formula_text f ≡ unit_text f
bare_text f plain = sym (append-nil (formula_text f)) ∙ ap (λ (b : Bool). opening b ++ (formula_text f ++ closing b)) (sym plain)

enclosed_text : (f : Surface) → is_compound f ≡ true → codes "(" ++ (formula_text f ++ codes ")") ≡ unit_text f
enclosed_text f compound = ap (λ (b : Bool). opening b ++ (formula_text f ++ closing b)) (sym compound)

alone : {limit d : ℕ} {typed : Bool} {f : Surface} {text : Text} → Prints limit (λ e. IsUnit typed e f) d text → Prints limit (λ e. IsFormula typed e f) d text
alone prints = λ e le after ends more. let p = prints e le after ends more in record { us = p.us; rule = g.single p.rule; lexed = p.lexed }

simple_unit : {limit d : ℕ} {typed : Bool} (f : Surface) {rest : Tokens} → is_compound f ≡ false → Shows limit (λ e. IsUnit typed e f) d (formula_text f) rest → ShowsUnit limit typed f d rest
simple_unit f plain shows = record { left = shows.left; formula = alone shows.prints; unit = prints_by (bare_text f plain) shows.prints }

simple_by : {limit d : ℕ} {typed : Bool} (f : Surface) (text : Text) {rest : Tokens} → shown f ≡ (false, text) → Shows limit (λ e. IsUnit typed e f) d text rest → ShowsUnit limit typed f d rest
simple_by f text is shows = simple_unit f (ap (λ (s : Shown). s.0) is) (by_text (sym (ap (λ (s : Shown). s.1) is)) shows)

compound_by : {limit d : ℕ} {typed : Bool} (f : Surface) (text : Text) {rest : Tokens} → shown f ≡ (true, text) → Shows limit (λ e. IsFormula typed e f) d text rest → ShowsFormula limit typed f d rest
compound_by f text is shows = record {
  left = shows.left;
  formula = prints_by (sym (ap (λ (s : Shown). s.1) is)) shows.prints;
  simple = λ plain. absurd (let clash : true ≡ false = sym (ap (λ (s : Shown). s.0) is) ∙ plain in cc);
}

of_unit : {limit d : ℕ} {typed : Bool} {f : Surface} {rest : Tokens} → ShowsUnit limit typed f d rest → ShowsFormula limit typed f d rest
of_unit {f = f} u = record { left = u.left; formula = u.formula; simple = λ plain. prints_by (sym (bare_text f plain)) u.unit }

enclosed : {limit d : ℕ} {typed : Bool} {f : Surface} → suc d ≤ limit → Prints limit (λ e. IsFormula typed e f) (suc d) (formula_text f) → Prints limit (λ e. IsUnit typed e f) d (codes "(" ++ (formula_text f ++ codes ")"))
enclosed {limit = limit} {f = f} most prints = λ e le after ends more.
    let fits : suc e ≤ limit = omega arith in
    let p = prints (suc e) (omega arith) (41 ∷ after) refl ((Sign m.Close, suc e) ∷ more) in
    record { us = (Sign m.Open, suc e) ∷ p.us; rule = g.parenthesis p.rule; lexed = sign m.Open refl fits (join (formula_text f) (codes ")") p.lexed (sign m.Close refl fits done)) }

lower_level : {limit d : ℕ} {R : ℕ → Tokens → Tokens → Type 0} {text : Text} → Prints limit R (suc d) text → Prints limit R d text
lower_level prints = λ e le after ends more. prints e (omega arith) after ends more

unit_by : {limit d : ℕ} {typed : Bool} {f : Surface} {more : Tokens} → (b : Bool) → is_compound f ≡ b → suc d ≤ limit → ShowsFormula limit typed f (suc d) more → Prints limit (λ e. IsUnit typed e f) d (unit_text f)
unit_by {f = f} true is most shows = prints_by (enclosed_text f is) (enclosed most shows.formula)
unit_by {f = f} false is most shows = prints_by (bare_text f is) (lower_level (shows.simple is))

in_parentheses : {limit d : ℕ} {typed : Bool} {f : Surface} {rest : Tokens} → suc d ≤ limit → ShowsFormula limit typed f (suc d) ((Sign m.Close, suc d) ∷ rest) → ShowsUnit limit typed f d rest
in_parentheses {f = f} most shows = record { left = shows.left.2; formula = lower_level shows.formula; unit = unit_by (is_compound f) refl most shows }

unit_shows : {limit d : ℕ} {typed : Bool} {f : Surface} {rest : Tokens} → ShowsUnit limit typed f d rest → Shows limit (λ e. IsUnit typed e f) d (unit_text f) rest
unit_shows u = record { left = u.left; prints = u.unit }

-- ---- bound variables

variable_shown : (limit : ℕ) (typed : Bool) {d : ℕ} (x : BoundVar) (ts rest : Tokens) → IsBoundVariable typed d x ts rest → Given limit ts → Shows limit (λ e. IsBoundVariable typed e x) d (variable_text x) rest
variable_shown limit typed x ts rest (g.untyped_variable {d = d} {x = name}) given = by_text (sym (append-nil name)) (record {
  left = given.2;
  prints = λ e le after ends more. record { us = (Upper name, e) ∷ more; rule = g.untyped_variable; lexed = print_upper limit e name after more given.0 ends (let fits : d ≤ limit = given.1 in omega arith) };
})
variable_shown limit typed x ts rest (g.typed_variable {d = d} {x = name} {s = s} is h) given =
    let fits : d ≤ limit = given.1 in
    let inner = argument_sort_shown limit h given.2.2 in
    record {
      left = inner.left;
      prints = λ e le after ends more.
          let second = inner.prints e le after ends more in
          record {
            us = (Upper name, e) ∷ (Sign m.Colon, e) ∷ second.us;
            rule = g.typed_variable is second.rule;
            lexed = join name (codes ": " ++ sort_text s) (print_upper limit e name ((codes ": " ++ sort_text s) ++ after) ((Sign m.Colon, e) ∷ second.us) given.0 refl (omega arith)) (sign m.Colon refl (omega arith) (blank refl second.lexed));
          };
    }

pub variables_shown : (limit : ℕ) (typed : Bool) {d : ℕ} {xs : List BoundVar} {ts rest : Tokens} → AreBoundVariables typed d xs ts rest → Given limit ts → Shows limit (λ e. AreBoundVariables typed e xs) d (separated (codes ",") (map variable_text xs)) rest
variables_shown limit typed h given = shows_listed (IsBoundVariable typed) variable_text comma (λ x ts rest k also. variable_shown limit typed x ts rest k also) h given

pub under_less : (d e : ℕ) (xs : List BoundVar) → e ≤ d → under e xs ≤ under d xs
under_less d e [] le = le
under_less d e (x ∷ xs) le = (let h : under e xs ≤ under d xs = under_less d e xs le in omega arith)

quantifier_mark : Quant → Mark
quantifier_mark = elim [ q.All ↦ m.Bang | q.Ex ↦ m.Question ]

quantifier_of : (quant : Quant) → quantifier (quantifier_mark quant) ≡ Some quant
unfolding quantifier_mark
quantifier_of = elim [ q.All ↦ refl | q.Ex ↦ refl ]

quantifier_lexed : (limit e : ℕ) (quant : Quant) (after : Text) (us : Tokens) → suc e ≤ limit → LexedTo limit after us (quantifier_text quant ++ after) ((Sign (quantifier_mark quant), e) ∷ (Sign m.OpenList, suc e) ∷ us)
unfolding quantifier_mark
quantifier_lexed limit e quant after us fits = elim quant as (λ (w : Quant). LexedTo limit after us (quantifier_text w ++ after) ((Sign (quantifier_mark w), e) ∷ (Sign m.OpenList, suc e) ∷ us)) [
  | q.All ↦ sign m.Bang refl (omega arith) (blank refl (sign m.OpenList refl fits done))
  | q.Ex ↦ sign m.Question refl (omega arith) (blank refl (sign m.OpenList refl fits done))
]

-- ---- connectives

operator_mark : BinOp → Mark
operator_mark = elim [ op.Imp ↦ m.Imp | op.RevImp ↦ m.RevImp | op.Iff ↦ m.Iff | op.Xor ↦ m.Xor | op.Nor ↦ m.Nor | op.Nand ↦ m.Nand ]

operator_of : (o : BinOp) → operator (operator_mark o) ≡ Some o
unfolding operator_mark
operator_of = elim [ op.Imp ↦ refl | op.RevImp ↦ refl | op.Iff ↦ refl | op.Xor ↦ refl | op.Nor ↦ refl | op.Nand ↦ refl ]

operator_ends : (o : BinOp) (after : Text) → Ends (operator_text o ++ after)
operator_ends o after = elim o as (λ (w : BinOp). Ends (operator_text w ++ after)) [ op.Imp ↦ refl | op.RevImp ↦ refl | op.Iff ↦ refl | op.Xor ↦ refl | op.Nor ↦ refl | op.Nand ↦ refl ]

operator_lexed : (limit e : ℕ) (o : BinOp) (after : Text) (us : Tokens) → e ≤ limit → LexedTo limit after us (operator_text o ++ after) ((Sign (operator_mark o), e) ∷ us)
unfolding operator_mark
operator_lexed limit e o after us fits = elim o as (λ (w : BinOp). LexedTo limit after us (operator_text w ++ after) ((Sign (operator_mark w), e) ∷ us)) [
  | op.Imp ↦ blank refl (sign m.Imp refl fits (blank refl done))
  | op.RevImp ↦ blank refl (sign m.RevImp refl fits (blank refl done))
  | op.Iff ↦ blank refl (sign m.Iff refl fits (blank refl done))
  | op.Xor ↦ blank refl (sign m.Xor refl fits (blank refl done))
  | op.Nor ↦ blank refl (sign m.Nor refl fits (blank refl done))
  | op.Nand ↦ blank refl (sign m.Nand refl fits (blank refl done))
]

later_units : {typed : Bool} {mark : Mark} {d : ℕ} {fs : List Surface} {ts rest : Tokens} (separator : Text) → AreUnits typed mark d fs ts rest → separator ++ separated separator (map unit_text fs) ≡ later separator (map unit_text fs)
later_units separator (g.last_unit h) = refl
later_units separator (g.more_units h k) = refl

-- two parts whose first mark is read as another that is printed so
binary_shown : {limit d : ℕ} {typed : Bool} (o : BinOp) (a b : Surface) {mark : Mark} {mid rest : Tokens} → ShowsUnit limit typed a d ((Sign mark, d) ∷ mid) → (Given limit mid → ShowsUnit limit typed b d rest)
    → Shows limit (λ e. IsFormula typed e (fm.Binary o a b)) d (unit_text a ++ (operator_text o ++ unit_text b)) rest
binary_shown {limit = limit} {d = d} o a b first next =
    let second = next first.left.2 in
    let fits : d ≤ limit = first.left.1 in
    record {
      left = second.left;
      prints = λ e le after ends more.
          let s = second.unit e le after ends more in
          let p = first.unit e le ((operator_text o ++ unit_text b) ++ after) (subst Ends (sym (append_assoc (operator_text o) (unit_text b) after)) (operator_ends o (unit_text b ++ after))) ((Sign (operator_mark o), e) ∷ s.us) in
          record {
            us = p.us;
            rule = g.binary (operator_of o) p.rule s.rule;
            lexed = join (unit_text a) (operator_text o ++ unit_text b) p.lexed (join (operator_text o) (unit_text b) (operator_lexed limit e o (unit_text b ++ after) s.us (omega arith)) s.lexed);
          };
    }

negation_shown : {limit d : ℕ} {typed : Bool} (f : Surface) {rest : Tokens} → suc d ≤ limit → ShowsUnit limit typed f (suc d) rest → Shows limit (λ e. IsUnit typed e (fm.Not f)) d (codes "~ " ++ unit_text f) rest
negation_shown f most inner = record {
  left = inner.left;
  prints = λ e le after ends more.
      let p = inner.unit (suc e) (omega arith) after ends more in
      record { us = (Sign m.Tilde, suc e) ∷ p.us; rule = g.negation p.rule; lexed = sign m.Tilde refl (omega arith) (blank refl p.lexed) };
}

quantified_shown : {limit d : ℕ} {typed : Bool} (quant : Quant) (xs : List BoundVar) (f : Surface) {mid rest : Tokens} → suc d ≤ limit
    → Shows limit (λ e. AreBoundVariables typed e xs) (suc d) (separated (codes ",") (map variable_text xs)) ((Sign m.CloseList, suc d) ∷ (Sign m.Colon, under d xs) ∷ mid)
    → (Given limit mid → ShowsUnit limit typed f (under d xs) rest)
    → Shows limit (λ e. IsUnit typed e (fm.Bind quant xs f)) d (quantifier_text quant ++ (separated (codes ",") (map variable_text xs) ++ (codes "] : " ++ unit_text f))) rest
quantified_shown {limit = limit} {d = d} quant xs f most variables next =
    let inner = next variables.left.2.2 in
    let deep : under d xs ≤ limit = variables.left.2.1 in
    let names = separated (codes ",") (map variable_text xs) in
    let tail = codes "] : " ++ unit_text f in
    record {
      left = inner.left;
      prints = λ e le after ends more.
          let less : under e xs ≤ under d xs = under_less d e xs le in
          let p = inner.unit (under e xs) less after ends more in
          let v = variables.prints (suc e) (omega arith) (tail ++ after) refl ((Sign m.CloseList, suc e) ∷ (Sign m.Colon, under e xs) ∷ p.us) in
          record {
            us = (Sign (quantifier_mark quant), e) ∷ (Sign m.OpenList, suc e) ∷ v.us;
            rule = g.quantified (quantifier_of quant) v.rule p.rule;
            lexed = join (quantifier_text quant) (names ++ tail) (quantifier_lexed limit e quant ((names ++ tail) ++ after) v.us (omega arith))
                (join names tail v.lexed (sign m.CloseList refl (omega arith) (blank refl (sign m.Colon refl (omega arith) (blank refl p.lexed)))));
          };
    }

mutual
  pub unit_shown : (limit : ℕ) {typed : Bool} {d : ℕ} {f : Surface} {ts rest : Tokens} → IsUnit typed d f ts rest → Given limit ts → ShowsUnit limit typed f d rest
  unit_shown limit (g.negation {f = f} h) given = simple_by (fm.Not f) (codes "~ " ++ unit_text f) (shown-Not f) (negation_shown f given.1 (unit_shown limit h given.2))
  unit_shown limit (g.parenthesis h) given = in_parentheses given.1 (formula_shown limit h given.2)
  unit_shown limit (g.quantified {q = quant} {xs = xs} {f = f} is h k) given =
      simple_by (fm.Bind quant xs f) (quantifier_text quant ++ (separated (codes ",") (map variable_text xs) ++ (codes "] : " ++ unit_text f))) (shown-Bind quant xs f)
      (quantified_shown quant xs f given.2.1 (variables_shown limit _ h given.2.2) (λ rest. unit_shown limit k rest))
  unit_shown limit (g.atom {f = f} h) given = (let a = atom_shown limit h given in simple_unit f a.simple (by_rule (λ e us more rule. g.atom rule) a.shows))
  unit_shown limit (g.unequal {f = f} h) given = (let a = inequation_shown limit h given in simple_unit f a.simple (by_rule (λ e us more rule. g.unequal rule) a.shows))

  pub formula_shown : (limit : ℕ) {typed : Bool} {d : ℕ} {f : Surface} {ts rest : Tokens} → IsFormula typed d f ts rest → Given limit ts → ShowsFormula limit typed f d rest
  formula_shown limit (g.single h) given = of_unit (unit_shown limit h given)
  formula_shown limit (g.binary {o = o} {a = a} {b = b} is h k) given =
      compound_by (fm.Binary o a b) (unit_text a ++ (operator_text o ++ unit_text b)) (shown-Binary o a b) (binary_shown o a b (unit_shown limit h given) (λ rest. unit_shown limit k rest))
  formula_shown limit (g.disjunction {a = a} {fs = fs} h k) given =
      compound_by (fm.Or (a ∷ fs)) (separated (codes " | ") (map unit_text (a ∷ fs))) (shown-Or (a ∷ fs))
      (by_text (ap (λ (z : Text). unit_text a ++ z) (later_units (codes " | ") k)) (two bar (λ e us ts more first second. g.disjunction first second) (unit_shows (unit_shown limit h given)) (λ rest. units_shown limit bar k rest)))
  formula_shown limit (g.conjunction {a = a} {fs = fs} h k) given =
      compound_by (fm.And (a ∷ fs)) (separated (codes " & ") (map unit_text (a ∷ fs))) (shown-And (a ∷ fs))
      (by_text (ap (λ (z : Text). unit_text a ++ z) (later_units (codes " & ") k)) (two ampersand (λ e us ts more first second. g.conjunction first second) (unit_shows (unit_shown limit h given)) (λ rest. units_shown limit ampersand k rest)))

  pub units_shown : (limit : ℕ) {typed : Bool} {mark : Mark} {separator : Text} → Separator mark separator → {d : ℕ} {fs : List Surface} {ts rest : Tokens} → AreUnits typed mark d fs ts rest → Given limit ts
      → Shows limit (λ e. AreUnits typed mark e fs) d (separated separator (map unit_text fs)) rest
  units_shown limit {separator = separator} s (g.last_unit {x = x} h) given = by_text (separated_one separator (unit_text x)) (by_rule (λ e us more rule. g.last_unit rule) (unit_shows (unit_shown limit h given)))
  units_shown limit {separator = separator} s (g.more_units {x = x} {xs = xs} h k) given =
      by_text (ap (λ (z : Text). unit_text x ++ z) (later_units separator k)) (two s (λ e us ts more first second. g.more_units first second) (unit_shows (unit_shown limit h given)) (λ rest. units_shown limit s k rest))
