-- The canonical texts of what can be written have no line feed but those that end their lines.
use Rattle.std.proofs.Common.{◌≡◌, ℕ, nat_lt, Bool, true, false, ◌==◌, List, [], ◌∷◌, ◌++◌, length, map, codes, Option, None, Some, refl, sym, ◌∙◌, ap, subst}
use Rattle.std.specs.Prelude.{◌&&◌, if◌then◌else◌}
use Rattle.std.specs.List.{list_all, flat_map, AllByRecursion}
use Rattle.std.proofs.lemmas.Bool.{and_parts, and_from, eqb-true, cond-true, cond-false}
use Rattle.std.proofs.lemmas.List.Folds.{list_all-append}
use Rattle.tptp_base.specs.Place.{is_no_line_feed}
use Rattle.tptp_base.specs.Quotable.{is_printable}
use Rattle.tptp_base.specs.declared.surface.BinOp.{BinOp}
use Rattle.tptp_base.specs.declared.surface.BinOp.TheVariants as op
use Rattle.tptp_base.specs.declared.surface.BoundVar.{BoundVar}
use Rattle.tptp_base.specs.declared.surface.Quant.{Quant}
use Rattle.tptp_base.specs.declared.surface.Quant.TheVariants as q
use Rattle.tptp_base.specs.declared.surface.SortName.{SortName}
use Rattle.tptp_base.specs.declared.surface.SortName.TheVariants as sort
use Rattle.tptp_base.specs.declared.surface.STerm.{STerm}
use Rattle.tptp_base.specs.declared.surface.STerm.TheVariants as tm
use Rattle.tptp_base.specs.declared.surface.Surface.{Surface}
use Rattle.tptp_base.specs.declared.surface.Surface.TheVariants as fm
use Rattle.tptp_lexer.specs.Bytes.{is_upper_alpha, is_alpha_numeric}
use Rattle.tptp_lexer.specs.Quotes.{backslash, is_escaped, single_quote}
use Rattle.canon_print.specs.Words.{escaped, is_lower_word, later, quoted, separated, word_text}
use Rattle.canon_print.specs.Canonical.{applied_text, bound_sort_text, closing, formula_text, opening, operator_text, quantifier_text, Shown, shown, sort_text, term_text, terms_text, variable_text}
use Rattle.canon_print.specs.code.Canonical.{unit_text}
use Rattle.canon_print.proofs.Equations.{term_text-Var, term_text-App, shown-True, shown-False, shown-Atom, shown-Eq, shown-Neq, shown-Not, shown-And, shown-Or, shown-Binary, shown-Bind}
use Rattle.sort_check.proofs.Inducing.{form_induction, term_induction}
use Rattle.derivation_items.specs.Words.{Text}
use Rattle.spelled_items.specs.Writable.{all_true, has_one, has_two, is_argument_sort, is_bound, is_formula, is_term, is_variable, is_word, is_written_sort}
use Rattle.spelled_items.proofs.WritableFacts.{as_mapped, is_term-Var, is_term-App, is_formula-Atom, is_formula-Eq, is_formula-Neq, is_formula-Not, is_formula-And, is_formula-Or, is_formula-Binary, is_formula-Bind}

-- no byte is a line feed
pub record Free (text : Text) : Type 0 where
  pub all : list_all is_no_line_feed text ≡ true

pub joined : {a b : Text} → Free a → Free b → Free (a ++ b)
joined {a} {b} first second = record { all = list_all-append is_no_line_feed a b ∙ and_from (list_all is_no_line_feed a) (list_all is_no_line_feed b) first.all second.all }

-- a text of which it is seen
pub said : (text : Text) → list_all is_no_line_feed text ≡ true → Free text
said text all = record { all = all }

pub free_by : {a b : Text} → a ≡ b → Free a → Free b
free_by same free = subst Free same free

-- ---- bytes that pass a test which a line feed does not pass

no_feed : (test : ℕ → Bool) → test 10 ≡ false → (byte : ℕ) → test byte ≡ true → is_no_line_feed byte ≡ true
no_feed test never byte passes = by (byte == 10) refl
  where
    by : (b : Bool) → (byte == 10) ≡ b → is_no_line_feed byte ≡ true
    by true is = (let same : byte ≡ 10 = eqb-true byte 10 is in let clash : true ≡ false = sym passes ∙ ap test same ∙ never in absurd (cc))
    by false is = rw is refl

pub free_of : (test : ℕ → Bool) → test 10 ≡ false → (text : Text) → list_all test text ≡ true → Free text
free_of test never [] all = record { all = refl }
free_of test never (byte ∷ text) all =
    let parts = and_parts (test byte) (list_all test text) all in
    record { all = and_from (is_no_line_feed byte) (list_all is_no_line_feed text) (no_feed test never byte parts.0) (free_of test never text parts.1).all }

-- ---- words

char_by : (byte : ℕ) (b : Bool) → is_printable byte ≡ true → Free (if b then backslash ∷ byte ∷ [] else byte ∷ [])
char_by byte true printable = record { all = and_from (is_no_line_feed byte) true (no_feed is_printable refl byte printable) refl }
char_by byte false printable = record { all = and_from (is_no_line_feed byte) true (no_feed is_printable refl byte printable) refl }

char_free : (byte : ℕ) → is_printable byte ≡ true → Free (escaped single_quote byte)
char_free byte printable = char_by byte (is_escaped single_quote byte) printable

chars_free : (text : Text) → list_all is_printable text ≡ true → Free (flat_map (escaped single_quote) text)
chars_free [] all = record { all = refl }
chars_free (byte ∷ text) all =
    let parts = and_parts (is_printable byte) (list_all is_printable text) all in
    joined (char_free byte parts.0) (chars_free text parts.1)

quoted_free : (text : Text) → list_all is_printable text ≡ true → Free (quoted single_quote text)
quoted_free text all = joined (said (single_quote ∷ []) refl) (joined (chars_free text all) (said (single_quote ∷ []) refl))

word_by : (text : Text) (b : Bool) → is_lower_word text ≡ b → list_all is_printable text ≡ true → Free (word_text text)
word_by text true is all = (let same : text ≡ word_text text = sym (cond-true (is_lower_word text) text (quoted single_quote text) is) in free_by same (free_of is_printable refl text all))
word_by text false is all = (let same : quoted single_quote text ≡ word_text text = sym (cond-false (is_lower_word text) text (quoted single_quote text) is) in free_by same (quoted_free text all))

pub word_free : (text : Text) → is_word text ≡ true → Free (word_text text)
word_free text ok = word_by text (is_lower_word text) refl (and_parts (nat_lt 0 (length text)) (list_all is_printable text) ok).1

variable_free : (text : Text) → is_variable text ≡ true → Free text
variable_free [] ok = record { all = refl }
variable_free (first ∷ rest) ok =
    let parts = and_parts (is_upper_alpha first) (list_all is_alpha_numeric rest) ok in
    record { all = and_from (is_no_line_feed first) (list_all is_no_line_feed rest) (no_feed is_upper_alpha refl first parts.0) (free_of is_alpha_numeric refl rest parts.1).all }

-- ---- lists

later_free : (separator : Text) (parts : List Text) → Free separator → AllByRecursion Free parts → Free (later separator parts)
later_free separator [] free all = record { all = refl }
later_free separator (part ∷ parts) free all = joined free (joined all.0 (later_free separator parts free all.1))

pub separated_free : (separator : Text) (parts : List Text) → Free separator → AllByRecursion Free parts → Free (separated separator parts)
separated_free separator [] free all = record { all = refl }
separated_free separator (part ∷ parts) free all = joined all.0 (later_free separator parts free all.1)

-- ---- terms

abbrev TermFree : STerm → Type 0
TermFree t = is_term t ≡ true → Free (term_text t)

terms_free : (ts : List STerm) → AllByRecursion TermFree ts → all_true (map is_term ts) ≡ true → AllByRecursion Free (terms_text ts)
terms_free [] all ok = tt
terms_free (t ∷ ts) all ok =
    let parts = and_parts (is_term t) (all_true (map is_term ts)) ok in
    (all.0 parts.0, terms_free ts all.1 parts.1)

applied_free : (word : Text) (parts : List Text) → is_word word ≡ true → AllByRecursion Free parts → Free (applied_text word parts)
applied_free word [] ok all = word_free word ok
applied_free word (part ∷ parts) ok all =
    joined (word_free word ok) (joined (said (codes "(") refl) (joined (separated_free (codes ",") (part ∷ parts) (said (codes ",") refl) all) (said (codes ")") refl)))

application_free : (word : Text) (args : List STerm) → AllByRecursion TermFree args → TermFree (tm.App word args)
application_free word args all ok =
    let parts = and_parts (is_word word) (all_true (map is_term args)) (rw is_term-App at ok) in
    free_by (sym (term_text-App word args)) (applied_free word (terms_text args) parts.0 (terms_free args all parts.1))

term_free : (t : STerm) → TermFree t
term_free = term_induction TermFree (record { var = λ name ok. free_by (sym (term_text-Var name)) (variable_free name (rw is_term-Var at ok)); app = application_free })

all_terms : (ts : List STerm) → AllByRecursion TermFree ts
all_terms [] = tt
all_terms (t ∷ ts) = (term_free t, all_terms ts)

-- ---- formulas

abbrev FormulaFree : Surface → Type 0
FormulaFree f = is_formula f ≡ true → Free (formula_text f)

free_shown : (f : Surface) (b : Bool) (text : Text) → shown f ≡ (b, text) → Free text → Free (formula_text f)
free_shown f b text is free = free_by (sym (ap (λ (s : Shown). s.1) is)) free

wrapped : (b : Bool) (text : Text) → Free text → Free (opening b ++ (text ++ closing b))
wrapped true text free = joined (said (codes "(") refl) (joined free (said (codes ")") refl))
wrapped false text free = joined (said [] refl) (joined free (said [] refl))

unit_free : (f : Surface) → Free (formula_text f) → Free (unit_text f)
unit_free f free = wrapped (shown f).0 (formula_text f) free

units_free : (fs : List Surface) → AllByRecursion FormulaFree fs → all_true (map is_formula fs) ≡ true → AllByRecursion Free (map unit_text fs)
units_free [] all ok = tt
units_free (f ∷ fs) all ok =
    let parts = and_parts (is_formula f) (all_true (map is_formula fs)) ok in
    (unit_free f (all.0 parts.0), units_free fs all.1 parts.1)

operator_free : (o : BinOp) → Free (operator_text o)
operator_free = elim [
  | op.Imp ↦ record { all = refl }
  | op.RevImp ↦ record { all = refl }
  | op.Iff ↦ record { all = refl }
  | op.Xor ↦ record { all = refl }
  | op.Nor ↦ record { all = refl }
  | op.Nand ↦ record { all = refl }
]

quantifier_free : (quant : Quant) → Free (quantifier_text quant)
quantifier_free = elim [ q.All ↦ record { all = refl } | q.Ex ↦ record { all = refl } ]

pub sort_free : (s : SortName) → is_argument_sort s ≡ true → Free (sort_text s)
sort_free sort.Individual ok = record { all = refl }
sort_free sort.Truth ok = record { all = refl }
sort_free (sort.Word word) ok = word_free word ok

bound_sort_free : (o : Option SortName) → is_written_sort o ≡ true → Free (bound_sort_text o)
bound_sort_free None ok = record { all = refl }
bound_sort_free (Some s) ok = joined (said (codes ": ") refl) (sort_free s ok)

variables_free : (xs : List BoundVar) → list_all is_bound xs ≡ true → AllByRecursion Free (map variable_text xs)
variables_free [] ok = tt
variables_free (x ∷ xs) ok =
    let parts = and_parts (is_bound x) (list_all is_bound xs) ok in
    let own = and_parts (is_variable x.name) (is_written_sort x.sort) parts.0 in
    (joined (variable_free x.name own.0) (bound_sort_free x.sort own.1), variables_free xs parts.1)

atom_free : (word : Text) (args : List STerm) → FormulaFree (fm.Atom word args)
atom_free word args ok =
    let parts = and_parts (is_word word) (list_all is_term args) (rw is_formula-Atom at ok) in
    free_shown (fm.Atom word args) false (applied_text word (terms_text args)) (shown-Atom word args) (applied_free word (terms_text args) parts.0 (terms_free args (all_terms args) (as_mapped is_term args parts.1)))

sides_free : (sign : Text) (left right : STerm) → Free sign → (is_term left && is_term right) ≡ true → Free (term_text left ++ (sign ++ term_text right))
sides_free sign left right free ok =
    let parts = and_parts (is_term left) (is_term right) ok in
    joined (term_free left parts.0) (joined free (term_free right parts.1))

negation_free : (part : Surface) → FormulaFree part → FormulaFree (fm.Not part)
negation_free part free ok = free_shown (fm.Not part) false (codes "~ " ++ unit_text part) (shown-Not part) (joined (said (codes "~ ") refl) (unit_free part (free (rw is_formula-Not at ok))))

conjunction_free : (fs : List Surface) → AllByRecursion FormulaFree fs → FormulaFree (fm.And fs)
conjunction_free fs all ok =
    let parts = and_parts (has_two (map is_formula fs)) (all_true (map is_formula fs)) (rw is_formula-And at ok) in
    free_shown (fm.And fs) true (separated (codes " & ") (map unit_text fs)) (shown-And fs) (separated_free (codes " & ") (map unit_text fs) (record { all = refl }) (units_free fs all parts.1))

disjunction_free : (fs : List Surface) → AllByRecursion FormulaFree fs → FormulaFree (fm.Or fs)
disjunction_free fs all ok =
    let parts = and_parts (has_two (map is_formula fs)) (all_true (map is_formula fs)) (rw is_formula-Or at ok) in
    free_shown (fm.Or fs) true (separated (codes " | ") (map unit_text fs)) (shown-Or fs) (separated_free (codes " | ") (map unit_text fs) (record { all = refl }) (units_free fs all parts.1))

binary_free : (o : BinOp) (left right : Surface) → FormulaFree left → FormulaFree right → FormulaFree (fm.Binary o left right)
binary_free o left right first second ok =
    let parts = and_parts (is_formula left) (is_formula right) (rw is_formula-Binary at ok) in
    free_shown (fm.Binary o left right) true (unit_text left ++ (operator_text o ++ unit_text right)) (shown-Binary o left right) (joined (unit_free left (first parts.0)) (joined (operator_free o) (unit_free right (second parts.1))))

quantified_free : (quant : Quant) (xs : List BoundVar) (part : Surface) → FormulaFree part → FormulaFree (fm.Bind quant xs part)
quantified_free quant xs part free ok =
    let parts = and_parts (has_one xs && list_all is_bound xs) (is_formula part) (rw is_formula-Bind at ok) in
    let all = (and_parts (has_one xs) (list_all is_bound xs) parts.0).1 in
    free_shown (fm.Bind quant xs part) false (quantifier_text quant ++ (separated (codes ",") (map variable_text xs) ++ (codes "] : " ++ unit_text part))) (shown-Bind quant xs part)
    (joined (quantifier_free quant) (joined (separated_free (codes ",") (map variable_text xs) (record { all = refl }) (variables_free xs all)) (joined (said (codes "] : ") refl) (unit_free part (free parts.1)))))

pub formula_free : (f : Surface) → FormulaFree f
formula_free = form_induction FormulaFree (record {
  truth = λ ok. free_shown fm.True false (codes "$true") shown-True (record { all = refl });
  falsity = λ ok. free_shown fm.False false (codes "$false") shown-False (record { all = refl });
  atom = atom_free;
  eq = λ left right ok. free_shown (fm.Eq left right) false (term_text left ++ (codes " = " ++ term_text right)) (shown-Eq left right) (sides_free (codes " = ") left right (record { all = refl }) (rw is_formula-Eq at ok));
  neq = λ left right ok. free_shown (fm.Neq left right) false (term_text left ++ (codes " != " ++ term_text right)) (shown-Neq left right) (sides_free (codes " != ") left right (record { all = refl }) (rw is_formula-Neq at ok));
  not = negation_free;
  and = conjunction_free;
  or = disjunction_free;
  binary = binary_free;
  bind = quantified_free;
})
