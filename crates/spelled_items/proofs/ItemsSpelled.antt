-- The items of a derivation that can be written are spelled by tokens.
use Rattle.std.proofs.Common.{◌≡◌, ℕ, suc, ◌≤◌, Bool, true, false, ◌||◌, ◌==◌, cond, List, [], ◌∷◌, ◌++◌, length, map, nat_lt, codes, refl, sym, subst, arith}
use Rattle.std.specs.List.{list_all, AllByRecursion}
use Rattle.std.specs.Char.{is_ascii_digit}
use Rattle.std.proofs.lemmas.Bool.{and_parts, and_from}
use Rattle.std.proofs.lemmas.List.{append-nil}
use Rattle.first_fault.specs.Rules.{Listed, last, more}
use Rattle.tptp_base.specs.Numerals.{are_digits, is_integer}
use Rattle.tptp_base.specs.declared.name.Name.{Name}
use Rattle.tptp_base.specs.declared.name.Name.TheVariants as name
use Rattle.tptp_base.specs.declared.item.GTerm.{GTerm}
use Rattle.tptp_base.specs.declared.item.GTerm.TheVariants as general
use Rattle.tptp_base.specs.declared.item.Item.{Item}
use Rattle.tptp_base.specs.declared.item.Role.TheVariants as role
use Rattle.tptp_base.specs.declared.item.Shape.{Shape}
use Rattle.tptp_base.specs.declared.item.Shape.TheVariants as shape
use Rattle.tptp_base.specs.declared.item.Typing.{Typing}
use Rattle.tptp_base.specs.declared.surface.SortName.{SortName}
use Rattle.tptp_base.specs.declared.surface.SortName.TheVariants as sort
use Rattle.tptp_base.specs.declared.surface.Surface.{Surface}
use Rattle.tptp_lexer.specs.Numbers.{AreDigits, IsSign, no_sign, one_sign, no_fraction, no_exponent, IsNumber, decimal}
use Rattle.tptp_lexer.specs.declared.style.Style.TheVariants.{Derivation}
use Rattle.tptp_lexer.specs.declared.token.Token.TheVariants.{Lower, Quoted, Number, Dollar, Mark as Sign}
use Rattle.tptp_lexer.specs.declared.token.Mark.TheVariants as m
use Rattle.tptp_grammar.specs.Faults.{max_nesting}
use Rattle.tptp_grammar.specs.Tokens.{Tokens}
use Rattle.tptp_grammar.specs.Types as y
use Rattle.tptp_grammar.specs.Types.{IsArgumentSort, IsResultSort, IsShape, IsTyping}
use Rattle.tptp_grammar.specs.Formulas.{IsFormula}
use Rattle.tptp_grammar.specs.GeneralTerms as g
use Rattle.tptp_grammar.specs.GeneralTerms.{IsGeneralTerm, AreGeneralTerms}
use Rattle.tptp_grammar.specs.Items as i
use Rattle.tptp_grammar.specs.Items.{IsItem}
use Rattle.canon_print.proofs.Lexed.{Given}
use Rattle.derivation_items.specs.Items.{first_place, line_item_of, typing_item}
use Rattle.derivation_items.specs.Sources.{inference_term, name_term, source_term}
use Rattle.derivation_items.specs.Words.{Text, numbered_word, printable_text}
use Rattle.derivation_items.specs.declared.line.LineSource.{LineSource}
use Rattle.derivation_items.specs.declared.line.LineSource.TheVariants as from
use Rattle.spelled_items.specs.Writable.{is_argument_sort, is_name, is_result_sort, is_shape, is_source, is_typing, is_word, IsWritable}
use Rattle.spelled_items.proofs.FormulasSpelled.{argument_sort_spelled, formula_spelled}
use Rattle.spelled_items.proofs.WordsSpelled.{Has, word_facts}

-- ---- type lines

result_sort_spelled : (d : ℕ) (s : SortName) → is_result_sort s ≡ true → d ≤ max_nesting → (rest : Tokens) → Given max_nesting rest → Has max_nesting (IsResultSort d s) rest
result_sort_spelled d sort.Individual ok near rest given = record { us = (Dollar (codes "$i"), d) ∷ rest; rule = y.argument_sort (y.individuals refl); given = (tt, near, given) }
result_sort_spelled d sort.Truth ok near rest given = record { us = (Dollar (codes "$o"), d) ∷ rest; rule = y.truth_values refl; given = (tt, near, given) }
result_sort_spelled d (sort.Word word) ok near rest given = record { us = (Quoted word, d) ∷ rest; rule = y.argument_sort (y.named_sort refl); given = (word_facts word ok, near, given) }

sorts_spelled : (d : ℕ) (s : SortName) (ss : List SortName) → list_all is_argument_sort (s ∷ ss) ≡ true → d ≤ max_nesting → (rest : Tokens) → Given max_nesting rest → Has max_nesting (Listed (Sign m.Star) d (IsArgumentSort d) (s ∷ ss)) rest
sorts_spelled d s [] ok near rest given =
    let parts = and_parts (is_argument_sort s) true ok in
    let one = argument_sort_spelled max_nesting d s parts.0 near rest given in
    record { us = one.us; rule = last one.rule; given = one.given }
sorts_spelled d s (r ∷ ss) ok near rest given =
    let parts = and_parts (is_argument_sort s) (list_all is_argument_sort (r ∷ ss)) ok in
    let others = sorts_spelled d r ss parts.1 near rest given in
    let one = argument_sort_spelled max_nesting d s parts.0 near ((Sign m.Star, d) ∷ others.us) (tt, near, others.given) in
    record { us = one.us; rule = more one.rule others.rule; given = one.given }

map_spelled : (args : List SortName) (result : SortName) → list_all is_argument_sort args ≡ true → is_result_sort result ≡ true → (rest : Tokens) → Given max_nesting rest → Has max_nesting (IsShape 0 (shape.Symbol args result)) rest
map_spelled [] result ok last_ok rest given =
    let near : 0 ≤ max_nesting = omega arith in
    let r = result_sort_spelled 0 result last_ok near rest given in
    record { us = r.us; rule = y.sort_of_constant r.rule; given = r.given }
map_spelled (a ∷ []) result ok last_ok rest given =
    let near : 0 ≤ max_nesting = omega arith in
    let parts = and_parts (is_argument_sort a) true ok in
    let r = result_sort_spelled 0 result last_ok near rest given in
    let one = argument_sort_spelled max_nesting 0 a parts.0 near ((Sign m.Greater, 0) ∷ r.us) (tt, near, r.given) in
    record { us = one.us; rule = y.map (y.map_of_one one.rule r.rule); given = one.given }
map_spelled (a ∷ b ∷ others) result ok last_ok rest given =
    let near : 0 ≤ max_nesting = omega arith in
    let within : 1 ≤ max_nesting = omega arith in
    let parts = and_parts (is_argument_sort a) (list_all is_argument_sort (b ∷ others)) ok in
    let r = result_sort_spelled 0 result last_ok near rest given in
    let later = sorts_spelled 1 b others parts.1 within ((Sign m.Close, 1) ∷ (Sign m.Greater, 0) ∷ r.us) (tt, within, (tt, near, r.given)) in
    let one = argument_sort_spelled max_nesting 1 a parts.0 within ((Sign m.Star, 1) ∷ later.us) (tt, within, later.given) in
    record { us = (Sign m.Open, 1) ∷ one.us; rule = y.map (y.map_of_more one.rule later.rule r.rule); given = (tt, within, one.given) }

shape_spelled : (s : Shape) → is_shape s ≡ true → (rest : Tokens) → Given max_nesting rest → Has max_nesting (IsShape 0 s) rest
shape_spelled shape.Sort ok rest given = (let near : 0 ≤ max_nesting = omega arith in record { us = (Dollar (codes "$tType"), 0) ∷ rest; rule = y.sort_of_sorts refl; given = (tt, near, given) })
shape_spelled (shape.Symbol args result) ok rest given =
    let parts = and_parts (list_all is_argument_sort args) (is_result_sort result) ok in
    map_spelled args result parts.0 parts.1 rest given

typing_spelled : (t : Typing) → is_typing t ≡ true → (rest : Tokens) → Given max_nesting rest → Has max_nesting (IsTyping 0 t) rest
typing_spelled t ok rest given =
    let near : 0 ≤ max_nesting = omega arith in
    let parts = and_parts (is_word t.name) (is_shape t.shape) ok in
    let inner = shape_spelled t.shape parts.1 rest given in
    record { us = (Quoted t.name, 0) ∷ (Sign m.Colon, 0) ∷ inner.us; rule = y.typing refl inner.rule; given = (word_facts t.name parts.0, near, (tt, near, inner.given)) }

-- ---- sources

-- under so many tokens the general term is spelled before any tokens
abbrev GeneralSpelled : ℕ → GTerm → Type 0
GeneralSpelled d x = (rest : Tokens) → Given max_nesting rest → Has max_nesting (IsGeneralTerm d x) rest

word_term : (d : ℕ) (word : Text) → is_word word ≡ true → d ≤ max_nesting → GeneralSpelled d (general.Word word)
word_term d word ok near rest given = record { us = (Quoted word, d) ∷ rest; rule = g.general_data (g.general_word refl); given = (word_facts word ok, near, given) }

plain_digits : (sign digits : Text) → IsSign sign → AreDigits digits → IsNumber (sign ++ digits)
plain_digits sign digits is all = subst (λ (z : Text). IsNumber (sign ++ z)) (append-nil digits) (decimal sign digits [] [] is all no_fraction no_exponent)

digits_are : (digits : Text) → are_digits digits ≡ true → AreDigits digits
digits_are [] ok = (let clash : false ≡ true = ok in absurd (cc))
digits_are (digit ∷ digits) ok = (and_parts (nat_lt 0 (length (digit ∷ digits))) (list_all is_ascii_digit (digit ∷ digits)) ok).1

integer_by : (byte : ℕ) (rest : Text) (b : Bool) → (byte == 43 || byte == 45) ≡ b → cond b (are_digits rest) (are_digits (byte ∷ rest)) ≡ true → IsNumber (byte ∷ rest)
integer_by byte rest true signed ok = plain_digits (byte ∷ []) rest (one_sign signed) (digits_are rest ok)
integer_by byte rest false signed ok = plain_digits [] (byte ∷ rest) no_sign (digits_are (byte ∷ rest) ok)

integer_number : (text : Text) → is_integer text ≡ true → IsNumber text
integer_number [] ok = absurd (digits_are [] ok)
integer_number (byte ∷ rest) ok = integer_by byte rest (byte == 43 || byte == 45) refl ok

name_spelled : (d : ℕ) (n : Name) → is_name n ≡ true → d ≤ max_nesting → GeneralSpelled d (name_term n)
name_spelled d (name.Word word) ok near = word_term d word ok near
name_spelled d (name.Integer number) ok near = λ rest given. record { us = (Number number, d) ∷ rest; rule = g.general_data g.number; given = (integer_number number ok, near, given) }

generals_spelled : (d : ℕ) (x : GTerm) (xs : List GTerm) → AllByRecursion (GeneralSpelled d) (x ∷ xs) → d ≤ max_nesting → (rest : Tokens) → Given max_nesting rest → Has max_nesting (AreGeneralTerms d (x ∷ xs)) rest
generals_spelled d x [] all near rest given = (let one = all.0 rest given in record { us = one.us; rule = g.last_general one.rule; given = one.given })
generals_spelled d x (z ∷ xs) all near rest given =
    let others = generals_spelled d z xs all.1 near rest given in
    let one = all.0 ((Sign m.Comma, d) ∷ others.us) (tt, near, others.given) in
    record { us = one.us; rule = g.more_general one.rule others.rule; given = one.given }

function_spelled : (d : ℕ) (word : Text) (x : GTerm) (xs : List GTerm) → is_word word ≡ true → suc d ≤ max_nesting → AllByRecursion (GeneralSpelled (suc d)) (x ∷ xs) → GeneralSpelled d (general.Func word (x ∷ xs))
function_spelled d word x xs ok within all rest given =
    let near : d ≤ max_nesting = omega arith in
    let inner = generals_spelled (suc d) x xs all within ((Sign m.Close, suc d) ∷ rest) (tt, within, given) in
    record { us = (Quoted word, d) ∷ (Sign m.Open, suc d) ∷ inner.us; rule = g.general_data (g.general_function refl inner.rule); given = (word_facts word ok, near, (tt, within, inner.given)) }

list_spelled : (d : ℕ) (xs : List GTerm) → suc d ≤ max_nesting → AllByRecursion (GeneralSpelled (suc d)) xs → GeneralSpelled d (general.List xs)
list_spelled d [] within all rest given = record { us = (Sign m.OpenList, suc d) ∷ (Sign m.CloseList, suc d) ∷ rest; rule = g.general_list g.empty_list; given = (tt, within, (tt, within, given)) }
list_spelled d (x ∷ xs) within all rest given =
    let inner = generals_spelled (suc d) x xs all within ((Sign m.CloseList, suc d) ∷ rest) (tt, within, given) in
    record { us = (Sign m.OpenList, suc d) ∷ inner.us; rule = g.general_list (g.full_list inner.rule); given = (tt, within, inner.given) }

words_spelled : (d : ℕ) (words : List Text) → list_all is_word words ≡ true → d ≤ max_nesting → AllByRecursion (GeneralSpelled d) (map general.Word words)
words_spelled d [] ok near = tt
words_spelled d (word ∷ words) ok near =
    let parts = and_parts (is_word word) (list_all is_word words) ok in
    (word_term d word parts.0 near, words_spelled d words parts.1 near)

inference_spelled : (rule status : Text) (parents : List Text) → is_word rule ≡ true → is_word status ≡ true → list_all is_word parents ≡ true → GeneralSpelled 0 (inference_term rule status parents)
inference_spelled rule status parents rule_ok status_ok parents_ok =
    let one : 1 ≤ max_nesting = omega arith in
    let two : 2 ≤ max_nesting = omega arith in
    let three : 3 ≤ max_nesting = omega arith in
    let said = function_spelled 2 (codes "status") (general.Word status) [] refl three (word_term 3 status status_ok three, tt) in
    function_spelled 0 (codes "inference") (general.Word rule) (general.List (general.Func (codes "status") (general.Word status ∷ []) ∷ []) ∷ general.List (map general.Word parents) ∷ []) refl one
    (word_term 1 rule rule_ok one, (list_spelled 1 (general.Func (codes "status") (general.Word status ∷ []) ∷ []) two (said, tt), (list_spelled 1 (map general.Word parents) two (words_spelled 2 parents parents_ok two), tt)))

one_word : (word : Text) → is_word word ≡ true → list_all is_word (word ∷ []) ≡ true
one_word word ok = and_from (is_word word) true ok refl

source_spelled : (file : Text) (s : LineSource) → is_word file ≡ true → is_source s ≡ true → GeneralSpelled 0 (source_term file s)
source_spelled file (from.Given n) file_ok ok =
    let one : 1 ≤ max_nesting = omega arith in
    function_spelled 0 (codes "file") (general.Word file) (name_term n ∷ []) refl one (word_term 1 file file_ok one, (name_spelled 1 n ok one, tt))
source_spelled file (from.Skolemized word) file_ok ok = inference_spelled (codes "skolemize") (codes "esa") (word ∷ []) refl refl (one_word word ok)
source_spelled file (from.ClauseOf word) file_ok ok = inference_spelled (codes "clause") (codes "thm") (word ∷ []) refl refl (one_word word ok)
source_spelled file (from.Inferred words) file_ok ok = inference_spelled (codes "infer") (codes "thm") words refl refl ok

-- ---- items

-- the item is spelled before any tokens
abbrev pub ItemSpelled : Item → Type 0
ItemSpelled item = (rest : Tokens) → Given max_nesting rest → Has max_nesting (IsItem Derivation first_place item) rest

not_typing : role.Plain ≡ role.Typing → ⊥
not_typing same = cc

pub line_spelled : (file word : Text) (formula : Surface) (s : LineSource) → is_word (printable_text file) ≡ true → (item : Item) → item ≡ line_item_of file word formula s → is_word word ≡ true
    → ((rest : Tokens) → Given max_nesting rest → Has max_nesting (IsFormula true 0 formula) rest) → is_source s ≡ true → ItemSpelled item
line_spelled file word formula s file_ok item is word_ok inner ok = subst ItemSpelled (sym is) (λ rest given.
    let near : 0 ≤ max_nesting = omega arith in
    let from_source = source_spelled (printable_text file) s file_ok ok ((Sign m.Close, 0) ∷ (Sign m.Dot, 0) ∷ rest) (tt, near, (tt, near, given)) in
    let body = inner ((Sign m.Comma, 0) ∷ from_source.us) (tt, near, from_source.given) in
    record {
      us = (Lower (codes "tff"), 0) ∷ (Sign m.Open, 0) ∷ (Quoted word, 0) ∷ (Sign m.Comma, 0) ∷ (Lower (codes "plain"), 0) ∷ (Sign m.Comma, 0) ∷ body.us;
      rule = i.annotated refl refl (i.word_name refl) refl (i.tff_body not_typing body.rule) (i.source from_source.rule);
      given = (refl, near, (tt, near, (word_facts word word_ok, near, (tt, near, (refl, near, (tt, near, body.given))))));
    })

pub writable_spelled : (file : Text) (item : Item) → is_word (printable_text file) ≡ true → IsWritable file item → ItemSpelled item
writable_spelled file item file_ok w =
    line_spelled file w.word w.formula w.source file_ok item w.is w.has_word (λ rest given. (formula_spelled max_nesting w.formula w.has_formula).formula 0 (let fits = w.flat in omega arith) rest given) w.has_source

pub typing_item_spelled : (k : ℕ) (t : Typing) → is_word (numbered_word (codes "y") k) ≡ true → is_typing t ≡ true → ItemSpelled (typing_item k t)
typing_item_spelled k t word_ok ok rest given =
    let near : 0 ≤ max_nesting = omega arith in
    let word = numbered_word (codes "y") k in
    let body = typing_spelled t ok ((Sign m.Close, 0) ∷ (Sign m.Dot, 0) ∷ rest) (tt, near, (tt, near, given)) in
    record {
      us = (Lower (codes "tff"), 0) ∷ (Sign m.Open, 0) ∷ (Quoted word, 0) ∷ (Sign m.Comma, 0) ∷ (Lower (codes "type"), 0) ∷ (Sign m.Comma, 0) ∷ body.us;
      rule = i.annotated refl refl (i.word_name refl) refl (i.type_body body.rule) i.no_source;
      given = (refl, near, (tt, near, (word_facts word word_ok, near, (tt, near, (refl, near, (tt, near, body.given))))));
    }
