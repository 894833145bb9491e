-- The lines of the canonical texts of items: none of them ends the part of a text that holds a derivation.
use Rattle.std.proofs.Common.{◌≡◌, ℕ, nat_lt, Bool, true, false, ◌||◌, ◌==◌, cond, List, [], ◌∷◌, ◌++◌, length, map, codes, refl, sym, subst, append_assoc}
use Rattle.std.specs.List.{list_all, AllByRecursion}
use Rattle.std.specs.Char.{is_ascii_digit}
use Rattle.std.proofs.lemmas.Bool.{and_parts, and_from}
use Rattle.std.proofs.lemmas.List.{append-nil}
use Rattle.tptp_base.specs.Numerals.{are_digits, is_integer}
use Rattle.tptp_base.specs.declared.name.Name.{Name}
use Rattle.tptp_base.specs.declared.name.Name.TheVariants as name
use Rattle.tptp_base.specs.declared.item.GTerm.{GTerm}
use Rattle.tptp_base.specs.declared.item.GTerm.TheVariants as general
use Rattle.tptp_base.specs.declared.item.Item.{Item}
use Rattle.tptp_base.specs.declared.item.Shape.{Shape}
use Rattle.tptp_base.specs.declared.item.Shape.TheVariants as shape
use Rattle.tptp_base.specs.declared.item.Typing.{Typing}
use Rattle.tptp_base.specs.declared.surface.SortName.{SortName}
use Rattle.tptp_base.specs.declared.surface.SortName.TheVariants as sort
use Rattle.canon_print.specs.Words.{word_text}
use Rattle.canon_print.specs.Canonical.{canonical_text, formula_text, general_text, item_text, shape_text, sort_text, typing_text}
use Rattle.canon_print.proofs.Equations.{general_text-Word, general_text-Func, general_text-Number, general_text-List}
use Rattle.szs_report.specs.Marks.{fits}
use Rattle.szs_report.specs.declared.line.LineKind.TheVariants.{End}
use Rattle.derivation_items.specs.Items.{typing_item}
use Rattle.derivation_items.specs.Sources.{inference_term, name_term, source_term}
use Rattle.derivation_items.specs.Words.{Text, numbered_word, printable_text}
use Rattle.derivation_items.specs.declared.line.LineSource.{LineSource}
use Rattle.derivation_items.specs.declared.line.LineSource.TheVariants as from
use Rattle.spelled_items.specs.Writable.{is_argument_sort, is_name, is_result_sort, is_shape, is_source, is_typing, is_word, IsWritable}
use Rattle.presented_texts.proofs.Feeds.{Free, joined, said, free_by, free_of, word_free, separated_free, sort_free, formula_free}
use Rattle.presented_texts.proofs.Regions.{Apart, nothing, line, apart_join}

-- ---- type lines

result_free : (s : SortName) → is_result_sort s ≡ true → Free (sort_text s)
result_free sort.Individual ok = record { all = refl }
result_free sort.Truth ok = record { all = refl }
result_free (sort.Word word) ok = word_free word ok

sorts_free : (ss : List SortName) → list_all is_argument_sort ss ≡ true → AllByRecursion Free (map sort_text ss)
sorts_free [] ok = tt
sorts_free (s ∷ ss) ok =
    let parts = and_parts (is_argument_sort s) (list_all is_argument_sort ss) ok in
    (sort_free s parts.0, sorts_free ss parts.1)

map_free : (args : List SortName) (result : SortName) → list_all is_argument_sort args ≡ true → is_result_sort result ≡ true → Free (shape_text (shape.Symbol args result))
map_free [] result ok last_ok = result_free result last_ok
map_free (a ∷ []) result ok last_ok = (let parts = and_parts (is_argument_sort a) true ok in joined (sort_free a parts.0) (joined (said (codes " > ") refl) (result_free result last_ok)))
map_free (a ∷ b ∷ others) result ok last_ok =
    joined (said (codes "(") refl) (joined (separated_free (codes " * ") (map sort_text (a ∷ b ∷ others)) (record { all = refl }) (sorts_free (a ∷ b ∷ others) ok)) (joined (said (codes ") > ") refl) (result_free result last_ok)))

shape_free : (s : Shape) → is_shape s ≡ true → Free (shape_text s)
shape_free shape.Sort ok = record { all = refl }
shape_free (shape.Symbol args result) ok = (let parts = and_parts (list_all is_argument_sort args) (is_result_sort result) ok in map_free args result parts.0 parts.1)

typing_free : (t : Typing) → is_typing t ≡ true → Free (typing_text t)
typing_free t ok =
    let parts = and_parts (is_word t.name) (is_shape t.shape) ok in
    joined (word_free t.name parts.0) (joined (said (codes ": ") refl) (shape_free t.shape parts.1))

-- ---- sources

abbrev GeneralFree : GTerm → Type 0
GeneralFree x = Free (general_text x)

word_term : (word : Text) → is_word word ≡ true → GeneralFree (general.Word word)
word_term word ok = free_by (sym (general_text-Word word)) (word_free word ok)

is_digit_free : (text : Text) → are_digits text ≡ true → Free text
is_digit_free text ok = free_of is_ascii_digit refl text (and_parts (nat_lt 0 (length text)) (list_all is_ascii_digit text) ok).1

integer_by : (byte : ℕ) (rest : Text) (b : Bool) → (byte == 43 || byte == 45) ≡ b → cond b (are_digits rest) (are_digits (byte ∷ rest)) ≡ true → Free (byte ∷ rest)
integer_by byte rest true signed ok = joined {a = byte ∷ []} (free_of (λ (c : ℕ). c == 43 || c == 45) refl (byte ∷ []) (and_from (byte == 43 || byte == 45) true signed refl)) (is_digit_free rest ok)
integer_by byte rest false signed ok = is_digit_free (byte ∷ rest) ok

integer_free : (text : Text) → is_integer text ≡ true → Free text
integer_free [] ok = record { all = refl }
integer_free (byte ∷ rest) ok = integer_by byte rest (byte == 43 || byte == 45) refl ok

name_free : (n : Name) → is_name n ≡ true → GeneralFree (name_term n)
name_free (name.Word word) ok = word_term word ok
name_free (name.Integer number) ok = free_by (sym (general_text-Number number)) (integer_free number ok)

texts_free : (xs : List GTerm) → AllByRecursion GeneralFree xs → AllByRecursion Free (map general_text xs)
texts_free [] all = tt
texts_free (x ∷ xs) all = (all.0, texts_free xs all.1)

function_free : (word : Text) (xs : List GTerm) → is_word word ≡ true → AllByRecursion GeneralFree xs → GeneralFree (general.Func word xs)
function_free word xs ok all =
    free_by (sym (general_text-Func word xs)) (joined (word_free word ok) (joined (said (codes "(") refl) (joined (separated_free (codes ",") (map general_text xs) (record { all = refl }) (texts_free xs all)) (said (codes ")") refl))))

list_free : (xs : List GTerm) → AllByRecursion GeneralFree xs → GeneralFree (general.List xs)
list_free xs all = free_by (sym (general_text-List xs)) (joined (said (codes "[") refl) (joined (separated_free (codes ",") (map general_text xs) (record { all = refl }) (texts_free xs all)) (said (codes "]") refl)))

words_free : (words : List Text) → list_all is_word words ≡ true → AllByRecursion GeneralFree (map general.Word words)
words_free [] ok = tt
words_free (word ∷ words) ok =
    let parts = and_parts (is_word word) (list_all is_word words) ok in
    (word_term word parts.0, words_free words parts.1)

inference_free : (rule status : Text) (parents : List Text) → is_word rule ≡ true → is_word status ≡ true → list_all is_word parents ≡ true → GeneralFree (inference_term rule status parents)
inference_free rule status parents rule_ok status_ok parents_ok =
    function_free (codes "inference") (general.Word rule ∷ general.List (general.Func (codes "status") (general.Word status ∷ []) ∷ []) ∷ general.List (map general.Word parents) ∷ []) refl
    (word_term rule rule_ok, (list_free (general.Func (codes "status") (general.Word status ∷ []) ∷ []) (function_free (codes "status") (general.Word status ∷ []) refl (word_term status status_ok, tt), tt), (list_free (map general.Word parents) (words_free parents parents_ok), tt)))

one_word : (word : Text) → is_word word ≡ true → list_all is_word (word ∷ []) ≡ true
one_word word ok = and_from (is_word word) true ok refl

source_free : (file : Text) (s : LineSource) → is_word file ≡ true → is_source s ≡ true → GeneralFree (source_term file s)
source_free file (from.Given n) file_ok ok = function_free (codes "file") (general.Word file ∷ name_term n ∷ []) refl (word_term file file_ok, (name_free n ok, tt))
source_free file (from.Skolemized word) file_ok ok = inference_free (codes "skolemize") (codes "esa") (word ∷ []) refl refl (one_word word ok)
source_free file (from.ClauseOf word) file_ok ok = inference_free (codes "clause") (codes "thm") (word ∷ []) refl refl (one_word word ok)
source_free file (from.Inferred words) file_ok ok = inference_free (codes "infer") (codes "thm") words refl refl ok

-- ---- items

abbrev pub ItemApart : Item → Type 0
ItemApart item = Apart (fits End) (item_text item)

-- an item's text, line by line
unsourced_flat : (n b : Text) → (codes "tff" ++ (codes "(" ++ (n ++ (codes "," ++ (codes "type" ++ (codes "," ++ 10 ∷ codes "    ")))))) ++ (b ++ (codes ")." ++ 10 ∷ [])) ≡ (codes "tff(" ++ (n ++ codes ",type,")) ++ 10 ∷ ((codes "    " ++ (b ++ codes ").")) ++ 10 ∷ [])
unsourced_flat n b = simp append_assoc

sourced_flat : (n f g : Text) → (codes "tff" ++ (codes "(" ++ (n ++ (codes "," ++ (codes "plain" ++ (codes "," ++ 10 ∷ codes "    ")))))) ++ (f ++ (((codes "," ++ 10 ∷ codes "    ") ++ (g ++ [])) ++ (codes ")." ++ 10 ∷ []))) ≡ (codes "tff(" ++ (n ++ codes ",plain,")) ++ 10 ∷ ((codes "    " ++ (f ++ codes ",")) ++ 10 ∷ ((codes "    " ++ (g ++ codes ").")) ++ 10 ∷ []))
sourced_flat n f g = simp (append_assoc, append-nil)

blank_line : (text : Text) → fits End ((codes "    " ++ text) ++ 10 ∷ []) ≡ false
unfolding fits
blank_line text = refl

head_line : (text : Text) → fits End ((codes "tff(" ++ text) ++ 10 ∷ []) ≡ false
unfolding fits
head_line text = refl

pub typing_apart : (k : ℕ) (t : Typing) → is_word (numbered_word (codes "y") k) ≡ true → is_typing t ≡ true → ItemApart (typing_item k t)
typing_apart k t word_ok ok =
    let n = word_text (numbered_word (codes "y") k) in
    let b = typing_text t in
    let first = joined (said (codes "tff(") refl) (joined (word_free (numbered_word (codes "y") k) word_ok) (said (codes ",type,") refl)) in
    let second = joined (said (codes "    ") refl) (joined (typing_free t ok) (said (codes ").") refl)) in
    subst (Apart (fits End)) (sym (unsourced_flat n b)) (line (codes "tff(" ++ (n ++ codes ",type,")) first.all (head_line (n ++ codes ",type,")) (line (codes "    " ++ (b ++ codes ").")) second.all (blank_line (b ++ codes ").")) nothing))

pub line_apart : (file : Text) (item : Item) → is_word (printable_text file) ≡ true → IsWritable file item → ItemApart item
line_apart file item file_ok w = subst ItemApart (sym w.is) (
    let n = word_text w.word in
    let f = formula_text w.formula in
    let g = general_text (source_term (printable_text file) w.source) in
    let first = joined (said (codes "tff(") refl) (joined (word_free w.word w.has_word) (said (codes ",plain,") refl)) in
    let second = joined (said (codes "    ") refl) (joined (formula_free w.formula w.has_formula) (said (codes ",") refl)) in
    let third = joined (said (codes "    ") refl) (joined (source_free (printable_text file) w.source file_ok w.has_source) (said (codes ").") refl)) in
    subst (Apart (fits End)) (sym (sourced_flat n f g))
    (line (codes "tff(" ++ (n ++ codes ",plain,")) first.all (head_line (n ++ codes ",plain,"))
    (line (codes "    " ++ (f ++ codes ",")) second.all (blank_line (f ++ codes ",")) (line (codes "    " ++ (g ++ codes ").")) third.all (blank_line (g ++ codes ").")) nothing))))

pub items_apart : (items : List Item) → AllByRecursion ItemApart items → Apart (fits End) (canonical_text items)
items_apart [] all = nothing
items_apart (i ∷ items) all = apart_join all.0 (items_apart items all.1)
