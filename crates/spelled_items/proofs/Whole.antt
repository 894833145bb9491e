-- The canonical text of type lines and lines that can be written spells them.
use Rattle.std.proofs.Common.{◌≡◌, ℕ, ◌+◌, ◌≤◌, Bool, true, false, List, [], ◌∷◌, ◌++◌, length, codes, refl, ◌∙◌, arith}
use Rattle.std.specs.Prelude.{◌<◌, ◌^◌, ◌%◌, ◌&&◌, if◌then◌else◌, decimal}
use Rattle.std.specs.List.{list_all, AllByRecursion}
use Rattle.std.proofs.lemmas.Bool.{and_parts, and_from}
use Rattle.std.proofs.lemmas.Bool.Decides.{nat_tests}
use Rattle.std.proofs.lemmas.Fmt.{decimal_by_steps, decimal_nonempty}
use Rattle.std.proofs.lemmas.List.{length-append, length-map}
use Rattle.std.proofs.lemmas.List.Folds.{list_all-append}
use Rattle.tptp_base.specs.Quotable.{is_printable}
use Rattle.tptp_base.specs.declared.item.Item.{Item}
use Rattle.tptp_base.specs.declared.item.Typing.{Typing}
use Rattle.tptp_lexer.specs.declared.style.Style.TheVariants.{Derivation}
use Rattle.tptp_grammar.specs.Faults.{max_nesting}
use Rattle.canon_print.specs.Canonical.{canonical_text}
use Rattle.canon_print.specs.RoundTrip.{SpellsAgain}
use Rattle.derivation_items.specs.Items.{typing_items}
use Rattle.derivation_items.specs.Words.{Text, numbered_word, printable_byte, printable_text}
use Rattle.spelled_items.specs.Writable.{is_typing, is_word, AreWritable}
use Rattle.spelled_items.proofs.Cutting.{items_cut}
use Rattle.spelled_items.proofs.ItemsSpelled.{ItemSpelled, typing_item_spelled, writable_spelled}
use Rattle.spelled_items.proofs.WordsSpelled.{printable_word}

-- ---- names

byte_printable : (byte : ℕ) (b : Bool) → is_printable byte ≡ b → is_printable (if b then byte else 63) ≡ true
byte_printable byte true is = is
byte_printable byte false is = refl

pub all_printable : (text : Text) → list_all is_printable (printable_text text) ≡ true
all_printable [] = refl
all_printable (byte ∷ text) = and_from (is_printable (printable_byte byte)) (list_all is_printable (printable_text text)) (byte_printable byte (is_printable byte) refl) (all_printable text)

pub file_word : (file : Text) → 0 < length file → is_word (printable_text file) ≡ true
file_word file some = (let same : length (printable_text file) ≡ length file = length-map file printable_byte in printable_word (printable_text file) (omega arith) (all_printable file))

digit_printable : (m : ℕ) → m < 10 → is_printable (48 + m) ≡ true
digit_printable m lt = grind (arith, nat_tests)

decimal_printable : (n : ℕ) → n < 2 ^ 64 → list_all is_printable (decimal n) ≡ true
decimal_printable n few =
    decimal_by_steps (λ (m : ℕ) (ds : List ℕ). list_all is_printable ds ≡ true) (λ m h. and_from (is_printable (48 + m)) true (digit_printable m h) refl)
    (λ m ds h e.
    let last : is_printable (48 + m % 10) ≡ true = digit_printable (m % 10) (omega arith) in
    list_all-append is_printable ds ((48 + m % 10) ∷ []) ∙ and_from (list_all is_printable ds) (is_printable (48 + m % 10) && true) e (and_from (is_printable (48 + m % 10)) true last refl))
    n few

-- a word with a number behind it
pub numbered_is_word : (front : Text) (k : ℕ) → list_all is_printable front ≡ true → k < 2 ^ 64 → is_word (numbered_word front k) ≡ true
numbered_is_word front k printable few =
    let some = decimal_nonempty k few in
    let long = length-append front (decimal k) in
    printable_word (numbered_word front k) (omega arith) (list_all-append is_printable front (decimal k) ∙ and_from (list_all is_printable front) (list_all is_printable (decimal k)) printable (decimal_printable k few))

-- the names of type lines can be written
pub typing_words : (k : ℕ) → k < 2 ^ 64 → is_word (numbered_word (codes "y") k) ≡ true
typing_words k few = numbered_is_word (codes "y") k refl few

-- ---- items

typings_spelled : (k : ℕ) (typings : List Typing) (items : List Item) → k + length typings < 2 ^ 64 → list_all is_typing typings ≡ true → AllByRecursion ItemSpelled items → AllByRecursion ItemSpelled (typing_items k typings ++ items)
typings_spelled k [] items few ok all = all
typings_spelled k (t ∷ typings) items few ok all =
    let own : k < 2 ^ 64 = omega arith in
    let others : k + 1 + length typings < 2 ^ 64 = omega arith in
    let parts = and_parts (is_typing t) (list_all is_typing typings) ok in
    (typing_item_spelled k t (typing_words k own) parts.0, typings_spelled (k + 1) typings items others parts.1 all)

lines_spelled : (file : Text) (items : List Item) → is_word (printable_text file) ≡ true → AreWritable file items → AllByRecursion ItemSpelled items
lines_spelled file [] file_ok all = tt
lines_spelled file (i ∷ items) file_ok all = (writable_spelled file i file_ok all.0, lines_spelled file items file_ok all.1)

pub items_spelled : (file : Text) (typings : List Typing) (lines : List Item) → 0 < length file → length typings ≤ 1048576 → list_all is_typing typings ≡ true → AreWritable file lines → AllByRecursion ItemSpelled (typing_items 0 typings ++ lines)
items_spelled file typings lines some few typings_ok lines_ok =
    let fits : 0 + length typings < 2 ^ 64 = omega arith in
    typings_spelled 0 typings lines fits typings_ok (lines_spelled file lines (file_word file some) lines_ok)

pub text_spells : (number : ℕ) (file : Text) (typings : List Typing) (lines : List Item) → 0 < length file → length typings ≤ 1048576 → list_all is_typing typings ≡ true → AreWritable file lines
    → SpellsAgain Derivation number max_nesting (typing_items 0 typings ++ lines) (canonical_text (typing_items 0 typings ++ lines))
text_spells number file typings lines some few typings_ok lines_ok =
    let items = typing_items 0 typings ++ lines in
    let shown = items_cut number (canonical_text items) items (items_spelled file typings lines some few typings_ok lines_ok) 0 in
    (shown.again, shown.same, (shown.tokens, shown.end, shown.cut, (shown.us, shown.spells, shown.within)))
