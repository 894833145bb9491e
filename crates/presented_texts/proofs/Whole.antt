-- The text that presents a derivation spells its items.
use Rattle.std.proofs.Common.{◌≡◌, ℕ, ◌+◌, ◌-◌, ◌≤◌, true, false, List, [], ◌∷◌, ◌++◌, length, take, drop, codes, refl, sym, ◌∙◌, ap, subst, arith, append_assoc}
use Rattle.std.specs.Prelude.{◌<◌, ◌^◌, Ok}
use Rattle.std.specs.List.{list_all, AllByRecursion}
use Rattle.std.proofs.lemmas.Bool.{and_parts}
use Rattle.std.proofs.lemmas.List.{take-append-le, take_all}
use Rattle.std.proofs.Transfers.{drop-appended}
use Rattle.tptp_base.specs.Place.{is_no_line_feed, place_of}
use Rattle.tptp_base.specs.Quotable.{is_printable}
use Rattle.tptp_base.specs.declared.item.Item.{Item}
use Rattle.tptp_base.specs.declared.item.Typing.{Typing}
use Rattle.tptp_base.specs.declared.place.Region.{Region}
use Rattle.tptp_base.specs.declared.read.TheConstants.{FILE_SIZE}
use Rattle.tptp_lexer.specs.Answer as lexer
use Rattle.tptp_lexer.specs.Tokenized.{Cut, placed}
use Rattle.tptp_lexer.specs.declared.style.Style.TheVariants.{Derivation}
use Rattle.tptp_lexer.specs.declared.token.Tokens.{Tokens}
use Rattle.canon_print.specs.Canonical.{canonical_text}
use Rattle.szs_report.specs.Marks.{fits}
use Rattle.szs_report.specs.Region.{region_of}
use Rattle.szs_report.specs.declared.line.LineKind.TheVariants.{Start, End}
use Rattle.derivation_items.specs.Items.{typing_items}
use Rattle.derivation_items.specs.Words.{Text, printable_text}
use Rattle.tptp_commands.specs.Presented.{proof_text}
use Rattle.presented_texts.specs.Presented.{SpellsSame}
use Rattle.spelled_items.specs.Writable.{is_typing, is_word, AreWritable}
use Rattle.spelled_items.proofs.Cutting.{items_cut}
use Rattle.presented_texts.proofs.Feeds.{Free, joined, said, free_of}
use Rattle.spelled_items.proofs.ItemsSpelled.{ItemSpelled}
use Rattle.spelled_items.proofs.Whole.{all_printable, file_word, items_spelled, typing_words}
use Rattle.presented_texts.proofs.LinesApart.{ItemApart, items_apart, line_apart, typing_apart}
use Rattle.presented_texts.proofs.Regions.{part_found}

-- ---- the part

cut_out : (front body tail : Text) → take (length front + length body - length front) (drop (length front) (front ++ (body ++ tail))) ≡ body
cut_out front body tail =
    let behind : drop (length front) (front ++ (body ++ tail)) ≡ body ++ tail = drop-appended front (front ++ (body ++ tail)) (body ++ tail) refl in
    let size : length front + length body - length front ≡ length body = omega arith in
    ap (λ (l : Text). take (length front + length body - length front) l) behind
    ∙ ap (λ n. take n (body ++ tail)) size
    ∙ take-append-le (length body) body tail (omega arith)
    ∙ take_all (length body) body (omega arith)

-- what stands between what begins the part and what ends it is spelled
spelled_part : (front body tail : Text) (items : List Item) → body ≡ canonical_text items → length body ≤ FILE_SIZE → region_of (front ++ (body ++ tail)) ≡ record { start = length front; end = length front + length body } → AllByRecursion ItemSpelled items
    → SpellsSame (front ++ (body ++ tail)) items
spelled_part front body tail items is short at all =
    let text = front ++ (body ++ tail) in
    let shown = items_cut 0 text items all (length front) in
    let tokens : Tokens = record { items = shown.tokens; end = place_of 0 text shown.end; style = Derivation } in
    let part : Region = record { start = length front; end = length front + length body } in
    let fitting : part.end - part.start ≤ FILE_SIZE = omega arith in
    let own : lexer.part text part ≡ canonical_text items = cut_out front body tail ∙ is in
    let lexed : lexer.Answers 0 text part Derivation (Ok tokens) = (fitting, refl, (shown.end, subst (λ (z : Text). Cut Derivation (placed 0 text) part.start z shown.tokens shown.end []) (sym own) shown.cut, refl)) in (
      shown.again,
      shown.same,
      record {
        tokens = tokens;
        lexed = subst (λ (r : Region). lexer.Answers 0 text r Derivation (Ok tokens)) (sym at) lexed;
        parsed = (shown.us, shown.spells, shown.within);
      },
    )

-- ---- the lines around a derivation

printable_free : (file : Text) → Free (printable_text file)
printable_free file = free_of is_printable refl (printable_text file) (all_printable file)

status_line_no_start : (status name : Text) → fits Start (((codes "% SZS status " ++ status) ++ (codes " for " ++ name)) ++ 10 ∷ []) ≡ false
unfolding fits
status_line_no_start status name = refl

start_line : (name : Text) → fits Start ((codes "% SZS output start CNFRefutation" ++ (codes " for " ++ name)) ++ 10 ∷ []) ≡ true
unfolding fits
start_line name = refl

end_line : (name : Text) → fits End ((codes "% SZS output end CNFRefutation" ++ (codes " for " ++ name)) ++ 10 ∷ []) ≡ true
unfolding fits
end_line name = refl

ended : (a b name : Text) → a ++ (b ++ (name ++ 10 ∷ [])) ≡ (a ++ (b ++ name)) ++ 10 ∷ []
ended a b name = sym (append_assoc a (b ++ name) (10 ∷ []) ∙ ap (λ (z : Text). a ++ z) (append_assoc b name (10 ∷ [])))

three_ended : (a b c one two three body : Text) → a ≡ one ++ 10 ∷ [] → b ≡ two ++ 10 ∷ [] → c ≡ three ++ 10 ∷ [] → (a ++ b) ++ (body ++ c) ≡ (one ++ 10 ∷ (two ++ 10 ∷ [])) ++ (body ++ (three ++ 10 ∷ []))
three_ended a b c one two three body first second third =
    ap (λ (z : Text). (z ++ b) ++ (body ++ c)) first
    ∙ ap (λ (z : Text). ((one ++ 10 ∷ []) ++ z) ++ (body ++ c)) second
    ∙ ap (λ (z : Text). ((one ++ 10 ∷ []) ++ (two ++ 10 ∷ [])) ++ (body ++ z)) third
    ∙ ap (λ (z : Text). z ++ (body ++ (three ++ 10 ∷ []))) (append_assoc one (10 ∷ []) (two ++ 10 ∷ []))

-- the text, line by line
proof_flat : (name status body : Text) → (((codes "% SZS status " ++ status) ++ (codes " for " ++ (name ++ 10 ∷ []))) ++ (codes "% SZS output start CNFRefutation" ++ (codes " for " ++ (name ++ 10 ∷ [])))) ++ (body ++ (codes "% SZS output end CNFRefutation" ++ (codes " for " ++ (name ++ 10 ∷ []))))
    ≡ (((codes "% SZS status " ++ status) ++ (codes " for " ++ name)) ++ 10 ∷ ((codes "% SZS output start CNFRefutation" ++ (codes " for " ++ name)) ++ 10 ∷ [])) ++ (body ++ ((codes "% SZS output end CNFRefutation" ++ (codes " for " ++ name)) ++ 10 ∷ []))
proof_flat name status body =
    let one = codes "% SZS status " ++ status in
    let two = codes "% SZS output start CNFRefutation" in
    let three = codes "% SZS output end CNFRefutation" in
    let behind = codes " for " in
    three_ended (one ++ (behind ++ (name ++ 10 ∷ []))) (two ++ (behind ++ (name ++ 10 ∷ []))) (three ++ (behind ++ (name ++ 10 ∷ []))) (one ++ (behind ++ name)) (two ++ (behind ++ name)) (three ++ (behind ++ name)) body
    (ended one behind name) (ended two behind name) (ended three behind name)

fronts_flat : (one two rest : Text) → one ++ 10 ∷ (two ++ 10 ∷ rest) ≡ (one ++ 10 ∷ (two ++ 10 ∷ [])) ++ rest
fronts_flat one two rest = simp append_assoc

-- items that are spelled, in lines of their own
pub presented : (file status : Text) (items : List Item) → list_all is_no_line_feed status ≡ true → length (canonical_text items) ≤ FILE_SIZE → AllByRecursion ItemSpelled items → AllByRecursion ItemApart items → SpellsSame (proof_text file status items) items
presented file status items status_free short spelled apart =
    let name = printable_text file in
    let body = canonical_text items in
    let one = (codes "% SZS status " ++ status) ++ (codes " for " ++ name) in
    let two = codes "% SZS output start CNFRefutation" ++ (codes " for " ++ name) in
    let three = codes "% SZS output end CNFRefutation" ++ (codes " for " ++ name) in
    let free = printable_free file in
    let behind : Free (codes " for " ++ name) = joined (said (codes " for ") refl) free in
    let one_free : Free one = joined (joined (said (codes "% SZS status ") refl) (said status status_free)) behind in
    let two_free : Free two = joined (said (codes "% SZS output start CNFRefutation") refl) behind in
    let three_free : Free three = joined (said (codes "% SZS output end CNFRefutation") refl) behind in
    let front = one ++ 10 ∷ (two ++ 10 ∷ []) in
    let tail = three ++ 10 ∷ [] in
    let found = part_found one two body three one_free.all (status_line_no_start status name) two_free.all (start_line name) (items_apart items apart) three_free.all (end_line name) in
    let at : region_of (front ++ (body ++ tail)) ≡ record { start = length front; end = length front + length body } = ap region_of (sym (fronts_flat one two (body ++ tail))) ∙ found in
    subst (λ (z : Text). SpellsSame z items) (sym (proof_flat name status body)) (spelled_part front body tail items refl short at spelled)

-- ---- type lines and lines

typings_apart : (k : ℕ) (typings : List Typing) (items : List Item) → k + length typings < 2 ^ 64 → list_all is_typing typings ≡ true → AllByRecursion ItemApart items → AllByRecursion ItemApart (typing_items k typings ++ items)
typings_apart k [] items few ok all = all
typings_apart k (t ∷ typings) items few ok all =
    let own : k < 2 ^ 64 = omega arith in
    let others : k + 1 + length typings < 2 ^ 64 = omega arith in
    let parts = and_parts (is_typing t) (list_all is_typing typings) ok in
    (typing_apart k t (typing_words k own) parts.0, typings_apart (k + 1) typings items others parts.1 all)

lines_apart : (file : Text) (items : List Item) → is_word (printable_text file) ≡ true → AreWritable file items → AllByRecursion ItemApart items
lines_apart file [] file_ok all = tt
lines_apart file (i ∷ items) file_ok all = (line_apart file i file_ok all.0, lines_apart file items file_ok all.1)

pub proof_spells : (file status : Text) (typings : List Typing) (lines : List Item) → list_all is_no_line_feed status ≡ true → 0 < length file → length typings ≤ 1048576 → list_all is_typing typings ≡ true → AreWritable file lines
    → length (canonical_text (typing_items 0 typings ++ lines)) ≤ FILE_SIZE → SpellsSame (proof_text file status (typing_items 0 typings ++ lines)) (typing_items 0 typings ++ lines)
proof_spells file status typings lines status_ok some few typings_ok lines_ok short =
    let file_ok = file_word file some in
    let fits : 0 + length typings < 2 ^ 64 = omega arith in
    presented file status (typing_items 0 typings ++ lines) status_ok short
    (items_spelled file typings lines some few typings_ok lines_ok)
    (typings_apart 0 typings lines fits typings_ok (lines_apart file lines file_ok lines_ok))
