-- The part of a prover's output that holds the derivation, and the claim, by the lines that were found.
use Rattle.std.proofs.Common.{◌≡◌, ℕ, suc, ◌+◌, ◌-◌, ◌<◌, ◌≤◌, ◌==◌, ◌||◌, true, nat_eq, List, [], ◌∷◌, length, take, drop, None, Some, codes, sym, ◌∙◌, ap, subst, arith, length-drop}
use Rattle.std.specs.List.{prefix_len, starts_with}
use Rattle.std.specs.Cmp.Lexicographic.{same_text}
use Rattle.std.proofs.lemmas.List.{drop_all, length-take-le, length-take, drop-drop}
use Rattle.std.proofs.lemmas.Bool.{and_parts}
use Rattle.tptp_base.specs.declared.place.Region.{Region}
use Rattle.szs_report.specs.declared.line.LineKind.TheVariants.{Start, End, Status}
use Rattle.szs_report.specs.Lines.{lines_of, bytes_in, lines_before, lines_from_first}
use Rattle.szs_report.specs.Marks.{fits, begins_with_mark, is_status, is_letter}
use Rattle.szs_report.specs.Region.{region_in, region_of, part_of, claim_in, claim_of}
use Rattle.szs_report.proofs.Cuts.{no_lines, first_passes, rest_of, rest_is, IsCut, cut_rest}

none_left : (text : List ℕ) (before : ℕ) (lines : List (List ℕ)) → before ≡ length text → lines_of (drop before text) ≡ lines → lines ≡ []
none_left text before lines all rest = sym rest ∙ ap lines_of (drop_all before text (omega arith)) ∙ no_lines

pub whole : (text : List ℕ) (before : ℕ) (part : Region) → before ≡ length text → lines_of (drop before text) ≡ lines_from_first (fits Start) (lines_of text) → part ≡ record { start = 0; end = length text } → part ≡ region_of text
whole text before part all rest is =
    is ∙ ap (region_in (length text) (lines_before (fits Start) (lines_of text))) (sym (none_left text before (lines_from_first (fits Start) (lines_of text)) all rest))

region : ℕ → ℕ → Region
region start end = record { start = start; end = end }

pub a_part : (text : List ℕ) (before len size : ℕ) (part : Region) → before ≡ bytes_in (lines_before (fits Start) (lines_of text)) → lines_of (drop before text) ≡ lines_from_first (fits Start) (lines_of text)
    → lines_of (drop before text) ≡ take len (drop before text) ∷ lines_of (drop len (drop before text)) → len ≤ length (drop before text)
    → size ≡ bytes_in (lines_before (fits End) (lines_of (drop (before + len) text)))
    → part ≡ record { start = before + len; end = before + len + size } → part ≡ region_of text
unfolding region
a_part text before len size part value rest cut short counted is =
    let b = lines_before (fits Start) (lines_of text) in
    let start : before + len ≡ bytes_in b + length (take len (drop before text)) = omega (arith, value, length-take-le len (drop before text) short) in
    let tail : drop (before + len) text ≡ drop len (drop before text) = sym (drop-drop len before text) in
    is
    ∙ ap (λ n. region (before + len) (before + len + n)) counted
    ∙ ap (λ (t : List ℕ). part_of (before + len) (lines_of t)) tail
    ∙ ap (λ n. part_of n (lines_of (drop len (drop before text)))) start
    ∙ ap (region_in (length text) b) (sym (sym rest ∙ cut))

pub no_claim : (text : List ℕ) (before : ℕ) → before ≡ length text → lines_of (drop before text) ≡ lines_from_first (fits Status) (lines_of text) → None ≡ claim_of text
no_claim text before all rest =
    ap (claim_in (lines_before (fits Status) (lines_of text))) (sym (none_left text before (lines_from_first (fits Status) (lines_of text)) all rest))

-- a marked line is longer than its mark
longer : (mark line : List ℕ) → begins_with_mark mark line ≡ true → suc (length mark) ≤ length line
longer mark [] is = cc
longer mark (byte ∷ rest) is =
    let same : mark ≡ take (length mark) rest = same_text mark (take (length mark) rest) (sym (and_parts (byte == 37 || byte == 35) (starts_with nat_eq rest mark) is).1) in
    omega (arith, ap length same, length-take (length mark) rest)

status_mark : (line : List ℕ) → fits Status line ≡ true → 13 ≤ length line
unfolding fits
status_mark line is = omega (arith, longer (codes " SZS status ") line (and_parts (begins_with_mark (codes " SZS status ") line) (is_status (drop 13 line)) is).0)

-- the line at which a search of status lines ended has the mark
pub marked : (text : List ℕ) (before len : ℕ) → lines_of (drop before text) ≡ lines_from_first (fits Status) (lines_of text)
    → lines_of (drop before text) ≡ take len (drop before text) ∷ lines_of (drop len (drop before text)) → 13 ≤ length (take len (drop before text))
marked text before len rest cut =
    status_mark (take len (drop before text)) (first_passes (fits Status) (lines_of text) (take len (drop before text)) (lines_of (drop len (drop before text))) (sym rest ∙ cut))

pub a_claim : (text : List ℕ) (before len run : ℕ) (part : Region) → before ≡ bytes_in (lines_before (fits Status) (lines_of text)) → lines_of (drop before text) ≡ lines_from_first (fits Status) (lines_of text)
    → lines_of (drop before text) ≡ take len (drop before text) ∷ lines_of (drop len (drop before text))
    → run ≡ prefix_len is_letter (drop 13 (take len (drop before text)))
    → part ≡ record { start = before + (length (take len (drop before text)) - length (drop 13 (take len (drop before text)))); end = before + (length (take len (drop before text)) - length (drop 13 (take len (drop before text)))) + run }
    → Some part ≡ claim_of text
unfolding region
a_claim text before len run part value rest cut counted is =
    let line = take len (drop before text) in
    let b = lines_before (fits Status) (lines_of text) in
    let start : before + (length line - length (drop 13 line)) ≡ bytes_in b + 13 = omega (arith, value, marked text before len rest cut, length-drop 13 line) in
    ap Some (is ∙ ap (λ n. region n (n + run)) start ∙ ap (λ n. region (bytes_in b + 13) (bytes_in b + 13 + n)) counted)
    ∙ ap (claim_in b) (sym (sym rest ∙ cut))

-- the same, for the text as the code cuts it
pub a_claim_next : (text : List ℕ) (before len run : ℕ) (word : List ℕ) (part : Region) → before ≡ bytes_in (lines_before (fits Status) (lines_of text)) → lines_of (drop before text) ≡ lines_from_first (fits Status) (lines_of text)
    → before < length text → (0 < length (rest_of text before) → IsCut (rest_of text before) len)
    → word ≡ drop 13 (take len (rest_of text before)) → run ≡ prefix_len is_letter word
    → part ≡ record { start = before + (length (take len (rest_of text before)) - length word); end = before + (length (take len (rest_of text before)) - length word) + run }
    → Some part ≡ claim_of text
unfolding region
a_claim_next text before len run word part value rest lt cut word_is counted is =
    let same : take len (rest_of text before) ≡ take len (drop before text) = ap (take len) (rest_is text before) in
    let here : word ≡ drop 13 (take len (drop before text)) = word_is ∙ ap (drop 13) same in
    let moved : before + (length (take len (rest_of text before)) - length word) ≡ before + (length (take len (drop before text)) - length (drop 13 (take len (drop before text)))) =
    ap (λ (l : List ℕ). before + (length l - length word)) same ∙ ap (λ (w : List ℕ). before + (length (take len (drop before text)) - length w)) here in
    a_claim text before len run part value rest (cut_rest text before len lt cut) (counted ∙ ap (prefix_len is_letter) here) (is ∙ ap (λ n. region n (n + run)) moved)

pub a_part_next : (text : List ℕ) (before len size : ℕ) (part : Region) → before ≡ bytes_in (lines_before (fits Start) (lines_of text)) → lines_of (drop before text) ≡ lines_from_first (fits Start) (lines_of text)
    → before < length text → (0 < length (rest_of text before) → IsCut (rest_of text before) len) → len ≤ length (rest_of text before)
    → size ≡ bytes_in (lines_before (fits End) (lines_of (rest_of text (before + len))))
    → part ≡ record { start = before + len; end = before + len + size } → part ≡ region_of text
a_part_next text before len size part value rest lt cut short counted is =
    a_part text before len size part value rest (cut_rest text before len lt cut) (subst (λ (r : List ℕ). len ≤ length r) (rest_is text before) short)
    (counted ∙ ap (λ (r : List ℕ). bytes_in (lines_before (fits End) (lines_of r))) (rest_is text (before + len))) is
