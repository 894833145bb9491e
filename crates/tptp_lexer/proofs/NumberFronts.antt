-- The number that is found at the front of a text is the longest.
use Rattle.std.proofs.Common.{◌≡◌, ℕ, zero, suc, ◌+◌, ◌≤◌, Bool, true, false, ◌==◌, ◌||◌, [], ◌∷◌, ◌++◌, length, take, drop, slice_index, if◌then◌else◌, ◌⊎◌, inl, inr, refl, sym, ap, subst, ◌∙◌, arith, append_assoc, length-append}
use Rattle.std.proofs.lemmas.Bool.{and_parts, or_cases, or_left, or_right, eqb-true, ne_eqb}
use Rattle.std.proofs.lemmas.Bool.Decides.{nat_tests}
use Rattle.std.proofs.Math.Seq.{take-add}
use Rattle.std.proofs.lemmas.List.{drop-drop, drop_at}
use Rattle.std.specs.List.{list_all}
use Rattle.tptp_lexer.specs.Bytes.{Text, is_numeric}
use Rattle.tptp_lexer.specs.Numbers.{is_sign, is_exponent, AreDigits, IsSign, no_sign, one_sign, IsFraction, no_fraction, dot_decimal, IsExponent, no_exponent, exponent, IsNumber, rational, decimal}
use Rattle.tptp_lexer.specs.Scan.{digits_len, sign_len, behind, digits_behind, fraction_len, exponent_len, tail_len, number_behind, number_len}
use Rattle.tptp_lexer.proofs.Runs.{Stops, prefix_passes, passes_most, passes_all}

some_is : (len : ℕ) → 1 ≤ len → len == 0 ≡ false
some_is len h = ne_eqb len 0 (λ none. (omega arith))

behind_is : (before len : ℕ) → 1 ≤ len → behind before len ≡ before + len
behind_is before len h = rw (some_is len h) refl

number_behind_is : (before len : ℕ) (text : Text) → 1 ≤ len → number_behind before len text ≡ (before + len) + tail_len (drop (before + len) text)
number_behind_is before len text h = ap (λ t. if t then 0 else (let whole = before + len in whole + tail_len (drop whole text))) (some_is len h)

-- ---- what is found is a number

sign_by : (byte : ℕ) (text : Text) (test : Bool) → is_sign byte ≡ test → IsSign (take (if test then 1 else 0) (byte ∷ text))
sign_by byte text true e = one_sign e
sign_by byte text false e = no_sign

found_sign : (text : Text) → IsSign (take (sign_len text) text)
found_sign [] = no_sign
found_sign (byte ∷ text) = sign_by byte text (is_sign byte) refl

digits_from : (n : ℕ) (text : Text) → list_all is_numeric (take n text) ≡ true → n ≡ digits_len text → (n ≡ 0 → ⊥) → AreDigits (take n text)
digits_from zero text h e some = absurd (some refl)
digits_from (suc n) [] h e some = absurd (some e)
digits_from (suc n) (byte ∷ text) h e some = h

found_digits : (text : Text) → (digits_len text ≡ 0 → ⊥) → AreDigits (take (digits_len text) text)
found_digits text some = digits_from (digits_len text) text (prefix_passes is_numeric text) refl some

-- one byte and digits, or nothing
abbrev pub IsBehind : ℕ → Text → Type 0
IsBehind len text = (len ≡ 0) ⊎ ((digits : Text) × AreDigits digits × (take len text ≡ take 1 text ++ digits))

behind_by : (n : ℕ) (text : Text) → n ≡ digits_len (drop 1 text) → IsBehind (behind 1 n) text
behind_by zero text e = inl refl
behind_by (suc n) text e =
    let some = found_digits (drop 1 text) (λ none. (let never : suc n ≡ 0 = e ∙ none in cc)) in
    inr (take (digits_len (drop 1 text)) (drop 1 text), some, ap (λ k. take k text) (behind_is 1 (suc n) (omega arith)) ∙ ap (λ k. take (1 + k) text) e ∙ take-add 1 (digits_len (drop 1 text)) text)

found_behind : (text : Text) → IsBehind (digits_behind text) text
found_behind text = behind_by (digits_len (drop 1 text)) text refl

first_is : (text : Text) (byte : ℕ) → slice_index text 0 == byte ≡ true → 0 == byte ≡ false → take 1 text ≡ byte ∷ []
first_is [] byte h other = cc
first_is (first ∷ text) byte h other = ap (λ b. b ∷ []) (eqb-true first byte h)

fraction_by : (text : Text) (len : ℕ) → slice_index text 0 == 46 ≡ true → IsBehind len text → IsFraction (take len text)
fraction_by text len h (inl e) = rw e no_fraction
fraction_by text len h (inr (digits, are, same)) =
    let all : take len text ≡ 46 ∷ digits = same ∙ ap (λ s. s ++ digits) (first_is text 46 h refl) in subst IsFraction (sym all) (dot_decimal are)

fraction_test : (text : Text) (test : Bool) → slice_index text 0 == 46 ≡ test → IsFraction (take (if test then digits_behind text else 0) text)
fraction_test text true h = fraction_by text (digits_behind text) h (found_behind text)
fraction_test text false h = no_fraction

found_fraction : (text : Text) → IsFraction (take (fraction_len text) text)
found_fraction text = fraction_test text (slice_index text 0 == 46) refl

exponent_by : (byte : ℕ) (text : Text) (sign digits : ℕ) → is_exponent byte ≡ true → sign ≡ sign_len text → digits ≡ digits_len (drop sign text) → IsExponent (take (behind (1 + sign) digits) (byte ∷ text))
exponent_by byte text sign zero h e f = no_exponent
exponent_by byte text sign (suc digits) h e f =
    let some = found_digits (drop sign text) (λ none. (let never : suc digits ≡ 0 = f ∙ none in cc)) in
    let count : 1 + sign + suc digits ≡ suc (sign + suc digits) = omega arith in
    let parts : take (1 + sign + suc digits) (byte ∷ text) ≡ byte ∷ (take sign text ++ take (digits_len (drop sign text)) (drop sign text)) =
    (rw count (ap (λ z. byte ∷ z) (take-add sign (suc digits) text ∙ ap (λ n. take sign text ++ take n (drop sign text)) f))) in
    subst IsExponent (sym (ap (λ k. take k (byte ∷ text)) (behind_is (1 + sign) (suc digits) (omega arith)) ∙ parts)) (exponent (take sign text) _ h (subst (λ n. IsSign (take n text)) (sym e) (found_sign text)) some)

exponent_test : (byte : ℕ) (text : Text) (test : Bool) → is_exponent byte ≡ test
    → IsExponent (take (if test then (let before = 1 + sign_len text in behind before (digits_len (drop before (byte ∷ text)))) else 0) (byte ∷ text))
exponent_test byte text true h =
    let count : 1 + sign_len text ≡ suc (sign_len text) = omega arith in
    exponent_by byte text (sign_len text) (digits_len (drop (1 + sign_len text) (byte ∷ text))) h refl (ap (λ n. digits_len (drop n (byte ∷ text))) count)
exponent_test byte text false h = no_exponent

found_exponent : (text : Text) → IsExponent (take (exponent_len text) text)
found_exponent [] = no_exponent
found_exponent (byte ∷ text) = exponent_test byte text (is_exponent byte) refl

-- what stands behind the digits of a whole number
abbrev pub IsTail : Text → Type 0
IsTail text = ((below : Text) × AreDigits below × (text ≡ 47 ∷ below)) ⊎ ((fraction : Text) × (power : Text) × IsFraction fraction × IsExponent power × (text ≡ fraction ++ power))

ratio_by : (text : Text) (len : ℕ) → slice_index text 0 == 47 ≡ true → IsBehind len text → IsTail (take len text)
ratio_by text len h (inl e) = rw e (inr ([], [], no_fraction, no_exponent, refl))
ratio_by text len h (inr (digits, are, same)) = inl (digits, are, same ∙ ap (λ s. s ++ digits) (first_is text 47 h refl))

tail_test : (text : Text) (test : Bool) → slice_index text 0 == 47 ≡ test → IsTail (take (if test then digits_behind text else (let fraction = fraction_len text in fraction + exponent_len (drop fraction text))) text)
tail_test text true h = ratio_by text (digits_behind text) h (found_behind text)
tail_test text false h =
    let f = fraction_len text in
    inr (take f text, take (exponent_len (drop f text)) (drop f text), found_fraction text, found_exponent (drop f text), take-add f (exponent_len (drop f text)) text)

found_tail : (text : Text) → IsTail (take (tail_len text) text)
found_tail text = tail_test text (slice_index text 0 == 47) refl

joined : (sign digits tail : Text) → IsSign sign → AreDigits digits → IsTail tail → IsNumber (sign ++ (digits ++ tail))
joined sign digits tail s d (inl (below, are, same)) = subst (λ t. IsNumber (sign ++ (digits ++ t))) (sym same) (rational sign digits below s d are)
joined sign digits tail s d (inr (fraction, power, f, p, same)) = subst (λ t. IsNumber (sign ++ (digits ++ t))) (sym same) (decimal sign digits fraction power s d f p)

-- the parts in a row
parts_of : (sign digits tail : ℕ) (text : Text) → take ((sign + digits) + tail) text ≡ take sign text ++ (take digits (drop sign text) ++ take tail (drop (sign + digits) text))
parts_of sign digits tail text =
    let count : (sign + digits) + tail ≡ sign + (digits + tail) = omega arith in
    rw count (take-add sign (digits + tail) text ∙ ap (λ z. take sign text ++ z) (take-add digits tail (drop sign text) ∙ ap (λ z. take digits (drop sign text) ++ take tail z) (drop-drop digits sign text)))

number_by : (digits : ℕ) (text : Text) → digits ≡ digits_len (drop (sign_len text) text) → (number_behind (sign_len text) digits text ≡ 0 → ⊥) → IsNumber (take (number_behind (sign_len text) digits text) text)
number_by zero text e some = absurd (some refl)
number_by (suc digits) text e some =
    let sign = sign_len text in
    let are = found_digits (drop sign text) (λ none. (let never : suc digits ≡ 0 = e ∙ none in cc)) in
    subst IsNumber (sym (ap (λ k. take k text) (number_behind_is sign (suc digits) text (omega arith)) ∙ parts_of sign (suc digits) (tail_len (drop (sign + suc digits) text)) text))
    (joined (take sign text) (take (suc digits) (drop sign text)) _ (found_sign text) (subst (λ n. AreDigits (take n (drop sign text))) (sym e) are) (found_tail (drop (sign + suc digits) text)))

-- what is found is a number
pub found_number : (text : Text) → (number_len text ≡ 0 → ⊥) → IsNumber (take (number_len text) text)
found_number text some = number_by (digits_len (drop (sign_len text) text)) text refl some

-- ---- a number at the front is no longer

numeric_no_sign : (byte : ℕ) → is_numeric byte ≡ true → is_sign byte ≡ false
numeric_no_sign byte h = grind (arith, nat_tests)

digits_all : (digits : Text) → AreDigits digits → list_all is_numeric digits ≡ true
digits_all [] are = absurd are
digits_all (digit ∷ digits) are = are

digits_some : (digits : Text) → AreDigits digits → 1 ≤ length digits
digits_some [] are = absurd are
digits_some (digit ∷ digits) are = omega arith

sign_len_is : {sign : Text} → IsSign sign → (digits rest : Text) → AreDigits digits → sign_len (sign ++ (digits ++ rest)) ≡ length sign
sign_len_is no_sign [] rest are = absurd are
sign_len_is no_sign (digit ∷ digits) rest are =
    let first = and_parts (is_numeric digit) (list_all is_numeric digits) are in rw (numeric_no_sign digit first.0) refl
sign_len_is (one_sign h) digits rest are = rw h refl

digits_most : (digits rest : Text) → AreDigits digits → length digits ≤ digits_len (digits ++ rest)
digits_most digits rest are = passes_most is_numeric digits rest (digits_all digits are)

behind_most : (byte : ℕ) (digits rest : Text) → AreDigits digits → 1 + length digits ≤ digits_behind (byte ∷ (digits ++ rest))
behind_most byte digits rest are =
    let most = digits_most digits rest are in
    let some = digits_some digits are in
    rw (behind_is 1 (digits_len (digits ++ rest)) (omega arith)) (omega arith)

exponent_is : (byte : ℕ) → is_exponent byte ≡ true → (byte ≡ 101) ⊎ (byte ≡ 69)
exponent_is byte h = elim (or_cases (byte == 101) (byte == 69) h) [ inl e ↦ inl (eqb-true byte 101 e) | inr e ↦ inr (eqb-true byte 69 e) ]

exponent_most : {power : Text} → IsExponent power → (rest : Text) → length power ≤ exponent_len (power ++ rest)
exponent_most no_exponent rest = omega arith
exponent_most (exponent {byte = byte} sign digits h s are) rest =
    let flat : (sign ++ digits) ++ rest ≡ sign ++ (digits ++ rest) = append_assoc sign digits rest in
    let signs : sign_len ((sign ++ digits) ++ rest) ≡ length sign = ap sign_len flat ∙ sign_len_is s digits rest are in
    let dropped : drop (1 + length sign) (byte ∷ ((sign ++ digits) ++ rest)) ≡ digits ++ rest =
    (let count : 1 + length sign ≡ suc (length sign) = omega arith in rw (count, flat) (drop_at sign (digits ++ rest) (length sign) refl)) in
    let most = digits_most digits rest are in
    let some = digits_some digits are in
    let all : exponent_len (byte ∷ ((sign ++ digits) ++ rest)) ≡ (1 + length sign) + digits_len (digits ++ rest) =
    (ap (λ t. if t then behind (1 + sign_len ((sign ++ digits) ++ rest)) (digits_len (drop (1 + sign_len ((sign ++ digits) ++ rest)) (byte ∷ ((sign ++ digits) ++ rest)))) else 0) h
    ∙ ap (λ n. behind (1 + n) (digits_len (drop (1 + n) (byte ∷ ((sign ++ digits) ++ rest))))) signs
    ∙ ap (λ z. behind (1 + length sign) (digits_len z)) dropped
    ∙ behind_is (1 + length sign) (digits_len (digits ++ rest)) (omega arith)) in
    rw all (omega (arith, length-append sign digits))

-- a tail is no longer than what is found behind the digits, or it is nothing
abbrev pub TailMost : Text → Text → Type 0
TailMost tail rest = (length tail ≤ tail_len (tail ++ rest)) × ((tail ≡ []) ⊎ Stops is_numeric (tail ++ rest))

exponent_tail : {power : Text} → IsExponent power → (rest : Text) → TailMost power rest
exponent_tail no_exponent rest = (omega arith, inl refl)
exponent_tail (exponent {byte = byte} sign digits h s are) rest =
    let power = byte ∷ (sign ++ digits) in
    let most = exponent_most (exponent {byte = byte} sign digits h s are) rest in
    let others : (byte == 47 ≡ false) × (byte == 46 ≡ false) × (is_numeric byte ≡ false) =
    elim (exponent_is byte h) [ inl e ↦ rw e (refl, refl, refl) | inr e ↦ rw e (refl, refl, refl) ] in
    let found : tail_len (power ++ rest) ≡ 0 + exponent_len (power ++ rest) =
    (ap (λ t. if t then digits_behind (power ++ rest) else (let fraction = fraction_len (power ++ rest) in fraction + exponent_len (drop fraction (power ++ rest)))) others.0
    ∙ ap (λ t. let fraction = if t then digits_behind (power ++ rest) else 0 in fraction + exponent_len (drop fraction (power ++ rest))) others.1) in
    (rw found (omega arith), inr others.2)

-- digits and then what follows them
digits_then : (digits tail rest : Text) → AreDigits digits → TailMost tail rest → length digits + length tail ≤ digits_len (digits ++ (tail ++ rest)) + tail_len (drop (digits_len (digits ++ (tail ++ rest))) (digits ++ (tail ++ rest)))
digits_then digits tail rest are (most, inl none) =
    let long : length tail ≡ 0 = ap length none in
    omega (arith, digits_most digits (tail ++ rest) are, long)
digits_then digits tail rest are (most, inr stops) =
    let all : digits_len (digits ++ (tail ++ rest)) ≡ length digits = passes_all is_numeric digits (tail ++ rest) (digits_all digits are) stops in
    rw (all, drop_at digits (tail ++ rest) (length digits) refl) (omega arith)

-- a fraction and what follows it
fraction_tail : (digits power rest : Text) → AreDigits digits → IsExponent power → length (46 ∷ digits) + length power ≤ tail_len (46 ∷ (digits ++ (power ++ rest)))
fraction_tail digits power rest are p =
    let text = digits ++ (power ++ rest) in
    let some = digits_some digits are in
    let most = digits_most digits (power ++ rest) are in
    let f : digits_behind (46 ∷ text) ≡ 1 + digits_len text = behind_is 1 (digits_len text) (omega arith) in
    let found : tail_len (46 ∷ text) ≡ (1 + digits_len text) + exponent_len (drop (1 + digits_len text) (46 ∷ text)) = ap (λ n. n + exponent_len (drop n (46 ∷ text))) f in
    rw found (elim (exponent_tail p rest).1 [
      | inl none ↦ (let long : length power ≡ 0 = ap length none in omega arith)
      | inr stops ↦
          (let all : digits_len text ≡ length digits = passes_all is_numeric digits (power ++ rest) (digits_all digits are) stops in
          let count : 1 + length digits ≡ suc (length digits) = omega arith in
          let longest = exponent_most p rest in
          rw (all, count, drop_at digits (power ++ rest) (length digits) refl) (omega arith))
    ])

decimal_tail : {fraction power : Text} → IsFraction fraction → IsExponent power → (rest : Text) → TailMost (fraction ++ power) rest
decimal_tail no_fraction p rest = exponent_tail p rest
decimal_tail {power = power} (dot_decimal {digits = digits} are) p rest =
    let flat : (digits ++ power) ++ rest ≡ digits ++ (power ++ rest) = append_assoc digits power rest in
    let most = fraction_tail digits power rest are p in
    (rw flat (omega (arith, length-append digits power)), inr refl)

rational_tail : (below rest : Text) → AreDigits below → TailMost (47 ∷ below) rest
rational_tail below rest are = (let most = behind_most 47 below rest are in omega arith, inr refl)

whole_most : (sign digits tail rest : Text) → IsSign sign → AreDigits digits → TailMost tail rest → length (sign ++ (digits ++ tail)) ≤ number_len ((sign ++ (digits ++ tail)) ++ rest)
whole_most sign digits tail rest s are t =
    let text = digits ++ (tail ++ rest) in
    let flat : (sign ++ (digits ++ tail)) ++ rest ≡ sign ++ text = append_assoc sign (digits ++ tail) rest ∙ ap (λ z. sign ++ z) (append_assoc digits tail rest) in
    let signs : sign_len (sign ++ text) ≡ length sign = sign_len_is s digits (tail ++ rest) are in
    let dropped : drop (length sign) (sign ++ text) ≡ text = drop_at sign text (length sign) refl in
    let some = digits_some digits are in
    let most = digits_most digits (tail ++ rest) are in
    let count = digits_len text in
    let later : drop (length sign + count) (sign ++ text) ≡ drop count text = sym (drop-drop count (length sign) (sign ++ text)) ∙ ap (drop count) dropped in
    let found : number_len (sign ++ text) ≡ (length sign + count) + tail_len (drop count text) =
    (ap (λ n. number_behind n (digits_len (drop n (sign ++ text))) (sign ++ text)) signs
    ∙ ap (λ z. number_behind (length sign) (digits_len z) (sign ++ text)) dropped
    ∙ number_behind_is (length sign) count (sign ++ text) (omega arith)
    ∙ ap (λ z. (length sign + count) + tail_len z) later) in
    let all = digits_then digits tail rest are t in
    rw (flat, found) (omega (arith, length-append sign (digits ++ tail), length-append digits tail))

-- a number at the front is no longer than what is found
pub number_most : {spelling : Text} → IsNumber spelling → (rest : Text) → length spelling ≤ number_len (spelling ++ rest)
number_most (rational sign digits below s d b) rest = whole_most sign digits (47 ∷ below) rest s d (rational_tail below rest b)
number_most (decimal sign digits fraction power s d f p) rest = whole_most sign digits (fraction ++ power) rest s d (decimal_tail f p rest)

-- its first byte is a digit or a sign
abbrev pub BeginsNumber : Text → Type 0
BeginsNumber [] = ⊥
BeginsNumber (byte ∷ text) = (is_numeric byte || is_sign byte) ≡ true

begins_by : {sign : Text} → IsSign sign → (digits rest : Text) → AreDigits digits → BeginsNumber (sign ++ (digits ++ rest))
begins_by no_sign [] rest are = absurd are
begins_by no_sign (digit ∷ digits) rest are = let first = and_parts (is_numeric digit) (list_all is_numeric digits) are in or_left (is_numeric digit) (is_sign digit) first.0
begins_by (one_sign {byte = byte} h) digits rest are = or_right (is_numeric byte) (is_sign byte) h

pub number_begins : {spelling : Text} → IsNumber spelling → BeginsNumber spelling
number_begins (rational sign digits below s d b) = begins_by s digits (47 ∷ below) d
number_begins (decimal sign digits fraction power s d f p) = begins_by s digits (fraction ++ power) d
