-- The beginnings of numbers: a number, a sign alone, or a number and the beginning of what may make it longer.
use Rattle.std.specs.Prelude.{◌≡◌, ◌≤◌, ◌||◌, ◌==◌, true, [], ◌∷◌, ◌++◌, length, refl}
use Rattle.std.specs.List.{list_all}
use Rattle.std.proofs.Common.{ap, sym, ◌∙◌, subst, arith, append_assoc, inl, inr}
use Rattle.std.proofs.lemmas.Bool.{or_left, or_right, and_from}
use Rattle.std.proofs.lemmas.List.{append-nil}
use Rattle.tptp_lexer.specs.Bytes.{Text, is_numeric}
use Rattle.tptp_lexer.specs.Numbers.{is_sign, is_exponent, AreDigits, IsSign, no_sign, one_sign, IsFraction, no_fraction, dot_decimal, IsExponent, no_exponent, exponent, IsNumber, rational, decimal}
use Rattle.lexer_pieces.specs.code.Settling.{may_grow, begins_tail}
use Rattle.lexer_pieces.proofs.Parting.{IsParted, parted, all_front}

-- The text is the beginning of a number.
pub data BeginsNumber : Text → Type 0 where
  is_number : {text : Text} → IsNumber text → BeginsNumber text
  is_sign_alone : {text : Text} → may_grow text ≡ true → BeginsNumber text
  is_tail : {text : Text} (number tail : Text) → IsNumber number → begins_tail tail ≡ true → text ≡ number ++ tail → BeginsNumber text

-- digits of which some stand in front
digits_front : (text more digits : Text) → AreDigits digits → digits ≡ text ++ more → 1 ≤ length text → AreDigits text
digits_front [] more digits are same some = absurd (omega arith)
digits_front (x ∷ xs) more [] are same some = absurd are
digits_front (x ∷ xs) more (y ∷ ys) are same some = all_front is_numeric (x ∷ xs) more (subst (λ z. list_all is_numeric z ≡ true) same are)

module _ (sign digits : Text) (signed : IsSign sign) (are : AreDigits digits) where
  -- the whole number with this fraction and this power
  abbrev number_with : Text → Text → Text
  number_with fraction power = sign ++ (digits ++ (fraction ++ power))

  -- what stands behind a number with a fraction
  behind_fraction : (fraction tail : Text) → number_with fraction tail ≡ number_with fraction [] ++ tail
  behind_fraction fraction tail =
      sym (append_assoc sign (digits ++ (fraction ++ [])) tail ∙ ap (λ z. sign ++ z) (append_assoc digits (fraction ++ []) tail ∙ ap (λ z. digits ++ (z ++ tail)) (append-nil fraction)))

  -- a beginning of the power
  power_begun : (fraction power later more : Text) → IsFraction fraction → IsExponent power → power ≡ later ++ more → BeginsNumber (number_with fraction later)
  power_begun fraction power [] more f p same = is_number (decimal sign digits fraction [] signed are f no_exponent)
  power_begun fraction [] (x ∷ xs) more f no_exponent same = absurd (cc)
  power_begun fraction power (x ∷ []) more f (exponent {byte = byte} mark count e s d) same =
      let is : byte ≡ x = cc in
      let passes : is_exponent x ≡ true = subst (λ b. is_exponent b ≡ true) is e in
      is_tail (number_with fraction []) (x ∷ []) (decimal sign digits fraction [] signed are f no_exponent) (or_right (x == 46 || x == 47) (is_exponent x || is_sign x) (or_left (is_exponent x) (is_sign x) passes)) (behind_fraction fraction (x ∷ []))
  power_begun fraction power (x ∷ y ∷ ys) more f (exponent {byte = byte} mark count e no_sign d) same =
      let is : byte ≡ x = cc in
      let passes : is_exponent x ≡ true = subst (λ b. is_exponent b ≡ true) is e in
      let tails : count ≡ (y ∷ ys) ++ more = cc in
      is_number (decimal sign digits fraction (x ∷ y ∷ ys) signed are f (exponent [] (y ∷ ys) passes no_sign (digits_front (y ∷ ys) more count d tails (omega arith))))
  power_begun fraction power (x ∷ y ∷ []) more f (exponent {byte = byte} mark count e (one_sign {byte = sign_byte} s) d) same =
      let is : byte ≡ x = cc in
      let also : sign_byte ≡ y = cc in
      let passes : is_exponent x ≡ true = subst (λ b. is_exponent b ≡ true) is e in
      let signs : is_sign y ≡ true = subst (λ b. is_sign b ≡ true) also s in
      is_tail (number_with fraction []) (x ∷ y ∷ []) (decimal sign digits fraction [] signed are f no_exponent) (and_from (is_exponent x) (is_sign y) passes signs) (behind_fraction fraction (x ∷ y ∷ []))
  power_begun fraction power (x ∷ y ∷ z ∷ zs) more f (exponent {byte = byte} mark count e (one_sign {byte = sign_byte} s) d) same =
      let is : byte ≡ x = cc in
      let also : sign_byte ≡ y = cc in
      let tails : count ≡ (z ∷ zs) ++ more = cc in
      let passes : is_exponent x ≡ true = subst (λ b. is_exponent b ≡ true) is e in
      let signs : is_sign y ≡ true = subst (λ b. is_sign b ≡ true) also s in
      is_number (decimal sign digits fraction (x ∷ y ∷ z ∷ zs) signed are f (exponent (y ∷ []) (z ∷ zs) passes (one_sign signs) (digits_front (z ∷ zs) more count d tails (omega arith))))

  -- a beginning of the fraction and the power
  fraction_begun : (fraction power later more : Text) → IsFraction fraction → IsExponent power → fraction ++ power ≡ later ++ more → BeginsNumber (sign ++ (digits ++ later))
  fraction_begun fraction power [] more f p same = is_number (decimal sign digits [] [] signed are no_fraction no_exponent)
  fraction_begun fraction power (x ∷ xs) more no_fraction p same = power_begun [] power (x ∷ xs) more no_fraction p same
  fraction_begun fraction power (x ∷ []) more (dot_decimal {digits = below} b) p same =
      let is : x ≡ 46 = cc in
      let passes : begins_tail (x ∷ []) ≡ true = subst (λ z. begins_tail (z ∷ []) ≡ true) (sym is) refl in
      is_tail (number_with [] []) (x ∷ []) (decimal sign digits [] [] signed are no_fraction no_exponent) passes (behind_fraction [] (x ∷ []))
  fraction_begun fraction power (x ∷ y ∷ ys) more (dot_decimal {digits = below} b) p same =
      let is : x ≡ 46 = cc in
      let tails : below ++ power ≡ (y ∷ ys) ++ more = cc in
      subst (λ z. BeginsNumber (sign ++ (digits ++ (z ∷ y ∷ ys)))) (sym is) (on (parted below power (y ∷ ys) more tails))
    where
      on : IsParted below power (y ∷ ys) more → BeginsNumber (sign ++ (digits ++ (46 ∷ y ∷ ys)))
      on (inl (later, front, behind)) =
          subst (λ z. BeginsNumber (sign ++ (digits ++ (46 ∷ z)))) (sym front) (power_begun (46 ∷ below) power later more (dot_decimal b) p behind)
      on (inr (left, front, some, behind)) =
          let own : AreDigits (y ∷ ys) = digits_front (y ∷ ys) left below b front (omega arith) in
          subst (λ z. BeginsNumber (sign ++ (digits ++ (46 ∷ z)))) (append-nil (y ∷ ys)) (is_number (decimal sign digits (46 ∷ y ∷ ys) [] signed are (dot_decimal own) no_exponent))

  -- a beginning of the digits below
  below_begun : (below later more : Text) → AreDigits below → 47 ∷ below ≡ later ++ more → BeginsNumber (sign ++ (digits ++ later))
  below_begun below [] more b same = is_number (decimal sign digits [] [] signed are no_fraction no_exponent)
  below_begun below (x ∷ []) more b same =
      let is : x ≡ 47 = cc in
      let passes : begins_tail (x ∷ []) ≡ true = subst (λ z. begins_tail (z ∷ []) ≡ true) (sym is) refl in
      is_tail (number_with [] []) (x ∷ []) (decimal sign digits [] [] signed are no_fraction no_exponent) passes (behind_fraction [] (x ∷ []))
  below_begun below (x ∷ y ∷ ys) more b same =
      let is : x ≡ 47 = cc in
      let tails : below ≡ (y ∷ ys) ++ more = cc in
      subst (λ z. BeginsNumber (sign ++ (digits ++ (z ∷ y ∷ ys)))) (sym is) (is_number (rational sign digits (y ∷ ys) signed are (digits_front (y ∷ ys) more below b tails (omega arith))))

-- a beginning of the digits, or of more, behind a sign
digits_begun : (sign digits tail text more : Text) → IsSign sign → AreDigits digits → ((later : Text) → tail ≡ later ++ more → BeginsNumber (sign ++ (digits ++ later))) → digits ++ tail ≡ text ++ more → 1 ≤ length text → BeginsNumber (sign ++ text)
digits_begun sign digits tail text more signed are behind same some = on (parted digits tail text more same)
  where
    on : IsParted digits tail text more → BeginsNumber (sign ++ text)
    on (inl (later, front, rest)) = subst (λ z. BeginsNumber (sign ++ z)) (sym front) (behind later rest)
    on (inr (left, front, one, rest)) =
        let own : AreDigits text = digits_front text left digits are front some in
        subst (λ z. BeginsNumber (sign ++ z)) (append-nil text) (is_number (decimal sign text [] [] signed own no_fraction no_exponent))

signed_begun : (sign digits tail text more : Text) → IsSign sign → AreDigits digits → ((later : Text) → tail ≡ later ++ more → BeginsNumber (sign ++ (digits ++ later))) → sign ++ (digits ++ tail) ≡ text ++ more → 1 ≤ length text → BeginsNumber text
signed_begun [] digits tail text more no_sign are behind same some = digits_begun [] digits tail text more no_sign are behind same some
signed_begun sign digits tail [] more (one_sign s) are behind same some = absurd (omega arith)
signed_begun sign digits tail (x ∷ []) more (one_sign {byte = byte} s) are behind same some =
    let is : byte ≡ x = cc in
    is_sign_alone (or_left (is_sign x) (x == 36 || (x == 47 || x == 60)) (subst (λ b. is_sign b ≡ true) is s))
signed_begun sign digits tail (x ∷ y ∷ ys) more (one_sign {byte = byte} s) are behind same some =
    let is : byte ≡ x = cc in
    let tails : digits ++ tail ≡ (y ∷ ys) ++ more = cc in
    subst (λ b. BeginsNumber (b ∷ y ∷ ys)) is (digits_begun (byte ∷ []) digits tail (y ∷ ys) more (one_sign s) are behind tails (omega arith))

pub number_begun : {number : Text} → IsNumber number → (text more : Text) → number ≡ text ++ more → 1 ≤ length text → BeginsNumber text
number_begun (rational sign digits below s d b) text more same some =
    signed_begun sign digits (47 ∷ below) text more s d (λ later rest. below_begun sign digits s d below later more b rest) same some
number_begun (decimal sign digits fraction power s d f p) text more same some =
    signed_begun sign digits (fraction ++ power) text more s d (λ later rest. fraction_begun sign digits s d fraction power later more f p rest) same some
