-- The reader of numbers is exact and finds each number.
use Rattle.std.proofs.Common.{◌≡◌, Bool, true, false, ℕ, zero, suc, ◌+◌, ◌*◌, ◌-◌, ◌/◌, ◌%◌, ◌^◌, ◌<◌, ◌≤◌, List, [], ◌∷◌, ◌++◌, Ok, Err, inl, refl, sym, ◌∙◌, ap, subst, append_assoc, append-nil, arith, lit<, lit≤}
use Rattle.std.specs.Prelude.{decimal, if◌then◌else◌, ◌==◌, ◌&&◌, nat_le}
use Rattle.std.specs.Char.{is_ascii_digit}
use Rattle.std.proofs.lemmas.Fmt.{decimal_digit, decimal_step, decimal_by_steps}
use Rattle.std.proofs.lemmas.Bool.Decides.{nat_tests}
use Rattle.first_fault.specs.Nesting.{Nested, plain}
use Rattle.first_fault.specs.code.Reading.{Unexpected, Outcome, next}
use Rattle.first_fault.specs.Rules.{Rule}
use Rattle.first_fault.proofs.Exact.{Exact, Inhabited, exact_done, exact_stop, exact_after, exact_token, mapped_same, by_next, by_end}
use Rattle.first_fault.proofs.Found.{Found}
use Rattle.first_fault.proofs.Good.{Good, After, after, good_opened, good_as, IsKind}
use Rattle.proof_log.specs.Words.{Word, Number, at_level}
use Rattle.proof_log.specs.code.ReadWords.{is_byte, more_digits, digits, number}
use Rattle.proof_log.proofs.Spelling.{Spell, ends, within_level, plain-on}

pub is_kind : (mark : ℕ) → IsKind (is_byte mark) mark
is_kind mark = record { itself = grind (arith, nat_tests); only = λ t e. grind (arith, nat_tests) }

-- the digits behind those of v
abbrev More : ℕ → ℕ → Rule ℕ ℕ
More most v n ts rest = (ds : List ℕ) × (decimal n ≡ decimal v ++ ds) × (ts ≡ at_level 0 ds ++ rest) × (n ≤ most)

abbrev Digits : ℕ → Rule ℕ ℕ
Digits most n ts rest = (ts ≡ at_level 0 (decimal n) ++ rest) × (n ≤ most)

digit_range : (b : ℕ) → is_ascii_digit b ≡ true → (48 ≤ b) × (b ≤ 57)
digit_range b e = (grind (arith, nat_tests), grind (arith, nat_tests))

one_more : (v b : ℕ) → 0 < v → 10 * v + (b - 48) < 2 ^ 64 → is_ascii_digit b ≡ true → decimal (10 * v + (b - 48)) ≡ decimal v ++ (b ∷ [])
one_more v b pos small digit =
    let range = digit_range b digit in
    let low : 48 ≤ b = range.0 in
    let high : b ≤ 57 = range.1 in
    let q : (10 * v + (b - 48)) / 10 ≡ v = omega arith in
    let r : 48 + (10 * v + (b - 48)) % 10 ≡ b = omega arith in
    decimal_step (10 * v + (b - 48)) (omega arith) small ∙ ap (λ k. decimal k ++ ((48 + (10 * v + (b - 48)) % 10) ∷ [])) q ∙ ap (λ c. decimal v ++ (c ∷ [])) r

both_parts : (x y : Bool) → (x && y) ≡ true → (x ≡ true) × (y ≡ true)
both_parts true y e = (refl, e)
both_parts false y e = cc

no_digit : (t : Bool) → (if t then false else true) ≡ true → t ≡ false
no_digit true e = cc
no_digit false e = refl

-- the words of a number
abbrev pub one_number : ℕ → ℕ → List Word
one_number most n = Number most n ∷ []

zero_digits : decimal 0 ≡ 48 ∷ []
zero_digits = decimal_digit 0 (omega arith)

module _ (most limit : ℕ) (small : most < 2 ^ 64) where
  abbrev taken : ℕ → ℕ → List ℕ → Bool → Outcome ℕ ℕ
  taken v b ts t = if t then more_digits most (10 * v + (b - 48)) ts else Ok (v, b ∷ ts)

  join : (v b : ℕ) → 0 < v → 10 * v + (b - 48) ≤ most → is_ascii_digit b ≡ true → (n : ℕ) (ts rest : List (Nested ℕ)) → More most (10 * v + (b - 48)) n ts rest → More most v n ((b, 0) ∷ ts) rest
  join v b pos le digit n ts rest h =
      (b ∷ h.0, h.1 ∙ ap (λ l. l ++ h.0) (one_more v b pos (omega arith) digit) ∙ append_assoc (decimal v) (b ∷ []) h.0, ap (λ l. (b, 0) ∷ l) h.2, h.3)

  stops : (v : ℕ) → v ≤ most → (more : List (Nested ℕ)) → More most v v more more
  stops v le more = ([], sym (append-nil (decimal v)), refl, le)

  -- the readers of what follows
  abbrev After_digit : List ℕ → Type 0
  After_digit ts = (w : ℕ) → 0 < w → w ≤ most → Exact (more_digits most w) (More most w) limit ts (more_digits most w ts)

  exact_at : (v : ℕ) → 0 < v → v ≤ most → (b : ℕ) (ts : List ℕ) → After_digit ts → (t : Bool) → (is_ascii_digit b && nat_le (10 * v + (b - 48)) most) ≡ t → Exact (more_digits most v) (More most v) limit (b ∷ ts) (taken v b ts t)
  exact_at v pos le b ts ih true e =
      let both = both_parts (is_ascii_digit b) (nat_le (10 * v + (b - 48)) most) e in
      let test : nat_le (10 * v + (b - 48)) most ≡ true = both.1 in
      let fits : 10 * v + (b - 48) ≤ most = grind (arith, nat_tests) in
      subst (Exact (more_digits most v) (More most v) limit (b ∷ ts)) (mapped_same (more_digits most (10 * v + (b - 48)) ts))
      (exact_after b (more_digits most v) (more_digits most (10 * v + (b - 48))) (More most (10 * v + (b - 48))) (More most v) limit 0 (λ n. n) (omega arith) (join v b pos fits both.0)
      (λ us. ap (taken v b us) e ∙ sym (mapped_same (more_digits most (10 * v + (b - 48)) us))) ts (more_digits most (10 * v + (b - 48)) ts) (ih (10 * v + (b - 48)) (omega arith) fits))
  exact_at v pos le b ts ih false e =
      exact_done (more_digits most v) (More most v) limit (b ∷ ts) v (stops v le) (λ other k. by_next b (λ o. more_digits most v o ≡ Ok (v, o)) (λ us. ap (taken v b us) e) other k)

  exact_more : (v : ℕ) → 0 < v → v ≤ most → (ts : List ℕ) → Exact (more_digits most v) (More most v) limit ts (more_digits most v ts)
  exact_more v pos le [] = exact_done (more_digits most v) (More most v) limit [] v (stops v le) (λ other e. by_end (λ o. more_digits most v o ≡ Ok (v, o)) refl other e)
  exact_more v pos le (b ∷ ts) = exact_at v pos le b ts (λ w p l. exact_more w p l ts) (is_ascii_digit b && nat_le (10 * v + (b - 48)) most) refl

  -- ---- from the first digit on

  some_digits : Inhabited (Digits most)
  some_digits = record { value = 0; text = λ more. (48, 0) ∷ more; spells = λ more. (ap (λ l. at_level 0 l ++ more) (sym zero_digits), omega arith) }

  of_zero : (b : ℕ) → (b == 48) ≡ true → (more : List (Nested ℕ)) → Digits most 0 ((b, 0) ∷ more) more
  of_zero b e more = let is : b ≡ 48 = grind (arith, nat_tests) in (ap (λ c. (c, 0) ∷ more) is ∙ ap (λ l. at_level 0 l ++ more) (sym zero_digits), omega arith)

  of_digits : (b : ℕ) → 48 < b → b ≤ 57 → (n : ℕ) (ts rest : List (Nested ℕ)) → More most (b - 48) n ts rest → Digits most n ((b, 0) ∷ ts) rest
  of_digits b low high n ts rest h =
      let is : 48 + (b - 48) ≡ b = omega arith in
      let one : decimal (b - 48) ≡ b ∷ [] = decimal_digit (b - 48) (omega arith) ∙ ap (λ c. c ∷ []) is in
      (ap (λ l. (b, 0) ∷ l) h.2 ∙ ap (λ l. at_level 0 l ++ rest) (sym (h.1 ∙ ap (λ l. l ++ h.0) one)), h.3)

  abbrev first_of : ℕ → List ℕ → Bool → Bool → Outcome ℕ ℕ
  first_of b ts nil digit = if nil then Ok (0, ts) else if digit then more_digits most (b - 48) ts else Err (Unexpected, b ∷ ts)

  exact_first : (9 ≤ most) → (b : ℕ) (ts : List ℕ) (nil digit : Bool) → (b == 48) ≡ nil → is_ascii_digit b ≡ digit → Exact (digits most) (Digits most) limit (b ∷ ts) (first_of b ts nil digit)
  exact_first room b ts true digit e k = exact_token (digits most) (Digits most) limit b 0 0 (omega arith) (of_zero b e) (λ us. ap (λ z. first_of b us z (is_ascii_digit b)) e) ts
  exact_first room b ts false true e k =
      let range = digit_range b k in
      let low : 48 ≤ b = range.0 in
      let high : b ≤ 57 = range.1 in
      let above : 48 < b = grind (arith, nat_tests) in
      subst (Exact (digits most) (Digits most) limit (b ∷ ts)) (mapped_same (more_digits most (b - 48) ts))
      (exact_after b (digits most) (more_digits most (b - 48)) (More most (b - 48)) (Digits most) limit 0 (λ n. n) (omega arith) (of_digits b above high)
      (λ us. ap (λ z. first_of b us z (is_ascii_digit b)) e ∙ ap (first_of b us false) k ∙ sym (mapped_same (more_digits most (b - 48) us))) ts (more_digits most (b - 48) ts) (exact_more (b - 48) (omega arith) (omega arith) ts))
  exact_first room b ts false false e k =
      exact_stop (digits most) (Digits most) limit (b ∷ ts) some_digits (λ other n. by_next b (λ o. digits most o ≡ Err (Unexpected, o)) (λ us. ap (λ z. first_of b us z (is_ascii_digit b)) e ∙ ap (first_of b us false) k) other n)

  exact_digits : 9 ≤ most → (ts : List ℕ) → Exact (digits most) (Digits most) limit ts (digits most ts)
  exact_digits room [] = exact_stop (digits most) (Digits most) limit [] some_digits (λ other n. by_end (λ o. digits most o ≡ Err (Unexpected, o)) refl other n)
  exact_digits room (b ∷ ts) = exact_first room b ts (b == 48) (is_ascii_digit b) refl refl

  -- ---- each number is found

  abbrev goes_on : ℕ → List ℕ → Outcome ℕ ℕ
  goes_on zero r = Ok (0, r)
  goes_on (suc n) r = more_digits most (suc n) r

  goes_on_pos : (n : ℕ) → 0 < n → (r : List ℕ) → goes_on n r ≡ more_digits most n r
  goes_on_pos zero pos r = absurd (omega arith)
  goes_on_pos (suc n) pos r = refl

  abbrev IsRun : ℕ → List ℕ → Type 0
  IsRun n ds = n ≤ most → (r : List ℕ) → digits most (ds ++ r) ≡ goes_on n r

  run_one : (n : ℕ) → n < 10 → IsRun n ((48 + n) ∷ [])
  run_one zero lt le r = refl
  run_one (suc n) lt le r =
      let not_zero : ((48 + suc n) == 48) ≡ false = grind (arith, nat_tests) in
      let digit : is_ascii_digit (48 + suc n) ≡ true = grind (arith, nat_tests) in
      let value : 48 + suc n - 48 ≡ suc n = omega arith in
      ap (λ z. first_of (48 + suc n) r z (is_ascii_digit (48 + suc n))) not_zero ∙ ap (first_of (48 + suc n) r false) digit ∙ ap (λ v. more_digits most v r) value

  run_more : (n : ℕ) (ds : List ℕ) → 10 ≤ n → IsRun (n / 10) ds → IsRun n (ds ++ ((48 + n % 10) ∷ []))
  run_more n ds ge ih le r =
      let front = ih (omega arith) ((48 + n % 10) ∷ r) in
      let value : 10 * (n / 10) + (48 + n % 10 - 48) ≡ n = omega arith in
      let digit : is_ascii_digit (48 + n % 10) ≡ true = grind (arith, nat_tests) in
      let fits : nat_le (10 * (n / 10) + (48 + n % 10 - 48)) most ≡ true = grind (arith, nat_tests) in
      ap (digits most) (append_assoc ds ((48 + n % 10) ∷ []) r) ∙ front ∙ goes_on_pos (n / 10) (omega arith) ((48 + n % 10) ∷ r)
      ∙ ap (λ t. taken (n / 10) (48 + n % 10) r (t && nat_le (10 * (n / 10) + (48 + n % 10 - 48)) most)) digit
      ∙ ap (taken (n / 10) (48 + n % 10) r) fits ∙ ap (λ v. more_digits most v r) value ∙ sym (goes_on_pos n (omega arith) r)

  run_ends : (n : ℕ) (r : List ℕ) → ends (next r) ≡ true → goes_on n r ≡ Ok (n, r)
  run_ends zero r e = refl
  run_ends (suc n) [] e = refl
  run_ends (suc n) (b ∷ r) e = ap (λ t. taken (suc n) b r (t && nat_le (10 * suc n + (b - 48)) most)) (no_digit (is_ascii_digit b) e)

  pub read_digits : (n : ℕ) → n ≤ most → (r : List ℕ) → ends (next r) ≡ true → digits most (decimal n ++ r) ≡ Ok (n, r)
  read_digits n le r e = decimal_by_steps IsRun run_one run_more n (omega arith) le r ∙ run_ends n r e

  found_digits : (n : ℕ) (ts rest : List (Nested ℕ)) → Digits most n ts rest → ends (next (plain rest)) ≡ true → Found limit (digits most) n ts rest
  found_digits n ts rest h e =
      subst (λ us. Found limit (digits most) n us rest) (sym h.0)
      (inl (within_level limit 0 (omega arith) (decimal n) rest, ap (digits most) (plain-on 0 (decimal n) rest) ∙ read_digits n h.1 (plain rest) e))

  good_digits : 9 ≤ most → Good limit (digits most) (Digits most) ends
  good_digits room = record { exact = exact_digits room; found = found_digits; some = some_digits }

  to_spell : (n : ℕ) (ts rest : List (Nested ℕ)) → After 32 0 (λ x. x) (Digits most) n ts rest → Spell (one_number most) 0 n ts rest
  to_spell n ts rest (after {ts = us} h) = (ap (λ l. (32, 0) ∷ l) h.0 ∙ ap (λ l. (32, 0) ∷ (l ++ rest)) (sym (append-nil (at_level 0 (decimal n)))), (h.1, tt))

  of_spell : (n : ℕ) (ts rest : List (Nested ℕ)) → Spell (one_number most) 0 n ts rest → After 32 0 (λ x. x) (Digits most) n ts rest
  of_spell n ts rest h =
      subst (λ us. After 32 0 (λ x. x) (Digits most) n us rest) (sym (h.0 ∙ ap (λ l. (32, 0) ∷ (l ++ rest)) (append-nil (at_level 0 (decimal n))))) (after (refl, h.1.0))

  -- the nesting around a number has no part in its text
  pub good_number : (d : ℕ) → 9 ≤ most → Good limit (number most) (Spell (one_number most) d) ends
  unfolding number
  good_number d room =
      good_as limit (number most) (After 32 0 (λ x. x) (Digits most)) (Spell (one_number most) d) ends ends (good_opened (is_byte 32) 32 (is_kind 32) limit 0 (omega arith) (digits most) (Digits most) ends (good_digits room)) to_spell of_spell (λ h e. e)

-- numbers of 32 and of 64 bits
pub small_good : {limit : ℕ} (d : ℕ) → Good limit (number 4294967295) (Spell (one_number 4294967295) d) ends
small_good {limit = limit} d = good_number 4294967295 limit (lit< tt) d (lit≤ tt)

pub large_good : {limit : ℕ} (d : ℕ) → Good limit (number 18446744073709551615) (Spell (one_number 18446744073709551615) d) ends
large_good {limit = limit} d = good_number 18446744073709551615 limit (lit< tt) d (lit≤ tt)

-- a number that is read is no greater than may stand there
number_most_at : (most limit : ℕ) (ts rest : List ℕ) (n : ℕ) → Exact (number most) (Spell (one_number most) 0) limit ts (Ok (n, rest)) → n ≤ most
number_most_at most limit ts rest n h = (h.spells []).1.0

pub number_most : (most : ℕ) → most < 2 ^ 64 → 9 ≤ most → (ts rest : List ℕ) (n : ℕ) → number most ts ≡ Ok (n, rest) → n ≤ most
number_most most small room ts rest n e = number_most_at most 0 ts rest n (subst (Exact (number most) (Spell (one_number most) 0) 0 ts) e ((good_number most 0 small 0 room).exact ts))
