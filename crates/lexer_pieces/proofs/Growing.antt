-- What stands at the front of a text stays what it is, where the text goes on behind a settled token.
use Rattle.std.specs.Prelude.{ℕ, ◌≡◌, ◌-◌, ◌≤◌, ◌<◌, ◌==◌, ◌&&◌, ◌||◌, not, true, [], ◌∷◌, ◌++◌, drop, length, refl}
use Rattle.std.proofs.Common.{ap, sym, ◌∙◌, subst, arith, length-append, length-drop, inl, inr, zero, suc}
use Rattle.std.proofs.lemmas.Bool.{and_parts, or_cases, or_right, eqb-true}
use Rattle.std.proofs.lemmas.List.{append-nil}
use Rattle.tptp_lexer.specs.declared.scan.Front.{Front}
use Rattle.tptp_lexer.specs.declared.scan.Front.TheVariants.{Token as Found}
use Rattle.tptp_lexer.specs.declared.scan.Kind.{Kind}
use Rattle.tptp_lexer.specs.declared.scan.Kind.TheVariants as k
use Rattle.tptp_lexer.specs.declared.style.Style.{Style}
use Rattle.tptp_lexer.specs.declared.token.Token.TheVariants as t
use Rattle.tptp_lexer.specs.Bytes.{Text}
use Rattle.tptp_lexer.specs.Numbers.{IsNumber, is_sign, is_exponent}
use Rattle.tptp_lexer.specs.Scan.{front_of, counted, dollar, marked, number_len}
use Rattle.tptp_lexer.specs.Spelled.{IsLongest, number}
use Rattle.tptp_lexer.proofs.Cuts.{found_longest}
use Rattle.tptp_lexer.proofs.Fronts.{counted_is, front-dollar, front-mark, front-number}
use Rattle.tptp_lexer.proofs.MarkFronts.{mark_of}
use Rattle.tptp_lexer.proofs.NumberFronts.{number_begins, BeginsNumber as BeginsDigit}
use Rattle.tptp_lexer.proofs.Sound.{SaysFront, front_says, spelled_some, opened}
use Rattle.lexer_pieces.specs.code.Settling.{may_grow, begins_tail, is_settled}
use Rattle.lexer_pieces.proofs.Parting.{IsParted, parted}
use Rattle.lexer_pieces.proofs.Unfinished.{Unfinished, is_token, is_open, is_begun, has_tail, unfinished}

-- ---- what the scanner says of a text that goes on

pub says_of : (style : Style) (text : Text) (front : Front) → 1 ≤ length text → front_of style text ≡ front → SaysFront style text front
says_of style [] front some e = absurd (omega arith)
says_of style (byte ∷ text) front some e = subst (SaysFront style (byte ∷ text)) e (front_says style byte text)

pub found_fits : (style : Style) (text : Text) (kind : Kind) (len : ℕ) → 1 ≤ length text → front_of style text ≡ Found kind len → (1 ≤ len) × (len ≤ length text)
found_fits style text kind len some e =
    let (spelling, rest, spelled, same, long) = says_of style text (Found kind len) some e in
    (let least = spelled_some spelled in omega arith, omega (arith, length-append spelling rest, ap length same))

-- ---- a number is found where one begins

found_kind : (len found : ℕ) (kind : Kind) → counted k.Number 0 found ≡ Found kind len → kind ≡ k.Number
found_kind len zero kind e = absurd (cc)
found_kind len (suc found) kind e = let is = counted_is k.Number 0 (suc found) (omega arith) in cc

number_kind : (style : Style) (digits tail : Text) (kind : Kind) (len : ℕ) → IsNumber digits → front_of style (digits ++ tail) ≡ Found kind len → kind ≡ k.Number
number_kind style digits tail kind len n e = by digits (number_begins n) e
  where
    by : (digits : Text) → BeginsDigit digits → front_of style (digits ++ tail) ≡ Found kind len → kind ≡ k.Number
    by [] begins e = absurd begins
    by (byte ∷ digits) begins e = found_kind len (number_len (byte ∷ (digits ++ tail))) kind (sym (front-number style byte (digits ++ tail) begins) ∙ e)

-- ---- the two beginnings of two bytes have no token

none_of_three : (x y z : ℕ) (zs : Text) → may_grow (x ∷ y ∷ z ∷ zs) ≡ true → ⊥
none_of_three x y z zs grows = cc

start_nothing : (style : Style) (kind : Kind) (len : ℕ) (text : Text) → may_grow text ≡ true → front_of style text ≡ Found kind len → 2 ≤ length text → ⊥
start_nothing style kind len [] grows e long = omega arith
start_nothing style kind len (x ∷ []) grows e long = omega arith
start_nothing style kind len (x ∷ y ∷ []) grows e long = elim (or_cases (x == 36 && y == 36) (x == 60 && y == 126) grows) [
  | inl both ↦ (let parts = and_parts (x == 36) (y == 36) both in let is : x ∷ y ∷ [] ≡ 36 ∷ 36 ∷ [] = ap (λ a. a ∷ y ∷ []) (eqb-true x 36 parts.0) ∙ ap (λ b. 36 ∷ b ∷ []) (eqb-true y 36 parts.1) in dollars (sym (ap (front_of style) is) ∙ e))
  | inr both ↦ (let parts = and_parts (x == 60) (y == 126) both in let is : x ∷ y ∷ [] ≡ 60 ∷ 126 ∷ [] = ap (λ a. a ∷ y ∷ []) (eqb-true x 60 parts.0) ∙ ap (λ b. 60 ∷ b ∷ []) (eqb-true y 126 parts.1) in less (sym (ap (front_of style) is) ∙ e))
]
  where
    dollars : front_of style (36 ∷ 36 ∷ []) ≡ Found kind len → ⊥
    dollars e = let is : dollar (36 ∷ []) ≡ Found kind len = sym (front-dollar style (36 ∷ [])) ∙ e in cc

    less : front_of style (60 ∷ 126 ∷ []) ≡ Found kind len → ⊥
    less e = let is : marked (mark_of (60 ∷ 126 ∷ [])) ≡ Found kind len = sym (front-mark style 60 (126 ∷ []) refl) ∙ e in cc
start_nothing style kind len (x ∷ y ∷ z ∷ zs) grows e long = none_of_three x y z zs grows

-- ---- settled tokens

drop_behind : (xs ys : Text) (n : ℕ) → length xs ≤ n → drop n (xs ++ ys) ≡ drop (n - length xs) ys
drop_behind [] ys n less = let same : n ≡ n - 0 = omega arith in ap (λ i. drop i ys) same
drop_behind (x ∷ xs) ys zero less = absurd (omega arith)
drop_behind (x ∷ xs) ys (suc n) less = let same : n - length xs ≡ suc n - length (x ∷ xs) = omega arith in drop_behind xs ys n (omega arith) ∙ ap (λ i. drop i ys) same

settled_some : (kind : Kind) (behind : Text) → is_settled kind behind ≡ true → 1 ≤ length behind
settled_some kind [] e = absurd (cc)
settled_some kind (x ∷ xs) e = omega arith

settled_number : (behind : Text) → is_settled k.Number behind ≡ true → begins_tail behind ≡ true → ⊥
settled_number [] e begins = cc
settled_number (x ∷ xs) e begins = let no : not (begins_tail (x ∷ xs)) ≡ not true = ap not begins in cc

-- the beginning of a tail has a byte or two; without the first the rest is one too
tail_length : (tail : Text) → begins_tail tail ≡ true → length tail ≤ 2
tail_length [] e = omega arith
tail_length (x ∷ []) e = omega arith
tail_length (x ∷ y ∷ []) e = omega arith
tail_length (x ∷ y ∷ z ∷ zs) e = absurd (cc)

tail_later : (tail : Text) → begins_tail tail ≡ true → (n : ℕ) → n < length tail → begins_tail (drop n tail) ≡ true
tail_later tail e zero less = e
tail_later [] e (suc n) less = absurd (omega arith)
tail_later (x ∷ []) e (suc n) less = absurd (omega arith)
tail_later (x ∷ y ∷ []) e (suc zero) less =
    let parts = and_parts (is_exponent x) (is_sign y) e in
    or_right (y == 46 || y == 47) (is_exponent y || is_sign y) (or_right (is_exponent y) (is_sign y) parts.1)
tail_later (x ∷ y ∷ []) e (suc (suc n)) less = absurd (omega arith)
tail_later (x ∷ y ∷ z ∷ zs) e (suc n) less = absurd (cc)

module _ (style : Style) (text more : Text) (kind : Kind) (len : ℕ) (some : 1 ≤ length text) (found : front_of style text ≡ Found kind len) where
  longest_here : IsLongest style len text
  longest_here = found_longest style text kind len found

  -- a longer token would have another one in front of it
  no_longer : is_settled kind (drop len text) ≡ true → Unfinished style text → ⊥
  no_longer settled begun =
      let behind = settled_some kind (drop len text) settled in
      let fits = found_fits style text kind len some found in
      let before : len < length text = omega (arith, behind, length-drop len text) in
      on behind before fits begun
    where
      on : 1 ≤ length (drop len text) → len < length text → (1 ≤ len) × (len ≤ length text) → Unfinished style text → ⊥
      on behind before fits (is_token token spelled) = omega (arith, longest_here token text [] spelled (sym (append-nil text)))
      on behind before fits (is_open o) = let e = sym (opened style text o) ∙ found in cc
      on behind before fits (is_begun grows) = start_nothing style kind len text grows found (omega (arith, before, fits.0))
      on behind before fits (has_tail digits tail n begins same) =
          let least : length digits ≤ len = longest_here (t.Number digits) digits tail (number n) same in
          let is : kind ≡ k.Number = number_kind style digits tail kind len n (sym (ap (front_of style) same) ∙ found) in
          let rest : drop len text ≡ drop (len - length digits) tail = ap (drop len) same ∙ drop_behind digits tail len least in
          let less : len - length digits < length tail = omega (arith, before, least, length-append digits tail, ap length same) in
          let also : is_settled k.Number (drop len text) ≡ true = subst (λ (z : Kind). is_settled z (drop len text) ≡ true) is settled in
          settled_number (drop len text) also (ap begins_tail rest ∙ tail_later tail begins (len - length digits) less)

  pub settled_longest : is_settled kind (drop len text) ≡ true → IsLongest style len (text ++ more)
  settled_longest settled other spelling rest spelled same = on (parted text more spelling rest same)
    where
      on : IsParted text more spelling rest → length spelling ≤ len
      on (inl (later, front, behind)) = absurd (no_longer settled (unfinished style spelled text later front some))
      on (inr (left, front, one, behind)) = longest_here other spelling left spelled front
