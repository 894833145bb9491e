-- The mark that is found by the first three bytes is the longest.
use Rattle.std.proofs.Common.{◌≡◌, ℕ, ◌<◌, ◌≤◌, Bool, true, false, ◌==◌, ◌&&◌, [], ◌∷◌, ◌++◌, length, drop, slice_index, if◌then◌else◌, Option, Some, None, refl, sym, ap, ◌∙◌, arith, lit≤}
use Rattle.std.proofs.lemmas.Bool.{and_parts, eqb-true}
use Rattle.tptp_lexer.specs.declared.token.Mark.{Mark}
use Rattle.tptp_lexer.specs.declared.token.Mark.TheVariants as m
use Rattle.tptp_lexer.specs.Bytes.{Text}
use Rattle.tptp_lexer.specs.Marks.{mark_text}
use Rattle.tptp_lexer.specs.Scan.{FoundMark, mark_at, single, short, behind_tilde, behind_less}

-- what is found by the first bytes of a text
abbrev pub mark_of : Text → FoundMark
mark_of text = mark_at (slice_index text 0) (slice_index text 1) (slice_index text 2)

-- ---- what is found is a mark that the text begins with

abbrev pub IsMark : Text → FoundMark → Type 0
IsMark text None = Unit {0}
IsMark text (Some found) = (text ≡ mark_text found.0 ++ drop found.1 text) × (found.1 ≡ length (mark_text found.0))

by_test : (text : Text) (test : Bool) (x y : FoundMark) → (test ≡ true → IsMark text x) → (test ≡ false → IsMark text y) → IsMark text (if test then x else y)
by_test text true x y h k = h refl
by_test text false x y h k = k refl

by_some : (text : Text) (test : Bool) (x y : Mark × ℕ) → (test ≡ true → IsMark text (Some x)) → (test ≡ false → IsMark text (Some y)) → IsMark text (Some (if test then x else y))
by_some text true x y h k = h refl
by_some text false x y h k = k refl

by_short : (text : Text) (test : Bool) (x : Mark) (y : Option Mark) → (test ≡ true → IsMark text (Some (x, 1))) → (test ≡ false → IsMark text (short y)) → IsMark text (short (if test then Some x else y))
by_short text true x y h k = h refl
by_short text false x y h k = k refl

-- a byte that is there
pub head_is : (text : Text) (byte : ℕ) → slice_index text 0 == byte ≡ true → 0 == byte ≡ false → text ≡ byte ∷ drop 1 text
head_is [] byte h other = cc
head_is (first ∷ text) byte h other = ap (λ b. b ∷ text) (eqb-true first byte h)

second_is : (text : Text) (a b : ℕ) → slice_index text 0 == a ≡ true → 0 == a ≡ false → slice_index text 1 == b ≡ true → 0 == b ≡ false → text ≡ a ∷ b ∷ drop 2 text
second_is [] a b h other k some = cc
second_is (first ∷ text) a b h other k some = ap (λ x. x ∷ text) (eqb-true first a h) ∙ ap (λ z. a ∷ z) (head_is text b k some)

module _ (first : ℕ) (text : Text) where
  one : (byte : ℕ) (mark : Mark) → mark_text mark ≡ byte ∷ [] → first == byte ≡ true → IsMark (first ∷ text) (Some (mark, 1))
  one byte mark is h =
      (ap (λ b. b ∷ text) (eqb-true first byte h) ∙ sym (ap (λ s. s ++ text) is), sym (ap length is))

  two : (byte next : ℕ) (mark : Mark) → mark_text mark ≡ byte ∷ next ∷ [] → first == byte ≡ true → slice_index text 0 == next ≡ true → 0 == next ≡ false → IsMark (first ∷ text) (Some (mark, 2))
  two byte next mark is h k some =
      (ap (λ b. b ∷ text) (eqb-true first byte h) ∙ ap (λ z. byte ∷ z) (head_is text next k some) ∙ sym (ap (λ s. s ++ drop 1 text) is), sym (ap length is))

  three : (byte next third : ℕ) (mark : Mark) → mark_text mark ≡ byte ∷ next ∷ third ∷ [] → first == byte ≡ true → slice_index text 0 == next ≡ true → 0 == next ≡ false → slice_index text 1 == third ≡ true → 0 == third ≡ false
      → IsMark (first ∷ text) (Some (mark, 3))
  three byte next third mark is h k some l also =
      (ap (λ b. b ∷ text) (eqb-true first byte h) ∙ ap (λ z. byte ∷ z) (second_is text next third k some l also) ∙ sym (ap (λ s. s ++ drop 2 text) is), sym (ap length is))

  is_single : IsMark (first ∷ text) (short (single first))
  is_single =
      let t = first ∷ text in
      by_short t (first == 40) m.Open _ (one 40 m.Open refl) (λ n.
      by_short t (first == 41) m.Close _ (one 41 m.Close refl) (λ n.
      by_short t (first == 44) m.Comma _ (one 44 m.Comma refl) (λ n.
      by_short t (first == 91) m.OpenList _ (one 91 m.OpenList refl) (λ n.
      by_short t (first == 93) m.CloseList _ (one 93 m.CloseList refl) (λ n.
      by_short t (first == 46) m.Dot _ (one 46 m.Dot refl) (λ n.
      by_short t (first == 58) m.Colon _ (one 58 m.Colon refl) (λ n.
      by_short t (first == 63) m.Question _ (one 63 m.Question refl) (λ n.
      by_short t (first == 38) m.Ampersand _ (one 38 m.Ampersand refl) (λ n.
      by_short t (first == 42) m.Star _ (one 42 m.Star refl) (λ n.
      by_short t (first == 62) m.Greater _ (one 62 m.Greater refl) (λ n.
      by_short t (first == 124) m.Bar _ (one 124 m.Bar refl) (λ n. tt))))))))))))

  is_tilde : first == 126 ≡ true → IsMark (first ∷ text) (Some (behind_tilde (slice_index text 0)))
  is_tilde h =
      let t = first ∷ text in let next = slice_index text 0 in
      by_some t (next == 38) (m.Nand, 2) _ (λ k. two 126 38 m.Nand refl h k refl) (λ n.
      by_some t (next == 124) (m.Nor, 2) _ (λ k. two 126 124 m.Nor refl h k refl) (λ n. one 126 m.Tilde refl h))

  is_less : first == 60 ≡ true → IsMark (first ∷ text) (behind_less (slice_index text 0) (slice_index text 1))
  is_less h =
      let t = first ∷ text in let next = slice_index text 0 in let third = slice_index text 1 in
      by_test t (next == 61) (Some (if third == 62 then (m.Iff, 3) else (m.RevImp, 2))) _ (λ k.
      by_some t (third == 62) (m.Iff, 3) (m.RevImp, 2) (λ l. three 60 61 62 m.Iff refl h k refl l refl) (λ n. two 60 61 m.RevImp refl h k refl)) (λ n.
      by_test t (next == 126 && third == 62) (Some (m.Xor, 3)) None (λ k. (let both = and_parts (next == 126) (third == 62) k in three 60 126 62 m.Xor refl h both.0 refl both.1 refl)) (λ n. tt))

  pub mark_is : IsMark (first ∷ text) (mark_of (first ∷ text))
  mark_is =
      let t = first ∷ text in let next = slice_index text 0 in
      by_test t (first == 33) _ _ (λ h. by_some t (next == 61) (m.NotEqual, 2) (m.Bang, 1) (λ k. two 33 61 m.NotEqual refl h k refl) (λ n. one 33 m.Bang refl h)) (λ n.
      by_test t (first == 61) _ _ (λ h. by_some t (next == 62) (m.Imp, 2) (m.Equal, 1) (λ k. two 61 62 m.Imp refl h k refl) (λ n. one 61 m.Equal refl h)) (λ n.
      by_test t (first == 126) _ _ is_tilde (λ n.
      by_test t (first == 60) _ _ is_less (λ n. is_single))))

-- ---- every mark that the text begins with is no longer

-- as long as this mark, and this mark where it is no longer
abbrev pub Covers : Mark → FoundMark → Type 0
Covers mark None = ⊥
Covers mark (Some found) = (length (mark_text mark) ≤ found.1) × (length (mark_text mark) ≡ found.1 → found.0 ≡ mark)

some_by : (mark : Mark) (test : Bool) (x y : Mark × ℕ) → Covers mark (Some x) → Covers mark (Some y) → Covers mark (Some (if test then x else y))
some_by mark true x y h k = h
some_by mark false x y h k = k

just : (mark : Mark) → length (mark_text mark) ≤ 1 → Covers mark (Some (mark, 1))
just mark h = (h, λ e. refl)

longer : (mark other : Mark) (len : ℕ) → length (mark_text mark) < len → Covers mark (Some (other, len))
longer mark other len h = (omega arith, λ e. absurd (omega arith))

pub mark_covers : (mark : Mark) (rest : Text) → Covers mark (mark_of (mark_text mark ++ rest))
mark_covers m.Open rest = (lit≤ tt, λ e. refl)
mark_covers m.Close rest = (lit≤ tt, λ e. refl)
mark_covers m.OpenList rest = (lit≤ tt, λ e. refl)
mark_covers m.CloseList rest = (lit≤ tt, λ e. refl)
mark_covers m.Comma rest = (lit≤ tt, λ e. refl)
mark_covers m.Dot rest = (lit≤ tt, λ e. refl)
mark_covers m.Colon rest = (lit≤ tt, λ e. refl)
mark_covers m.Bang rest = some_by m.Bang (slice_index rest 0 == 61) (m.NotEqual, 2) (m.Bang, 1) (longer m.Bang m.NotEqual 2 (omega arith)) (just m.Bang (omega arith))
mark_covers m.Question rest = (lit≤ tt, λ e. refl)
mark_covers m.Tilde rest =
    some_by m.Tilde (slice_index rest 0 == 38) (m.Nand, 2) _ (longer m.Tilde m.Nand 2 (omega arith)) (some_by m.Tilde (slice_index rest 0 == 124) (m.Nor, 2) (m.Tilde, 1) (longer m.Tilde m.Nor 2 (omega arith)) (just m.Tilde (omega arith)))
mark_covers m.Ampersand rest = (lit≤ tt, λ e. refl)
mark_covers m.Equal rest = some_by m.Equal (slice_index rest 0 == 62) (m.Imp, 2) (m.Equal, 1) (longer m.Equal m.Imp 2 (omega arith)) (just m.Equal (omega arith))
mark_covers m.NotEqual rest = (lit≤ tt, λ e. refl)
mark_covers m.Star rest = (lit≤ tt, λ e. refl)
mark_covers m.Greater rest = (lit≤ tt, λ e. refl)
mark_covers m.Imp rest = (lit≤ tt, λ e. refl)
mark_covers m.RevImp rest = some_by m.RevImp (slice_index rest 0 == 62) (m.Iff, 3) (m.RevImp, 2) (longer m.RevImp m.Iff 3 (omega arith)) (omega arith, λ e. refl)
mark_covers m.Iff rest = (lit≤ tt, λ e. refl)
mark_covers m.Xor rest = (lit≤ tt, λ e. refl)
mark_covers m.Nand rest = (lit≤ tt, λ e. refl)
mark_covers m.Bar rest = (lit≤ tt, λ e. refl)
mark_covers m.Nor rest = (lit≤ tt, λ e. refl)
