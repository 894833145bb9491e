-- A byte that is a mark of its own is found as this mark.
use Rattle.std.proofs.Common.{◌≡◌, ℕ, ◌<◌, Bool, true, false, ◌==◌, [], ◌∷◌, length, slice_index, if◌then◌else◌, Option, Some, refl, sym, ap, ◌∙◌, arith}
use Rattle.std.proofs.lemmas.Bool.{eqb-true}
use Rattle.tptp_lexer.specs.declared.scan.Front.TheVariants.{Token as Found}
use Rattle.tptp_lexer.specs.declared.scan.Kind.TheVariants as k
use Rattle.tptp_lexer.specs.declared.style.Style.{Style}
use Rattle.tptp_lexer.specs.declared.token.Mark.{Mark}
use Rattle.tptp_lexer.specs.declared.token.Mark.TheVariants as m
use Rattle.tptp_lexer.specs.Bytes.{Text}
use Rattle.tptp_lexer.specs.Scan.{single, marked, front_of}
use Rattle.tptp_lexer.proofs.MarkFronts.{mark_of}
use Rattle.tptp_lexer.proofs.Fronts.{is_other, front-mark}

module _ (style : Style) (first : ℕ) (text : Text) (mark : Mark) where
  abbrev IsFound : Type 0
  IsFound = front_of style (first ∷ text) ≡ Found (k.Mark mark) 1

  by_byte : (test : Bool) (sign : Mark) (others : Option Mark) → (if test then Some sign else others) ≡ Some mark → (test ≡ true → sign ≡ mark → IsFound) → (others ≡ Some mark → IsFound) → IsFound
  by_byte true sign others is h k = let same : sign ≡ mark = cc in h refl same
  by_byte false sign others is h k = k is

  of_byte : (byte : ℕ) (sign : Mark) → is_other byte ≡ true → mark_of (byte ∷ text) ≡ Some (sign, 1) → first == byte ≡ true → sign ≡ mark → IsFound
  of_byte byte sign other found h is = ap (λ b. front_of style (b ∷ text)) (eqb-true first byte h) ∙ front-mark style byte text other ∙ ap marked found ∙ ap (λ s. Found (k.Mark s) 1) is

  single_found : single first ≡ Some mark → IsFound
  single_found is =
      by_byte (first == 40) m.Open _ is (of_byte 40 m.Open refl refl) (λ is.
      by_byte (first == 41) m.Close _ is (of_byte 41 m.Close refl refl) (λ is.
      by_byte (first == 44) m.Comma _ is (of_byte 44 m.Comma refl refl) (λ is.
      by_byte (first == 91) m.OpenList _ is (of_byte 91 m.OpenList refl refl) (λ is.
      by_byte (first == 93) m.CloseList _ is (of_byte 93 m.CloseList refl refl) (λ is.
      by_byte (first == 46) m.Dot _ is (of_byte 46 m.Dot refl refl) (λ is.
      by_byte (first == 58) m.Colon _ is (of_byte 58 m.Colon refl refl) (λ is.
      by_byte (first == 63) m.Question _ is (of_byte 63 m.Question refl refl) (λ is.
      by_byte (first == 38) m.Ampersand _ is (of_byte 38 m.Ampersand refl refl) (λ is.
      by_byte (first == 42) m.Star _ is (of_byte 42 m.Star refl refl) (λ is.
      by_byte (first == 62) m.Greater _ is (of_byte 62 m.Greater refl refl) (λ is.
      by_byte (first == 124) m.Bar _ is (of_byte 124 m.Bar refl refl) (λ is. cc))))))))))))

pub single_front : (style : Style) (text : Text) (mark : Mark) → 0 < length text → Some mark ≡ single (slice_index text 0) → Found (k.Mark mark) 1 ≡ front_of style text
single_front style [] mark some is = absurd (omega (arith, some))
single_front style (first ∷ text) mark some is = sym (single_found style first text mark (sym is))
