-- Where more of a text is needed, it may go on so that it does not stop.
use Rattle.std.specs.Prelude.{ℕ, ◌≡◌, ◌≤◌, ◌==◌, ◌&&◌, ◌||◌, not, Bool, true, false, [], ◌∷◌, ◌++◌, drop, length, refl}
use Rattle.std.proofs.Common.{ap, sym, ◌∙◌, subst, arith, inl, inr}
use Rattle.std.proofs.lemmas.Bool.{or_cases, and_parts, eqb-true}
use Rattle.std.proofs.lemmas.List.{append-nil}
use Rattle.tptp_lexer.specs.declared.scan.Front.TheVariants.{Token as Found}
use Rattle.tptp_lexer.specs.declared.scan.Kind.{Kind}
use Rattle.tptp_lexer.specs.declared.scan.Kind.TheVariants as k
use Rattle.tptp_lexer.specs.declared.style.Style.{Style}
use Rattle.tptp_lexer.specs.declared.token.Mark.TheVariants as m
use Rattle.tptp_lexer.specs.Answer.{IsOpen}
use Rattle.tptp_lexer.specs.Bytes.{Text}
use Rattle.tptp_lexer.specs.Comments.{HasNoEnd}
use Rattle.tptp_lexer.specs.Numbers.{is_sign, is_exponent}
use Rattle.tptp_lexer.specs.Scan.{front_of}
use Rattle.tptp_lexer.proofs.Fronts.{front-lower, front-upper, front-number, front-mark, front-dollar}
use Rattle.lexer_pieces.specs.code.Settling.{may_grow, begins_tail, is_settled}
use Rattle.lexer_pieces.proofs.Ends.{Ends, ends_here, ends_open, ends_behind, one_more}

-- the text may go on so that it ends
abbrev pub MayEnd : Style → Text → Type 0
MayEnd style text = (more : Text) × Ends style (text ++ more)

no_end : HasNoEnd []
no_end [] after is = cc
no_end (b ∷ before) after is = cc

module _ (style : Style) where
  -- ---- single beginnings that go on

  signed : (sign : ℕ) → is_sign sign ≡ true → Ends style (sign ∷ 49 ∷ [])
  signed sign h = elim (or_cases (sign == 43) (sign == 45) h) [
    | inl e ↦ subst (λ b. Ends style (b ∷ 49 ∷ [])) (sym (eqb-true sign 43 e)) (ends_behind style (43 ∷ 49 ∷ []) k.Number 2 (omega arith) (front-number style 43 (49 ∷ []) refl) (ends_here style))
    | inr e ↦ subst (λ b. Ends style (b ∷ 49 ∷ [])) (sym (eqb-true sign 45 e)) (ends_behind style (45 ∷ 49 ∷ []) k.Number 2 (omega arith) (front-number style 45 (49 ∷ []) refl) (ends_here style))
  ]

  open_slash : Ends style (47 ∷ 42 ∷ [])
  open_slash = ends_open style (47 ∷ 42 ∷ []) (inr (inr (record { body = []; has_no_end = no_end; is_text = refl })))

  one_start : (first : ℕ) → (is_sign first || (first == 36 || (first == 47 || first == 60))) ≡ true → MayEnd style (first ∷ [])
  one_start first h = elim (or_cases (is_sign first) (first == 36 || (first == 47 || first == 60)) h) [
    | inl e ↦ (49 ∷ [], signed first e)
    | inr f ↦ elim (or_cases (first == 36) (first == 47 || first == 60) f) [
      | inl e ↦ subst (λ b. MayEnd style (b ∷ [])) (sym (eqb-true first 36 e)) (97 ∷ [], ends_behind style (36 ∷ 97 ∷ []) k.Dollar 2 (omega arith) (front-dollar style (97 ∷ [])) (ends_here style))
      | inr g ↦ elim (or_cases (first == 47) (first == 60) g) [
        | inl e ↦ subst (λ b. MayEnd style (b ∷ [])) (sym (eqb-true first 47 e)) (42 ∷ [], open_slash)
        | inr e ↦ subst (λ b. MayEnd style (b ∷ [])) (sym (eqb-true first 60 e)) (61 ∷ [], ends_behind style (60 ∷ 61 ∷ []) (k.Mark m.RevImp) 2 (omega arith) (front-mark style 60 (61 ∷ []) refl) (ends_here style))
      ]
    ]
  ]

  two_starts : (first second : ℕ) → ((first == 36 && second == 36) || (first == 60 && second == 126)) ≡ true → MayEnd style (first ∷ second ∷ [])
  two_starts first second h = elim (or_cases (first == 36 && second == 36) (first == 60 && second == 126) h) [
    | inl both ↦ (let parts = and_parts (first == 36) (second == 36) both in
        subst (λ a. MayEnd style (a ∷ second ∷ [])) (sym (eqb-true first 36 parts.0)) (subst (λ b. MayEnd style (36 ∷ b ∷ [])) (sym (eqb-true second 36 parts.1))
        (97 ∷ [], ends_behind style (36 ∷ 36 ∷ 97 ∷ []) k.System 3 (omega arith) (front-dollar style (36 ∷ 97 ∷ [])) (ends_here style))))
    | inr both ↦ (let parts = and_parts (first == 60) (second == 126) both in
        subst (λ a. MayEnd style (a ∷ second ∷ [])) (sym (eqb-true first 60 parts.0)) (subst (λ b. MayEnd style (60 ∷ b ∷ [])) (sym (eqb-true second 126 parts.1))
        (62 ∷ [], ends_behind style (60 ∷ 126 ∷ 62 ∷ []) (k.Mark m.Xor) 3 (omega arith) (front-mark style 60 (126 ∷ 62 ∷ []) refl) (ends_here style))))
  ]

  pub start_ends : (text : Text) → may_grow text ≡ true → MayEnd style text
  start_ends [] h = absurd (cc)
  start_ends (first ∷ []) h = one_start first h
  start_ends (first ∷ second ∷ []) h = two_starts first second h
  start_ends (first ∷ second ∷ third ∷ text) h = absurd (cc)

  pub open_ends : (text : Text) → IsOpen text → MayEnd style text
  open_ends text o = ([], subst (Ends style) (sym (append-nil text)) (ends_open style text o))

  -- ---- behind a number

  -- a letter of an exponent, and what ends behind it
  letter_ends : (letter : ℕ) (text : Text) → is_exponent letter ≡ true → front_of style (101 ∷ text) ≡ Found k.Lower 1 → front_of style (69 ∷ text) ≡ Found k.Upper 1 → Ends style text → Ends style (letter ∷ text)
  letter_ends letter text h lower upper ends = elim (or_cases (letter == 101) (letter == 69) h) [
    | inl e ↦ subst (λ b. Ends style (b ∷ text)) (sym (eqb-true letter 101 e)) (ends_behind style (101 ∷ text) k.Lower 1 (omega arith) lower ends)
    | inr e ↦ subst (λ b. Ends style (b ∷ text)) (sym (eqb-true letter 69 e)) (ends_behind style (69 ∷ text) k.Upper 1 (omega arith) upper ends)
  ]

  letter_alone : (letter : ℕ) → is_exponent letter ≡ true → Ends style (letter ∷ [])
  letter_alone letter h = letter_ends letter [] h (front-lower style 101 [] refl) (front-upper style 69 [] refl) (ends_here style)

  letter_signed : (letter sign : ℕ) → is_exponent letter ≡ true → is_sign sign ≡ true → Ends style (letter ∷ sign ∷ 49 ∷ [])
  letter_signed letter sign h s = elim (or_cases (sign == 43) (sign == 45) s) [
    | inl e ↦ subst (λ b. Ends style (letter ∷ b ∷ 49 ∷ [])) (sym (eqb-true sign 43 e)) (letter_ends letter (43 ∷ 49 ∷ []) h (front-lower style 101 (43 ∷ 49 ∷ []) refl) (front-upper style 69 (43 ∷ 49 ∷ []) refl) (signed 43 refl))
    | inr e ↦ subst (λ b. Ends style (letter ∷ b ∷ 49 ∷ [])) (sym (eqb-true sign 45 e)) (letter_ends letter (45 ∷ 49 ∷ []) h (front-lower style 101 (45 ∷ 49 ∷ []) refl) (front-upper style 69 (45 ∷ 49 ∷ []) refl) (signed 45 refl))
  ]

  dot_alone : Ends style (46 ∷ [])
  dot_alone = ends_behind style (46 ∷ []) (k.Mark m.Dot) 1 (omega arith) (front-mark style 46 [] refl) (ends_here style)

  module _ (text : Text) (some : 1 ≤ length text) (kind : Kind) (len : ℕ) (found : front_of style text ≡ Found kind len) where
    as_it_is : Ends style (drop len text) → MayEnd style text
    as_it_is ends = ([], subst (Ends style) (sym (append-nil text)) (ends_behind style text kind len some found ends))

    with_one : (one : ℕ) → Ends style (drop len text ++ one ∷ []) → MayEnd style text
    with_one one ends = (one ∷ [], one_more style text some kind len found one ends)

    tail_ends : (tail : Text) → drop len text ≡ tail → begins_tail tail ≡ true → MayEnd style text
    tail_ends [] is h = as_it_is (subst (Ends style) (sym is) (ends_here style))
    tail_ends (x ∷ []) is h = elim (or_cases (x == 46 || x == 47) (is_exponent x || is_sign x) h) [
      | inl f ↦ elim (or_cases (x == 46) (x == 47) f) [
        | inl e ↦ as_it_is (subst (Ends style) (sym (is ∙ ap (λ b. b ∷ []) (eqb-true x 46 e))) dot_alone)
        | inr e ↦ with_one 42 (subst (λ z. Ends style (z ++ 42 ∷ [])) (sym (is ∙ ap (λ b. b ∷ []) (eqb-true x 47 e))) open_slash)
      ]
      | inr f ↦ elim (or_cases (is_exponent x) (is_sign x) f) [
        | inl e ↦ as_it_is (subst (Ends style) (sym is) (letter_alone x e))
        | inr e ↦ with_one 49 (subst (λ z. Ends style (z ++ 49 ∷ [])) (sym is) (signed x e))
      ]
    ]
    tail_ends (x ∷ y ∷ []) is h =
        let parts = and_parts (is_exponent x) (is_sign y) h in
        with_one 49 (subst (λ z. Ends style (z ++ 49 ∷ [])) (sym is) (letter_signed x y parts.0 parts.1))
    tail_ends (x ∷ y ∷ z ∷ zs) is h = absurd (cc)

    by_kind : (kind' : Kind) (tail : Text) → drop len text ≡ tail → is_settled kind' tail ≡ false → begins_tail tail ≡ true
    by_kind kind' [] is h = refl
    by_kind k.Number (x ∷ xs) is h = not_false (begins_tail (x ∷ xs)) h
      where
        not_false : (b : Bool) → not b ≡ false → b ≡ true
        not_false true h = refl
        not_false false h = absurd (cc)
    by_kind k.Lower (x ∷ xs) is h = absurd (cc)
    by_kind k.Quoted (x ∷ xs) is h = absurd (cc)
    by_kind k.Upper (x ∷ xs) is h = absurd (cc)
    by_kind k.Dollar (x ∷ xs) is h = absurd (cc)
    by_kind k.System (x ∷ xs) is h = absurd (cc)
    by_kind k.Distinct (x ∷ xs) is h = absurd (cc)
    by_kind k.Comment (x ∷ xs) is h = absurd (cc)
    by_kind (k.Mark mark) (x ∷ xs) is h = absurd (cc)

    pub unsettled_ends : is_settled kind (drop len text) ≡ false → MayEnd style text
    unsettled_ends h = tail_ends (drop len text) refl (by_kind kind (drop len text) refl h)
