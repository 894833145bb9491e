-- Where a block comment ends.
use Rattle.std.proofs.Common.{◌≡◌, ℕ, zero, suc, ◌+◌, ◌<◌, Bool, true, false, ◌==◌, ◌&&◌, [], ◌∷◌, ◌++◌, length, slice_index, if◌then◌else◌, inl, inr, Option, Some, None, option_map, refl, sym, ap, subst, ◌∙◌, arith, eq-eqb, length-append}
use Rattle.std.proofs.lemmas.Bool.{and_parts, and_from, and_right, eqb-true, cases_Bool}
use Rattle.tptp_lexer.specs.Bytes.{Text}
use Rattle.tptp_lexer.specs.Comments.{HasNoEnd}
use Rattle.tptp_lexer.specs.Scan.{comment_end}
use Rattle.memchr.specs.Find.{FindsNeedle, OccursAt}

-- `*/` begins the text
abbrev pub ends : ℕ → Text → Bool
ends byte text = byte == 42 && slice_index text 0 == 47

ends_is : (byte : ℕ) (text : Text) → ends byte text ≡ true → (after : Text) × (byte ∷ text ≡ 42 ∷ 47 ∷ after)
ends_is byte [] h = let both = and_parts (byte == 42) (0 == 47) h in absurd (let never : ◌≡◌ {A = Bool} false true = both.1 in cc)
ends_is byte (next ∷ text) h =
    let both = and_parts (byte == 42) (next == 47) h in
    let first = eqb-true byte 42 both.0 in
    let second = eqb-true next 47 both.1 in
    (text, cc)

ends_at : (byte : ℕ) (text after : Text) → byte ∷ text ≡ 42 ∷ 47 ∷ after → ends byte text ≡ true
ends_at byte text after e =
    let first : byte ≡ 42 = cc in
    let rest : text ≡ 47 ∷ after = cc in
    and_from (byte == 42) (slice_index text 0 == 47) (eq-eqb byte 42 first) (ap (λ z. slice_index z 0 == 47) rest)

-- a text without an end has none behind its first byte
no_end_tail : (byte : ℕ) (text : Text) → HasNoEnd (byte ∷ text) → HasNoEnd text
no_end_tail byte text h before after e = h (byte ∷ before) after (ap (λ z. byte ∷ z) e)

no_end_cons : (byte : ℕ) (text : Text) → ends byte text ≡ false → HasNoEnd text → HasNoEnd (byte ∷ text)
no_end_cons byte text miss h [] after e = let hit = ends_at byte text after e in cc
no_end_cons byte text miss h (x ∷ before) after e = let rest : text ≡ before ++ 42 ∷ 47 ∷ after = cc in h before after rest

no_end_short : (byte : ℕ) → HasNoEnd (byte ∷ [])
no_end_short byte before after e = absurd (omega (arith, length-append before (42 ∷ 47 ∷ after), ap length e))

-- the first `*/` behind a body
ends_later : (byte : ℕ) (body rest : Text) → HasNoEnd (byte ∷ (body ++ 42 ∷ [])) → ends byte (body ++ 42 ∷ 47 ∷ rest) ≡ false
ends_later byte [] rest h = grind (arith, and_right)
ends_later byte (next ∷ body) rest h =
    elim (cases_Bool (ends byte (next ∷ body))) [
      | inl hit ↦ (let is = ends_is byte (next ∷ body) hit in absurd (h [] (body ++ 42 ∷ []) (let first : byte ≡ 42 = cc in let second : next ≡ 47 = cc in cc)))
      | inr miss ↦ miss
    ]

pub comment_end_is : (body rest : Text) → HasNoEnd (body ++ 42 ∷ []) → comment_end (body ++ 42 ∷ 47 ∷ rest) ≡ Some (length body)
comment_end_is [] rest h = refl
comment_end_is (byte ∷ body) rest h =
    rw (ends_later byte body rest h) (ap (option_map suc) (comment_end_is body rest (no_end_tail byte (body ++ 42 ∷ []) h)))

-- what an end says of the text
abbrev pub SaysComment : Text → Option ℕ → Type 0
SaysComment text None = HasNoEnd text
SaysComment text (Some end) = (body : Text) × (after : Text) × (text ≡ body ++ 42 ∷ 47 ∷ after) × (length body ≡ end) × HasNoEnd (body ++ 42 ∷ [])

-- the byte before a body does not end a comment with it where it does not with the text
ends_before : (byte : ℕ) (body after : Text) → ends byte (body ++ 42 ∷ 47 ∷ after) ≡ false → ends byte (body ++ 42 ∷ []) ≡ false
ends_before byte [] after h = grind (arith, and_right)
ends_before byte (next ∷ body) after h = h

says_later : (byte : ℕ) (text : Text) (o : Option ℕ) → ends byte text ≡ false → SaysComment text o → SaysComment (byte ∷ text) (option_map suc o)
says_later byte text None miss says = no_end_cons byte text miss says
says_later byte text (Some end) miss (body, after, same, long, clean) =
    let still : ends byte (body ++ 42 ∷ 47 ∷ after) ≡ false = ap (ends byte) (sym same) ∙ miss in
    (byte ∷ body, after, ap (λ z. byte ∷ z) same, omega arith, no_end_cons byte (body ++ 42 ∷ []) (ends_before byte body after still) clean)

says_by : (byte : ℕ) (text : Text) (test : Bool) → ends byte text ≡ test → SaysComment text (comment_end text) → SaysComment (byte ∷ text) (if test then Some 0 else option_map suc (comment_end text))
says_by byte text true hit says = let is = ends_is byte text hit in ([], is.0, is.1, refl, no_end_short 42)
says_by byte text false miss says = says_later byte text (comment_end text) miss says

pub comment_says : (text : Text) → SaysComment text (comment_end text)
comment_says [] = λ before after e. absurd (omega (arith, length-append before (42 ∷ 47 ∷ after), ap length e))
comment_says (byte ∷ text) = says_by byte text (ends byte text) refl (comment_says text)

none_by : (text : Text) (o : Option ℕ) → SaysComment text o → HasNoEnd text → o ≡ None
none_by text None says h = refl
none_by text (Some end) (body, after, same, long, clean) h = absurd (h body after same)

pub comment_end_none : (text : Text) → HasNoEnd text → comment_end text ≡ None
comment_end_none text h = none_by text (comment_end text) (comment_says text) h

-- ---- what the search for `*/` gives

abbrev End : Text
End = 42 ∷ 47 ∷ []

occurs_here : (byte : ℕ) (text : Text) → ends byte text ≡ true → OccursAt (byte ∷ text) End 0
occurs_here byte text hit =
    let is = ends_is byte text hit in
    let long : length (byte ∷ text) ≡ length (42 ∷ 47 ∷ is.0) = ap length is.1 in
    record { fits = omega arith; reads = λ j lt. subst (λ z. slice_index z (0 + j) ≡ slice_index End j) (sym is.1) (reads_at is.0 j lt) }
  where
    reads_at : (after : Text) (j : ℕ) → j < 2 → slice_index (42 ∷ 47 ∷ after) (0 + j) ≡ slice_index End j
    reads_at after zero lt = refl
    reads_at after (suc zero) lt = refl
    reads_at after (suc (suc j)) lt = absurd (omega arith)

here_occurs : (byte : ℕ) (text : Text) → OccursAt (byte ∷ text) End 0 → ends byte text ≡ true
here_occurs byte text h =
    and_from (byte == 42) (slice_index text 0 == 47) (eq-eqb byte 42 (h.reads 0 (omega arith))) (eq-eqb (slice_index text 0) 47 (h.reads 1 (omega arith)))

occurs_later : (byte : ℕ) (text : Text) (k : ℕ) → OccursAt text End k → OccursAt (byte ∷ text) End (suc k)
occurs_later byte text k h = record { fits = (let f = h.fits in omega arith); reads = λ j lt. (let same : suc k + j ≡ suc (k + j) = omega arith in rw same (h.reads j lt)) }

later_occurs : (byte : ℕ) (text : Text) (k : ℕ) → OccursAt (byte ∷ text) End (suc k) → OccursAt text End k
later_occurs byte text k h = record { fits = (let f = h.fits in omega arith); reads = λ j lt. (let same : suc k + j ≡ suc (k + j) = omega arith in rw same at (h.reads j lt)) }

first_found : (text : Text) (k : ℕ) → OccursAt text End k → ((j : ℕ) → j < k → OccursAt text End j → ⊥) → Some k ≡ comment_end text
first_found [] k h before = absurd (let f = h.fits in omega arith)
first_found (byte ∷ text) zero h before = rw (here_occurs byte text h) refl
first_found (byte ∷ text) (suc k) h before =
    let rest = first_found text k (later_occurs byte text k h) (λ j lt o. before (suc j) (omega arith) (occurs_later byte text j o)) in
    elim (cases_Bool (ends byte text)) [
      | inl hit ↦ absurd (before 0 (omega arith) (occurs_here byte text hit))
      | inr miss ↦ rw miss (ap (option_map suc) rest)
    ]

none_found : (text : Text) → ((j : ℕ) → j < length text → OccursAt text End j → ⊥) → None ≡ comment_end text
none_found [] h = refl
none_found (byte ∷ text) h =
    let rest = none_found text (λ j lt o. h (suc j) (omega arith) (occurs_later byte text j o)) in
    elim (cases_Bool (ends byte text)) [
      | inl hit ↦ absurd (h 0 (omega arith) (occurs_here byte text hit))
      | inr miss ↦ rw miss (ap (option_map suc) rest)
    ]

pub found_is : (text : Text) (o : Option ℕ) → FindsNeedle text (42 ∷ 47 ∷ []) 0 o → o ≡ comment_end text
found_is text None h = none_found text (λ j lt o. h j (omega arith) (omega arith) o)
found_is text (Some k) h = first_found text k h.1 (λ j lt o. h.0.before j (omega arith) lt o)
