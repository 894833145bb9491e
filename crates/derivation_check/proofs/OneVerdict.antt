-- One verdict applies to answers, and to answers of which the same is said.
use Rattle.std.proofs.Common.{◌≡◌, ℕ, ◌+◌, cond, Bool, List, [], ◌∷◌, length, map, Option, Some, refl, sym, ◌∙◌, ap, subst, arith}
use Rattle.fof_terms.specs.declared.form.Form.{Form}
use Rattle.verifier.specs.declared.answer.Verdict.{Verdict}
use Rattle.verifier.specs.declared.answer.Verdict.TheVariants.{Verified, Failed, NoFalse, BadClaim}
use Rattle.verifier.specs.Report.{said_of, is_unverified, is_skipped, unverified_of, skipped_of}
use Rattle.derivation_check.specs.Endings.{IsVerdict}
use Rattle.verifier.specs.declared.answer.LineAnswer.{LineAnswer}
use Rattle.verifier.specs.declared.answer.LineAnswer.TheVariants.{Accepted, Unverified, Skipped}
use Rattle.derivation_check.specs.declared.claiming.Claim.{Claim}
use Rattle.verifier.proofs.Counting.{unverified-cons, skipped-cons}

-- ---- one verdict

one_word : (o : Option (List ℕ)) (x y : List ℕ) → o ≡ Some x → o ≡ Some y → x ≡ y
one_word o x y first second = cc

module _ (claim : Claim) (problem : List ℕ) (forms : List Form) (answers : List LineAnswer) where
  pub one_verdict : (v w : Verdict) → IsVerdict claim problem forms answers v → IsVerdict claim problem forms answers w → v ≡ w
  one_verdict (Failed u s n) (Failed x y z) is also =
      ap (λ (i : ℕ). Failed i s n) (is.1 ∙ sym also.1) ∙ ap (λ (i : ℕ). Failed x i n) (is.2 ∙ sym also.2) ∙ ap (λ (i : ℕ). Failed x y i) (is.3 ∙ sym also.3)
  one_verdict (Failed u s n) NoFalse is also = absurd (omega (arith, is.0, also.0))
  one_verdict (Failed u s n) (BadClaim word) is also = absurd (omega (arith, is.0, also.0))
  one_verdict (Failed u s n) (Verified word name lines) is also = absurd (omega (arith, is.0, also.0))
  one_verdict NoFalse (Failed u s n) is also = absurd (omega (arith, also.0, is.0))
  one_verdict NoFalse NoFalse is also = refl
  one_verdict NoFalse (BadClaim word) is also = absurd (is.1 also.1)
  one_verdict NoFalse (Verified word name lines) is also = absurd (is.1 also.1)
  one_verdict (BadClaim word) (Failed u s n) is also = absurd (omega (arith, also.0, is.0))
  one_verdict (BadClaim word) NoFalse is also = absurd (also.1 is.1)
  one_verdict (BadClaim word) (BadClaim other) is also = ap (λ (x : List ℕ). BadClaim x) (one_word claim.word word other is.3 also.3)
  one_verdict (BadClaim word) (Verified other name lines) is also = absurd (is.2 also.2)
  one_verdict (Verified word name lines) (Failed u s n) is also = absurd (omega (arith, also.0, is.0))
  one_verdict (Verified word name lines) NoFalse is also = absurd (also.1 is.1)
  one_verdict (Verified word name lines) (BadClaim other) is also = absurd (also.2 is.2)
  one_verdict (Verified word name lines) (Verified other as_named count) is also =
      ap (λ (x : List ℕ). Verified x name lines) (is.3 ∙ sym also.3) ∙ ap (λ (x : List ℕ). Verified other x lines) (is.4 ∙ sym also.4) ∙ ap (λ (n : ℕ). Verified other as_named n) (is.5 ∙ sym also.5)

-- ---- answers of which the same is said

pub first_said : (x y : LineAnswer) (xs ys : List LineAnswer) → (x ∷ xs) ≡ (y ∷ ys) → (x ≡ y) × (xs ≡ ys)
first_said x y xs ys same = (cc, cc)

unverified_said : (a : LineAnswer) → is_unverified a ≡ is_unverified (said_of a)
unverified_said (Accepted rule cites) = refl
unverified_said (Unverified reason) = refl
unverified_said Skipped = refl

skipped_said : (a : LineAnswer) → is_skipped a ≡ is_skipped (said_of a)
skipped_said (Accepted rule cites) = refl
skipped_said (Unverified reason) = refl
skipped_said Skipped = refl

one_count : (answers others : List LineAnswer) → map said_of answers ≡ map said_of others → length answers ≡ length others
one_count [] [] same = refl
one_count [] (b ∷ others) same = absurd (cc)
one_count (a ∷ answers) [] same = absurd (cc)
one_count (a ∷ answers) (b ∷ others) same = let rest = one_count answers others (first_said (said_of a) (said_of b) (map said_of answers) (map said_of others) same).1 in omega (arith, rest)

one_unverified : (answers others : List LineAnswer) → map said_of answers ≡ map said_of others → unverified_of answers ≡ unverified_of others
one_unverified [] [] same = refl
one_unverified [] (b ∷ others) same = absurd (cc)
one_unverified (a ∷ answers) [] same = absurd (cc)
one_unverified (a ∷ answers) (b ∷ others) same =
    let parts = first_said (said_of a) (said_of b) (map said_of answers) (map said_of others) same in
    let here : is_unverified a ≡ is_unverified b = unverified_said a ∙ ap is_unverified parts.0 ∙ sym (unverified_said b) in
    unverified-cons a answers
    ∙ ap (λ (t : Bool). cond t 1 0 + unverified_of answers) here
    ∙ ap (λ (n : ℕ). cond (is_unverified b) 1 0 + n) (one_unverified answers others parts.1)
    ∙ sym (unverified-cons b others)

one_skipped : (answers others : List LineAnswer) → map said_of answers ≡ map said_of others → skipped_of answers ≡ skipped_of others
one_skipped [] [] same = refl
one_skipped [] (b ∷ others) same = absurd (cc)
one_skipped (a ∷ answers) [] same = absurd (cc)
one_skipped (a ∷ answers) (b ∷ others) same =
    let parts = first_said (said_of a) (said_of b) (map said_of answers) (map said_of others) same in
    let here : is_skipped a ≡ is_skipped b = skipped_said a ∙ ap is_skipped parts.0 ∙ sym (skipped_said b) in
    skipped-cons a answers
    ∙ ap (λ (t : Bool). cond t 1 0 + skipped_of answers) here
    ∙ ap (λ (n : ℕ). cond (is_skipped b) 1 0 + n) (one_skipped answers others parts.1)
    ∙ sym (skipped-cons b others)

-- what is a verdict on the ones is one on the others
verdict_on : (claim : Claim) (problem : List ℕ) (forms : List Form) (answers others : List LineAnswer) (v : Verdict) → map said_of answers ≡ map said_of others → IsVerdict claim problem forms answers v → IsVerdict claim problem forms others v
verdict_on claim problem forms answers others (Failed u s n) same is =
    (omega (arith, is.0, one_unverified answers others same, one_skipped answers others same), is.1 ∙ one_unverified answers others same, is.2 ∙ one_skipped answers others same, is.3 ∙ one_count answers others same)
verdict_on claim problem forms answers others NoFalse same is = (omega (arith, is.0, one_unverified answers others same, one_skipped answers others same), is.1)
verdict_on claim problem forms answers others (BadClaim word) same is = (omega (arith, is.0, one_unverified answers others same, one_skipped answers others same), is.1, is.2, is.3)
verdict_on claim problem forms answers others (Verified word name lines) same is =
    (omega (arith, is.0, one_unverified answers others same, one_skipped answers others same), is.1, is.2, is.3, is.4, is.5 ∙ one_count answers others same)

pub same_verdict : (claim other : Claim) (problem : List ℕ) (forms : List Form) (answers others : List LineAnswer) (v w : Verdict) → claim ≡ other → map said_of answers ≡ map said_of others → IsVerdict claim problem forms answers v → IsVerdict other problem forms others w → v ≡ w
same_verdict claim other problem forms answers others v w claims same is also =
    one_verdict claim problem forms answers v w is (subst (λ (c : Claim). IsVerdict c problem forms answers w) (sym claims) (verdict_on other problem forms others answers w (sym same) also))
