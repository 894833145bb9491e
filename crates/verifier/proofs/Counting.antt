-- Answers that are accepted, by counts and one by one.
use Rattle.std.proofs.Common.{◌≡◌, ℕ, zero, suc, ◌+◌, cond, List, [], ◌∷◌, Some, slice_get, refl, arith}
use Rattle.std.proofs.lemmas.List.Sums.{sum_by-cons}
use Rattle.verifier.specs.Report.{is_unverified, is_skipped, unverified_of, skipped_of, AreAccepted}
use Rattle.verifier.specs.declared.answer.LineAnswer.{LineAnswer}
use Rattle.verifier.specs.declared.answer.LineAnswer.TheVariants.{Accepted, Unverified, Skipped}

-- the answer is accepted
abbrev pub IsAccepted : LineAnswer → Type 0
IsAccepted (Accepted rule cites) = Unit {0}
IsAccepted (Unverified reason) = ⊥
IsAccepted Skipped = ⊥

pub unverified-cons : (a : LineAnswer) (as_ : List LineAnswer) → unverified_of (a ∷ as_) ≡ cond (is_unverified a) 1 0 + unverified_of as_
unverified-cons a as_ = sum_by-cons (λ x. cond (is_unverified x) 1 0) a as_

pub skipped-cons : (a : LineAnswer) (as_ : List LineAnswer) → skipped_of (a ∷ as_) ≡ cond (is_skipped a) 1 0 + skipped_of as_
skipped-cons a as_ = sum_by-cons (λ x. cond (is_skipped x) 1 0) a as_

first_accepted : (a : LineAnswer) (as_ : List LineAnswer) → AreAccepted (a ∷ as_) → IsAccepted a
first_accepted (Accepted rule cites) as_ all = tt
first_accepted (Unverified reason) as_ all = absurd (omega (arith, all, unverified-cons (Unverified reason) as_))
first_accepted Skipped as_ all = absurd (omega (arith, all, skipped-cons Skipped as_))

rest_accepted : (a : LineAnswer) (as_ : List LineAnswer) → AreAccepted (a ∷ as_) → AreAccepted as_
rest_accepted a as_ all = omega (arith, all, unverified-cons a as_, skipped-cons a as_)

-- each of accepted answers is accepted
pub one_accepted : (answers : List LineAnswer) (k : ℕ) (a : LineAnswer) → AreAccepted answers → slice_get answers k ≡ Some a → IsAccepted a
one_accepted [] k a all at = absurd (cc)
one_accepted (x ∷ answers) zero a all at = same x a (cc) (first_accepted x answers all)
  where
    same : (x a : LineAnswer) → x ≡ a → IsAccepted x → IsAccepted a
    same (Accepted rule cites) (Accepted other more) is good = tt
    same (Accepted rule cites) (Unverified reason) is good = absurd (cc)
    same (Accepted rule cites) Skipped is good = absurd (cc)
    same (Unverified reason) a is good = absurd good
    same Skipped a is good = absurd good
one_accepted (x ∷ answers) (suc k) a all at = one_accepted answers k a (rest_accepted x answers all) at

-- and where each is, all are
pub all_accepted : (answers : List LineAnswer) → ((k : ℕ) (a : LineAnswer) → slice_get answers k ≡ Some a → IsAccepted a) → AreAccepted answers
all_accepted [] each = refl
all_accepted (Accepted rule cites ∷ answers) each =
    omega (arith, unverified-cons (Accepted rule cites) answers, skipped-cons (Accepted rule cites) answers, all_accepted answers (λ k a at. each (suc k) a at))
all_accepted (Unverified reason ∷ answers) each = absurd (each 0 (Unverified reason) refl)
all_accepted (Skipped ∷ answers) each = absurd (each 0 Skipped refl)
