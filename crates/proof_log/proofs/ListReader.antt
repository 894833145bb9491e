-- The reader of lists is exact and finds each list, where the reader of members does.
use Rattle.std.proofs.Common.{◌≡◌, true, ℕ, zero, suc, List, [], ◌∷◌, ◌++◌, length, map, inl, refl, sym, ◌∙◌, ap, subst, arith, lit<, lit≤}
use Rattle.std.specs.List.{flat_map}
use Rattle.std.proofs.lemmas.List.{length-map}
use Rattle.first_fault.specs.Nesting.{Nested, plain}
use Rattle.first_fault.proofs.NestingFacts.{done}
use Rattle.first_fault.specs.code.Reading.{Reader, mapped, next}
use Rattle.first_fault.specs.Rules.{Rule}
use Rattle.first_fault.proofs.Exact.{Exact, exact_done}
use Rattle.first_fault.proofs.Found.{Found}
use Rattle.first_fault.proofs.Good.{Good, good_then, good_map, Parts}
use Rattle.proof_log.specs.Words.{Word, large, list_of, nested}
use Rattle.proof_log.specs.code.ReadWords.{number, times, listed}
use Rattle.proof_log.proofs.Spelling.{Spell, ends, ends_before, nested_on, ranges-append, ranges-first, ranges-second}
use Rattle.proof_log.proofs.NumberReader.{one_number, good_number}

module _ {A : Type 0} (words : A → List Word) where
  abbrev pub members : List A → List Word
  members xs = flat_map (λ part. part) (map words xs)

  abbrev pub list_words : List A → List Word
  list_words xs = list_of (map words xs)

  module _ (limit d : ℕ) (p : Reader ℕ A) (good : Good limit p (Spell words d) ends) where
    -- so many members
    abbrev Times : ℕ → Rule ℕ (List A)
    Times n xs ts rest = (length xs ≡ n) × Spell members d xs ts rest

    -- the first of them, and the others
    abbrev Others : ℕ → A → Rule ℕ (List A)
    Others n x ys ts rest = (xs : List A) × (x ∷ xs ≡ ys) × Times n xs ts rest

    exact_none : (ts : List ℕ) → Exact (times zero p) (Times zero) limit ts (times zero p ts)
    exact_none ts = exact_done (times zero p) (Times zero) limit ts [] (λ more. (refl, (refl, tt))) (λ other e. refl)

    found_none : (xs : List A) (ts rest : List (Nested ℕ)) → Times zero xs ts rest → Found limit (times zero p) xs ts rest
    found_none [] ts rest h = subst (λ us. Found limit (times zero p) [] us rest) (sym h.1.0) (inl (done, refl))
    found_none (x ∷ xs) ts rest h = absurd (let e : suc (length xs) ≡ 0 = h.0 in omega arith)

    others : (n : ℕ) → Good limit (times n p) (Times n) ends → (x : A) → Good limit (λ ts. mapped (λ xs. x ∷ xs) (times n p ts)) (Others n x) ends
    others n ih x = good_map limit (times n p) (λ ts. mapped (λ xs. x ∷ xs) (times n p ts)) (Times n) (Others n x) ends (λ xs. x ∷ xs) (λ ts. refl) ih (λ xs ts rest h. (xs, refl, h)) (λ ys ts rest h. (h.0, h.2, h.1))

    join : (n : ℕ) (x : A) (ys : List A) (ts mid rest : List (Nested ℕ)) → Spell words d x ts mid → Others n x ys mid rest → Times (suc n) ys ts rest
    join n x ys ts mid rest h k =
        subst (λ zs. Times (suc n) zs ts rest) k.1
        (ap suc k.2.0, (h.0 ∙ ap (λ l. nested d (words x) ++ l) k.2.1.0 ∙ sym (nested_on d (words x) (members k.0) rest), ranges-append (words x) (members k.0) h.1 k.2.1.1))

    split : (n : ℕ) (ys : List A) (ts rest : List (Nested ℕ)) → Times (suc n) ys ts rest → ends (next (plain rest)) ≡ true → Parts (Spell words d) (Others n) ends ys ts rest
    split n [] ts rest h e = absurd (let k : 0 ≡ suc n = h.0 in omega arith)
    split n (x ∷ xs) ts rest h e = record {
      value = x;
      mid = nested d (members xs) ++ rest;
      first = (h.1.0 ∙ nested_on d (words x) (members xs) rest, ranges-first (words x) (members xs) h.1.1);
      second = (xs, refl, (let k : suc (length xs) ≡ suc n = h.0 in omega arith, (refl, ranges-second (words x) (members xs) h.1.1)));
      ends = ends_before d (members xs) rest e;
    }

    good_times : (n : ℕ) → Good limit (times n p) (Times n) ends
    good_times zero = record {
      exact = exact_none;
      found = λ xs ts rest h e. found_none xs ts rest h;
      some = record { value = []; text = λ more. more; spells = λ more. (refl, (refl, tt)) };
    }
    good_times (suc n) = good_then limit p (λ x ts. mapped (λ xs. x ∷ xs) (times n p ts)) (Spell words d) (Others n) (Times (suc n)) ends ends good (λ x can. others n (good_times n) x) (join n) (split n)

    abbrev Count : Rule ℕ ℕ
    Count = Spell (one_number 18446744073709551615) d

    join_count : (n : ℕ) (xs : List A) (ts mid rest : List (Nested ℕ)) → Count n ts mid → Times n xs mid rest → Spell list_words d xs ts rest
    join_count n xs ts mid rest h k =
        let same : n ≡ length (map words xs) = sym k.0 ∙ sym (length-map xs words) in
        let one : Count (length (map words xs)) ts mid = subst (λ m. Count m ts mid) same h in
        (one.0 ∙ ap (λ l. nested d (large (length (map words xs)) ∷ []) ++ l) k.1.0 ∙ sym (nested_on d (large (length (map words xs)) ∷ []) (members xs) rest), (one.1.0, k.1.1))

    split_count : (xs : List A) (ts rest : List (Nested ℕ)) → Spell list_words d xs ts rest → ends (next (plain rest)) ≡ true → Parts Count Times ends xs ts rest
    split_count xs ts rest h e = record {
      value = length (map words xs);
      mid = nested d (members xs) ++ rest;
      first = (h.0 ∙ nested_on d (large (length (map words xs)) ∷ []) (members xs) rest, (h.1.0, tt));
      second = (sym (length-map xs words), (refl, h.1.1));
      ends = ends_before d (members xs) rest e;
    }

    pub good_list : Good limit (listed p) (Spell list_words d) ends
    unfolding listed
    good_list = good_then limit (number 18446744073709551615) (λ n. times n p) Count Times (Spell list_words d) ends ends (good_number 18446744073709551615 limit (lit< tt) d (lit≤ tt)) (λ n can. good_times n) join_count split_count
