-- Proofs that are added where they are there, with the numbers of their formulas.
use Rattle.std.specs.Prelude.{ℕ, ◌≡◌, ◌+◌, List, [], ◌∷◌, ◌++◌, length, reverse, Option, Some, None, refl}
use Rattle.std.proofs.Common.{sym, ap, ◌∙◌, arith, append_assoc, append-nil}
use Rattle.std.proofs.lemmas.List.{reverse-append, reverse-reverse, length-append}
use Rattle.kernel.specs.declared.proof.Proof.{Proof}
use Rattle.search_proofs.specs.Placed.{there, numbers_from}

-- what is done so far, and what is left, the last one first
pub record IsPlacing (start : ℕ) (made : List (Option Proof)) (old now : List Proof) (numbers : List ℕ) (left : List (Option Proof)) : Type 0 where
  pub numbers_are : numbers ++ numbers_from (start + length now) (reverse left) ≡ numbers_from (start + length old) made
  pub proofs_are : now ++ there (reverse left) ≡ old ++ there made

pub placing_start : (start : ℕ) (made : List (Option Proof)) (old : List Proof) (numbers : List ℕ) (left : List (Option Proof)) → left ≡ reverse made → numbers ≡ [] → IsPlacing start made old old numbers left
placing_start start made old numbers left e none =
    let back : reverse left ≡ made = ap (λ (xs : List (Option Proof)). reverse xs) e ∙ reverse-reverse made in
    record {
      numbers_are = ap (λ (ns : List ℕ). ns ++ numbers_from (start + length old) (reverse left)) none ∙ ap (numbers_from (start + length old)) back;
      proofs_are = ap (λ (xs : List (Option Proof)). old ++ there xs) back;
    }

there_more : (x : Option Proof) (rest : List (Option Proof)) → there (x ∷ rest) ≡ there (x ∷ []) ++ there rest
there_more None rest = refl
there_more (Some p) rest = refl

numbers_more : (n : ℕ) (x : Option Proof) (rest : List (Option Proof)) → numbers_from n (x ∷ rest) ≡ n ∷ numbers_from (n + length (there (x ∷ []))) rest
numbers_more n None rest = let same : n ≡ n + 0 = omega arith in ap (λ k. n ∷ numbers_from k rest) same
numbers_more n (Some p) rest = refl

pub placing_more : (start : ℕ) (made : List (Option Proof)) (old now next : List Proof) (numbers more : List ℕ) (left rest : List (Option Proof)) (x : Option Proof) (n : ℕ) → IsPlacing start made old now numbers left
    → left ≡ rest ++ x ∷ [] → n ≡ start + length now → more ≡ numbers ++ n ∷ [] → next ≡ now ++ there (x ∷ []) → IsPlacing start made old next more rest
placing_more start made old now next numbers more left rest x n h e number numbers_is proofs_is =
    let back : reverse left ≡ x ∷ reverse rest = ap (λ (xs : List (Option Proof)). reverse xs) e ∙ reverse-append rest (x ∷ []) in
    let own = there (x ∷ []) in
    let long : length next ≡ length now + length own = ap (λ (ps : List Proof). length ps) proofs_is ∙ length-append now own in
    let place : start + length next ≡ n + length own = omega arith in
    let tail : n ∷ numbers_from (start + length next) (reverse rest) ≡ numbers_from (start + length now) (reverse left) =
    ap (λ k. n ∷ numbers_from k (reverse rest)) place ∙ (sym (numbers_more n x (reverse rest)) ∙ (ap (λ k. numbers_from k (x ∷ reverse rest)) number ∙ ap (numbers_from (start + length now)) (sym back))) in
    record {
      numbers_are =
          ap (λ (ns : List ℕ). ns ++ numbers_from (start + length next) (reverse rest)) numbers_is
          ∙ (append_assoc numbers (n ∷ []) (numbers_from (start + length next) (reverse rest)) ∙ (ap (λ (ns : List ℕ). numbers ++ ns) tail ∙ h.numbers_are));
      proofs_are =
          ap (λ (ps : List Proof). ps ++ there (reverse rest)) proofs_is
          ∙ (append_assoc now own (there (reverse rest)) ∙ (ap (λ (ps : List Proof). now ++ ps) (sym (there_more x (reverse rest)) ∙ ap there (sym back)) ∙ h.proofs_are));
    }

pub placed_numbers : (start : ℕ) (made : List (Option Proof)) (old now : List Proof) (numbers : List ℕ) (left : List (Option Proof)) → IsPlacing start made old now numbers left → left ≡ [] → numbers ≡ numbers_from (start + length old) made
placed_numbers start made old now numbers left h e = sym (append-nil numbers) ∙ (ap (λ (xs : List (Option Proof)). numbers ++ numbers_from (start + length now) (reverse xs)) (sym e) ∙ h.numbers_are)

pub placed_proofs : (start : ℕ) (made : List (Option Proof)) (old now : List Proof) (numbers : List ℕ) (left : List (Option Proof)) → IsPlacing start made old now numbers left → left ≡ [] → now ≡ old ++ there made
placed_proofs start made old now numbers left h e = sym (append-nil now) ∙ (ap (λ (xs : List (Option Proof)). now ++ there (reverse xs)) (sym e) ∙ h.proofs_are)
