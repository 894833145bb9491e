-- Lemmas on what numbers, terms and clauses are written as.
use Rattle.std.specs.Prelude.{ℕ, ◌-◌, ◌<◌, ◌≤◌, List, [], ◌∷◌, ◌++◌, ◌≡◌, map, refl}
use Rattle.std.specs.List.{concat}
use Rattle.std.proofs.Common.{ap, sym, ◌∙◌, append_assoc, arith, suc}
use Rattle.fof_terms.specs.declared.term.Term.{Term, Var, App}
use Rattle.fof_terms.proofs.Trees.{fold-Var, fold-App}
use Rattle.packed_clauses.specs.declared.piece.Kind.TheVariants.{Variable, Open, Close}
use Rattle.packed_clauses.specs.code.Spelling.{digits, digits_past, two_digits, five_digits, spelled_piece, spelled_step, spelled_term, spelled_terms}

pub spelled-Var : (k : ℕ) → spelled_term (Var k) ≡ spelled_piece Variable k
unfolding spelled_term
spelled-Var k = fold-Var (List ℕ) spelled_step k

each_spelled : (ts : List Term) → concat (map spelled_term ts) ≡ spelled_terms ts
each_spelled [] = refl
each_spelled (t ∷ ts) = ap (λ (xs : List ℕ). spelled_term t ++ xs) (each_spelled ts)

pub spelled-App : (f : ℕ) (ts : List Term) → spelled_term (App f ts) ≡ spelled_piece Open f ++ spelled_terms ts ++ spelled_piece Close 0
unfolding spelled_term
spelled-App f ts =
    fold-App (List ℕ) spelled_step f ts
    ∙ ap (λ (xs : List ℕ). spelled_piece Open f ++ xs ++ spelled_piece Close 0) (each_spelled ts)

pub ruleset spelled_equations = (spelled-Var, spelled-App)

pub one_digit : (n : ℕ) → n < 128 → digits n ≡ n ∷ []
unfolding digits
one_digit n h = let none : n - 127 ≡ 0 = omega arith in ap (λ k. digits_past n k (n - 16383)) none

pub are_two_digits : (n : ℕ) → 128 ≤ n → n < 16384 → digits n ≡ two_digits n
unfolding digits
are_two_digits n h g =
    let some : n - 127 ≡ suc (n - 128) = omega arith in
    let none : n - 16383 ≡ 0 = omega arith in
    ap (λ k. digits_past n k (n - 16383)) some ∙ ap (digits_past n (suc (n - 128))) none

pub are_five_digits : (n : ℕ) → 16384 ≤ n → digits n ≡ five_digits n
unfolding digits
are_five_digits n h =
    let some : n - 127 ≡ suc (n - 128) = omega arith in
    let more : n - 16383 ≡ suc (n - 16384) = omega arith in
    ap (λ k. digits_past n k (n - 16383)) some ∙ ap (digits_past n (suc (n - 128))) more

-- a term is written by its parts
pub app_written : (t : Term) (f : ℕ) (ts us : List Term) (old mid more new : List ℕ) → t ≡ App f ts → us ≡ ts → mid ≡ old ++ spelled_piece Open f → more ≡ mid ++ spelled_terms us → new ≡ more ++ spelled_piece Close 0
    → new ≡ old ++ spelled_term t
app_written t f ts us old mid more new is same a b c =
    c
    ∙ ap (λ (xs : List ℕ). xs ++ spelled_piece Close 0) (b ∙ ap (λ (vs : List Term). mid ++ spelled_terms vs) same ∙ ap (λ (xs : List ℕ). xs ++ spelled_terms ts) a ∙ append_assoc old (spelled_piece Open f) (spelled_terms ts))
    ∙ append_assoc old (spelled_piece Open f ++ spelled_terms ts) (spelled_piece Close 0)
    ∙ ap (λ (xs : List ℕ). old ++ xs) (sym (ap spelled_term is ∙ spelled-App f ts))
