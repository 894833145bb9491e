-- The names of lines are told apart by their first letter and the number behind it.
use Rattle.std.specs.Prelude.{ℕ, ◌≡◌, ◌<◌, ◌^◌, [], ◌∷◌, codes, decimal, refl}
use Rattle.std.proofs.Common.{arith}
use Rattle.std.proofs.lemmas.Fmt.{decimal_injective}
use Rattle.derivation_items.specs.Words.{Text}
use Rattle.refutation_lines.specs.Names.{given_name, skolem_name, clause_name}
use Rattle.derivation_order.specs.Links.{IsOfLine}

-- names that begin otherwise
pub other_letter : (a b : ℕ) (s t : Text) → (a ≡ b → ⊥) → a ∷ s ≡ b ∷ t → ⊥
other_letter a b s t apart e = apart cc

-- names that begin alike have the same numbers
pub same_number : (a m n : ℕ) → m < 2 ^ 64 → n < 2 ^ 64 → a ∷ decimal m ≡ a ∷ decimal n → m ≡ n
same_number a m n lm ln e = decimal_injective m n lm ln cc

pub given_own : (k : ℕ) → IsOfLine (given_name k)
given_own k = record { no_type = λ j e. other_letter 102 121 (decimal k) (decimal j) (λ f. omega arith) e; known = refl }

pub skolem_own : (k : ℕ) → IsOfLine (skolem_name k)
skolem_own k = record { no_type = λ j e. other_letter 115 121 (decimal k) (decimal j) (λ f. omega arith) e; known = refl }

pub clause_own : (k : ℕ) → IsOfLine (clause_name k)
clause_own k = record { no_type = λ j e. other_letter 99 121 (decimal k) (decimal j) (λ f. omega arith) e; known = refl }

pub last_own : IsOfLine (codes "e")
last_own = record { no_type = λ j e. other_letter 101 121 [] (decimal j) (λ f. omega arith) e; known = refl }
