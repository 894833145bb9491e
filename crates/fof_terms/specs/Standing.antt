-- Lists of symbols that gain what stands in a term or a formula.
use Rattle.std.specs.Prelude.{ℕ, ◌≡◌, ◌==◌, ◌||◌, ◌++◌, Bool, true, List}
use Rattle.std.specs.List.{All, list_any}

-- the symbol is in the list
abbrev pub is_listed : List ℕ → ℕ → Bool
is_listed symbols symbol = list_any (λ s. s == symbol) symbols

-- the second list has the symbols of the first and those that pass the test, and no others
pub record GainsOnly (old : List ℕ) (stands : ℕ → Bool) (new : List ℕ) : Type 0 where
  pub gained : (symbol : ℕ) → is_listed new symbol ≡ (is_listed old symbol || stands symbol)

-- the second list is the first, and then symbols that pass the test
pub record AppendsOnly (old : List ℕ) (stands : ℕ → Bool) (new : List ℕ) : Type 0 where
  pub added : List ℕ
  pub appended : new ≡ old ++ added
  pub standing : All (λ symbol. stands symbol ≡ true) added
