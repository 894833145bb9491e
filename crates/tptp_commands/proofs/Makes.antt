-- The texts that are made, line by line.
use Rattle.std.proofs.Common.{◌≡◌, ℕ, ◌+◌, List, ◌++◌, refl, add-one}
use Rattle.tptp_commands.specs.Made.{below}

-- ---- the texts

-- one more line
pub below_more : (text : ℕ → List ℕ) (n : ℕ) (lines more all : List ℕ) → lines ≡ below n text → more ≡ text n → all ≡ lines ++ more → all ≡ below (n + 1) text
below_more text n lines more all so_far line joined = rw (joined, so_far, line, add-one) refl
