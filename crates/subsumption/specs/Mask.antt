-- Masks of clauses: a bit for the sign and the head of each literal. They are no part of any standard.
use Rattle.std.specs.Prelude.{ℕ, ◌≡◌, ◌+◌, ◌*◌, ◌%◌, ◌^◌, Bool, true, false, List, [], ◌∷◌}
use Rattle.std.specs.Int.RustNames.{bit_or}
use Rattle.clause_form.specs.declared.clause.AtomOf.{AtomOf}
use Rattle.clause_form.specs.declared.clause.AtomOf.TheVariants.{Pred, Eq, True, False}
use Rattle.clause_form.specs.declared.clause.Lit.{Lit}

-- a number for the head of an atom: its predicate, or what else it is
abbrev pub head_number : AtomOf → ℕ
head_number True = 0
head_number False = 1
head_number (Eq s t) = 2
head_number (Pred p ts) = p + 3

abbrev pub sign_number : Bool → ℕ
sign_number true = 1
sign_number false = 0

-- the bit of a literal, among 64
abbrev pub lit_bit : Lit → ℕ
lit_bit l = 2 ^ ((head_number l.atom * 2 + sign_number l.positive) % 64)

-- the bits of the literals
unfoldable pub mask : List Lit → ℕ
mask [] = 0
mask (l ∷ lits) = bit_or (lit_bit l) (mask lits)

-- the second mask has each bit of the first
abbrev pub IsWithin : ℕ → ℕ → Type 0
IsWithin m n = bit_or m n ≡ n
