-- What the functions that read words compute.
use Rattle.std.specs.Prelude.{ℕ, zero, suc, ◌+◌, ◌*◌, ◌-◌, ◌==◌, ◌&&◌, nat_le, max, Bool, if◌then◌else◌, List, [], ◌∷◌}
use Rattle.std.specs.Prelude.{◌≡◌, length, drop, Option, Some, None, Ok, Err}
use Rattle.std.specs.Char.{is_ascii_digit}
use Rattle.first_fault.specs.code.Reading.{Unexpected, TooDeep, Reader, refuse, and_then, mapped, opened}

abbrev pub is_byte : ℕ → ℕ → Bool
is_byte mark b = b == mark

-- ---- numbers

-- the number with a digit behind it, where that stays small enough
abbrev pub with_digit : ℕ → ℕ → Option ℕ → Option ℕ
with_digit most n None = None
with_digit most n (Some b) = if is_ascii_digit b && nat_le (10 * n + (b - 48)) most then Some (10 * n + (b - 48)) else None

-- the digits that follow a number, as long as it stays small enough
abbrev pub more_digits : ℕ → ℕ → Reader ℕ ℕ
more_digits most n [] = Ok (n, [])
more_digits most n (b ∷ ts) = if is_ascii_digit b && nat_le (10 * n + (b - 48)) most then more_digits most (10 * n + (b - 48)) ts else Ok (n, b ∷ ts)

-- a zero alone, or digits of which the first is none
abbrev pub digits : ℕ → Reader ℕ ℕ
digits most [] = refuse []
digits most (b ∷ ts) = if b == 48 then Ok (0, ts) else if is_ascii_digit b then more_digits most (b - 48) ts else refuse (b ∷ ts)

unfoldable pub number : ℕ → Reader ℕ ℕ
number most = opened (is_byte 32) (digits most)

-- ---- names

-- how many bytes a text and a name begin with together
abbrev pub shared : List ℕ → List ℕ → ℕ
shared text [] = 0
shared [] (c ∷ name) = 0
shared (b ∷ text) (c ∷ name) = if b == c then suc (shared text name) else 0

abbrev pub begins : List ℕ → List ℕ → Bool
begins text name = shared text name == length name

-- the first that the text begins with
abbrev pub find : {W : Type 0} → (W → List ℕ) → List W → List ℕ → Option W
find spell [] text = None
find spell (w ∷ table) text = if begins text (spell w) then Some w else find spell table text

-- how far the text begins as one of them
abbrev pub reach : {W : Type 0} → (W → List ℕ) → List W → List ℕ → ℕ
reach spell [] text = 0
reach spell (w ∷ table) text = max (shared text (spell w)) (reach spell table text)

abbrev pub found_or : {W : Type 0} → (W → List ℕ) → ℕ → Option W → Reader ℕ W
found_or spell n None text = Err (Unexpected, drop n text)
found_or spell n (Some w) text = Ok (w, drop (length (spell w)) text)

-- one of the names
unfoldable pub name : {W : Type 0} → (W → List ℕ) → List W → Reader ℕ W
name spell table text = found_or spell (reach spell table text) (find spell table text) text

-- the first name that a text begins with is this one, and the rest stands behind it
abbrev pub BeginsAs : {W : Type 0} → (W → List ℕ) → List W → List ℕ → W → List ℕ → Type 0
BeginsAs spell table text w rest = (find spell table text ≡ Some w) × (rest ≡ drop (length (spell w)) text)

-- one of the names, where it is nested too deep
unfoldable pub deep_name : {W : Type 0} → (W → List ℕ) → List W → Reader ℕ W
deep_name spell table text = if reach spell table text == 0 then refuse text else Err (TooDeep, text)

-- ---- lists

abbrev pub times : {A : Type 0} → ℕ → Reader ℕ A → Reader ℕ (List A)
times zero p ts = Ok ([], ts)
times (suc n) p ts = and_then (p ts) (λ x rest. mapped (λ xs. x ∷ xs) (times n p rest))

-- how many members there are, and the members
unfoldable pub listed : {A : Type 0} → Reader ℕ A → Reader ℕ (List A)
listed p ts = and_then (number 18446744073709551615 ts) (λ n rest. times n p rest)

-- one part, and then another
abbrev pub both : {A B : Type 0} → Reader ℕ A → Reader ℕ B → Reader ℕ (A × B)
both p q ts = and_then (p ts) (λ x rest. mapped (λ y. (x, y)) (q rest))

-- a name with a blank before it
unfoldable pub head : {W : Type 0} → (W → List ℕ) → List W → Reader ℕ W
head spell table = opened (is_byte 32) (name spell table)

unfoldable pub deep_head : {W : Type 0} → (W → List ℕ) → List W → Reader ℕ W
deep_head spell table = opened (is_byte 32) (deep_name spell table)
