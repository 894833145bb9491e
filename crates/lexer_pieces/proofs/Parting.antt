-- Lists that are joined in two ways.
use Rattle.std.specs.Prelude.{ℕ, ◌≡◌, ◌≤◌, Bool, true, [], ◌∷◌, ◌++◌, length, refl}
use Rattle.std.specs.List.{list_all}
use Rattle.std.proofs.Common.{ap, sym, ◌∙◌, arith, length-append, ◌⊎◌, inl, inr}
use Rattle.std.proofs.lemmas.Bool.{and_parts}
use Rattle.std.proofs.lemmas.List.Folds.{list_all-append}
use Rattle.tptp_lexer.specs.Bytes.{Text}

-- Where two lists joined are two others joined, the first of the one pair is no longer than that of the other.
abbrev pub IsParted : Text → Text → Text → Text → Type 0
IsParted xs ys zs ws = ((later : Text) × (zs ≡ xs ++ later) × (ys ≡ later ++ ws)) ⊎ ((left : Text) × (xs ≡ zs ++ left) × (1 ≤ length left) × (ws ≡ left ++ ys))

pub parted : (xs ys zs ws : Text) → xs ++ ys ≡ zs ++ ws → IsParted xs ys zs ws
parted [] ys zs ws same = inl (zs, refl, same)
parted (x ∷ xs) ys [] ws same = inr (x ∷ xs, refl, omega arith, sym same)
parted (x ∷ xs) ys (z ∷ zs) ws same = on (parted xs ys zs ws tails)
  where
    tails : xs ++ ys ≡ zs ++ ws
    tails = cc

    heads : x ≡ z
    heads = cc

    on : IsParted xs ys zs ws → IsParted (x ∷ xs) ys (z ∷ zs) ws
    on (inl (later, front, behind)) = inl (later, cc, behind)
    on (inr (left, front, some, behind)) = inr (left, cc, some, behind)

-- what is joined to be empty is empty
pub empty_parts : (xs ys : Text) → xs ++ ys ≡ [] → (xs ≡ []) × (ys ≡ [])
empty_parts [] ys same = (refl, same)
empty_parts (x ∷ xs) ys same = absurd (cc)

-- without the last element
pub without_last : (xs more ys : Text) (last : ℕ) → xs ++ more ≡ ys ++ last ∷ [] → 1 ≤ length more → (fewer : Text) × (xs ++ fewer ≡ ys)
without_last [] more ys last same some = (ys, refl)
without_last (x ∷ xs) more [] last same some = absurd (omega (arith, some, length-append xs more, ap length same))
without_last (x ∷ xs) more (y ∷ ys) last same some =
    let tails : xs ++ more ≡ ys ++ last ∷ [] = cc in
    let heads : x ≡ y = cc in
    let (fewer, is) = without_last xs more ys last tails some in
    (fewer, cc)

pub all_front : (p : ℕ → Bool) (xs ys : Text) → list_all p (xs ++ ys) ≡ true → list_all p xs ≡ true
all_front p xs ys all = (and_parts (list_all p xs) (list_all p ys) (sym (list_all-append p xs ys) ∙ all)).0

-- a list of so many elements that joins with another one to these
pub one_at_front : (a : ℕ) (text more : Text) → a ∷ [] ≡ text ++ more → 1 ≤ length text → text ≡ a ∷ []
one_at_front a [] more same some = absurd (omega arith)
one_at_front a (x ∷ xs) more same some =
    let tails : [] ≡ xs ++ more = cc in
    let none = (empty_parts xs more (sym tails)).0 in
    cc

pub two_at_front : (a b : ℕ) (text more : Text) → a ∷ b ∷ [] ≡ text ++ more → 1 ≤ length text → (text ≡ a ∷ []) ⊎ (text ≡ a ∷ b ∷ [])
two_at_front a b [] more same some = absurd (omega arith)
two_at_front a b (x ∷ []) more same some = inl (cc)
two_at_front a b (x ∷ y ∷ ys) more same some =
    let tails : b ∷ [] ≡ (y ∷ ys) ++ more = cc in
    let rest = one_at_front b (y ∷ ys) more tails (omega arith) in
    inr (cc)

pub three_at_front : (a b c : ℕ) (text more : Text) → a ∷ b ∷ c ∷ [] ≡ text ++ more → 1 ≤ length text → (text ≡ a ∷ []) ⊎ ((text ≡ a ∷ b ∷ []) ⊎ (text ≡ a ∷ b ∷ c ∷ []))
three_at_front a b c [] more same some = absurd (omega arith)
three_at_front a b c (x ∷ []) more same some = inl (cc)
three_at_front a b c (x ∷ y ∷ ys) more same some = on (two_at_front b c (y ∷ ys) more tails (omega arith))
  where
    tails : b ∷ c ∷ [] ≡ (y ∷ ys) ++ more
    tails = cc

    heads : a ≡ x
    heads = cc

    on : ((y ∷ ys) ≡ b ∷ []) ⊎ ((y ∷ ys) ≡ b ∷ c ∷ []) → (x ∷ y ∷ ys ≡ a ∷ []) ⊎ ((x ∷ y ∷ ys ≡ a ∷ b ∷ []) ⊎ (x ∷ y ∷ ys ≡ a ∷ b ∷ c ∷ []))
    on (inl e) = inr (inl (cc))
    on (inr e) = inr (inr (cc))
