-- Lemmas on what specs/code/Looks defines.
use Rattle.std.proofs.Common.{◌≡◌, ℕ, zero, suc, ◌+◌, ◌*◌, ◌/◌, ◌%◌, ◌^◌, ◌<◌, ◌≤◌, nat_lt, if◌then◌else◌, List, ◌∷◌, get_or, min, max, bit_and, bit_or, w64, refl, sym, ◌∙◌, ap, subst, arith, ⊎_elim}
use Rattle.std.specs.Int.{bit_at}
use Rattle.std.proofs.lemmas.Bool.{cases_Bool, cases_lt, lt-ltb, ltb-true}
use Rattle.std.proofs.lemmas.Nat.Bits.{bit_at-suc, bit_at_and, bit_at_or, bit_at-lt, bit_at_set_same}
use Rattle.fi_model.specs.declared.looked.Looked.{Looked}
use Rattle.fi_model.specs.code.Looks.{bit_of, Sees, Agree}

near : (d : ℕ) → d < 63 → bit_of d ≡ d
near d lt = ap (λ b. if b then d else 63) (lt-ltb d 63 lt)

far : (d : ℕ) → 63 ≤ d → bit_of d ≡ 63
far d le =
    ⊎_elim
    (λ y. let lt = ltb-true d 63 y in absurd (omega (arith, lt, le)))
    (λ f. ap (λ b. if b then d else 63) f)
    (cases_Bool (nat_lt d 63))

near_next : (d : ℕ) → d < 63 → bit_of (d + 1) ≡ d + 1
near_next d lt = ⊎_elim (λ l. near (d + 1) l) (λ m. far (d + 1) m ∙ omega (arith, lt, m)) (cases_lt (d + 1) 63)

pub near_set : (d : ℕ) → d < 63 → bit_at (1 * 2 ^ d % 18446744073709551616) (bit_of d) ≡ 1
near_set d lt = ap (bit_at (1 * 2 ^ d % 18446744073709551616)) (near d lt) ∙ bit_at_set_same w64 0 d (omega (arith, lt))

max_first : (x y : ℕ) → x ≡ 1 → y < 2 → max x y ≡ 1
max_first x y e lt = omega (arith, e, lt)

max_second : (x y : ℕ) → y ≡ 1 → x < 2 → max x y ≡ 1
max_second x y e lt = omega (arith, e, lt)

min_both : (x y : ℕ) → x ≡ 1 → y ≡ 1 → min x y ≡ 1
min_both x y e f = omega (arith, e, f)

pub these : (a b k : ℕ) → bit_at a k ≡ 1 → bit_at (bit_or a b) k ≡ 1
these a b k h = bit_at_or a b k ∙ max_first (bit_at a k) (bit_at b k) h (bit_at-lt b k)

pub others : (a b k : ℕ) → bit_at b k ≡ 1 → bit_at (bit_or a b) k ≡ 1
others a b k h = bit_at_or a b k ∙ max_second (bit_at a k) (bit_at b k) h (bit_at-lt a k)

pub outside : (bits d : ℕ) → bit_at bits (bit_of (d + 1)) ≡ 1 → bit_at (bit_or (bits / 2) (bit_and bits 9223372036854775808)) (bit_of d) ≡ 1
outside bits d h =
    ⊎_elim
    (λ l. ap (bit_at (bit_or (bits / 2) (bit_and bits 9223372036854775808))) (near d l) ∙ these (bits / 2) (bit_and bits 9223372036854775808) d (nearer l))
    (λ m. ap (bit_at (bit_or (bits / 2) (bit_and bits 9223372036854775808))) (far d m) ∙ others (bits / 2) (bit_and bits 9223372036854775808) 63 (farther m))
    (cases_lt d 63)
  where
    nearer : d < 63 → bit_at (bits / 2) d ≡ 1
    nearer l = let one : suc d ≡ d + 1 = omega arith in sym (bit_at-suc bits d) ∙ ap (bit_at bits) (one ∙ sym (near_next d l)) ∙ h

    farther : 63 ≤ d → bit_at (bit_and bits 9223372036854775808) 63 ≡ 1
    farther m = bit_at_and bits 9223372036854775808 63 ∙ min_both (bit_at bits 63) (bit_at 9223372036854775808 63) (ap (bit_at bits) (sym (far (d + 1) (omega (arith, m)))) ∙ h) refl

module _ (l o : Looked) (here there : List ℕ) (out : (d : ℕ) → Sees l (d + 1) → Sees o d) (agree : Agree o here there) where
  behind : (d : ℕ) → Sees l (suc d) → get_or here d 0 ≡ get_or there d 0
  behind d s = let one : suc d ≡ d + 1 = omega arith in agree d (out d (subst (Sees l) one s))

  -- outside of a binder
  pub agree_under : (x : ℕ) → Agree l (x ∷ here) (x ∷ there)
  agree_under x zero s = refl
  agree_under x (suc d) s = behind d s

  -- where its variable was not looked at
  pub agree_without : (x y : ℕ) → (Sees l 0 → ⊥) → Agree l (x ∷ here) (y ∷ there)
  agree_without x y none zero s = absurd (none s)
  agree_without x y none (suc d) s = behind d s
