-- Products that stop at a greatest value.
use Rattle.std.specs.Prelude.{ℕ, ◌≡◌, ◌*◌, ◌≤◌, ◌<◌, ◌+◌, min, List, [], ◌∷◌, map, take, length, get_or}
use Rattle.std.proofs.Common.{arith, zero, suc, add-one, inl, inr, ap, sym, ◌∙◌}
use Rattle.std.proofs.Math.Nat.{mul-le-mul_left, mul_comm, mul_assoc}
use Rattle.fof_terms.proofs.LiftingLaws.{below_or_above}
use Rattle.clause_form.specs.Sizes.{product}

-- a factor of at least 1 makes no product less
grows : (a b : ℕ) → 1 ≤ b → a ≤ a * b
grows a b h = omega (arith, mul-le-mul_left a h)

grows_left : (a b : ℕ) → 1 ≤ a → b ≤ a * b
grows_left a b h = let c = mul_comm a b in omega (arith, mul-le-mul_left b h, c)

-- where the second factor is no more than the greatest value
stopped_first : (a b m : ℕ) → min (min a m * b) m ≡ min (a * b) m
stopped_first a zero m = omega arith
stopped_first a (suc b) m =
    elim (below_or_above a m) [
      | inl h ↦ let e : min a m ≡ a = omega arith in rw e (omega arith)
      | inr h ↦
          let e : min a m ≡ m = omega arith in
          let one = grows m (suc b) (omega arith) in
          let two = grows a (suc b) (omega arith) in
          rw e (omega arith)
    ]

-- a product of stopped factors, stopped
pub stopped_product : (a b m : ℕ) → min (min a m * min b m) m ≡ min (a * b) m
stopped_product a b m =
    let c1 = mul_comm (min a m) (min b m) in
    let c2 = mul_comm b (min a m) in
    let f1 = stopped_first b (min a m) m in
    let f2 = stopped_first a b m in
    rw (c1, f1, c2) f2

-- the product of the first numbers and of one more
pub product_more : {X : Type 0} (f : X → ℕ) (xs : List X) (i : ℕ) (d : X) → i < length xs → product (map f (take (i + 1) xs)) ≡ product (map f (take i xs)) * f (get_or xs i d)
product_more f [] i d h = absurd (omega arith)
product_more f (x ∷ xs) zero d h = omega arith
product_more f (x ∷ xs) (suc i) d h =
    let rest : product (map f (take (i + 1) xs)) ≡ product (map f (take i xs)) * f (get_or xs i d) = product_more f xs i d (omega arith) in
    let rest' : product (map f (take (suc i) xs)) ≡ product (map f (take i xs)) * f (get_or xs i d) = rw add-one at rest in
    rw add-one (ap (λ n. f x * n) rest' ∙ sym (mul_assoc (f x) (product (map f (take i xs))) (f (get_or xs i d))))

pub count_more : {X : Type 0} (f : X → ℕ) (xs : List X) (i : ℕ) (x : X) (total n m made : ℕ) → i < length xs → x ≡ get_or xs i x → total ≡ min (product (map f (take i xs))) m → n ≡ min (f x) m → made ≡ min (total * n) m
    → made ≡ min (product (map f (take (i + 1) xs))) m
count_more f xs i x total n m made h is e1 e2 e3 =
    let more = product_more f xs i x h in
    let more' : product (map f (take (i + 1) xs)) ≡ product (map f (take i xs)) * f x = more ∙ ap (λ y. product (map f (take i xs)) * f y) (sym is) in
    e3 ∙ (rw (e1, e2, more') (stopped_product (product (map f (take i xs))) (f x) m))
