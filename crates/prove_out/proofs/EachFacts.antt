-- Lists whose members are written one after the other.
use Rattle.std.proofs.Common.{◌≡◌, ℕ, ◌+◌, ◌<◌, ◌≤◌, List, [], ◌∷◌, ◌++◌, length, take, get_or, suc, refl, sym, ap, subst}
use Rattle.std.proofs.lemmas.List.{take_more, take_all}
use Rattle.prove_out.specs.code.Written.{EachWritten}

each_more : {X Y : Type 0} (R : X → Y → Type 0) (xs : List X) (ys : List Y) (x : X) (y : Y) → EachWritten R xs ys → R x y → EachWritten R (xs ++ x ∷ []) (ys ++ y ∷ [])
each_more R [] [] x y e r = (r, tt)
each_more R [] (z ∷ ys) x y e r = absurd e
each_more R (w ∷ xs) [] x y e r = absurd e
each_more R (w ∷ xs) (z ∷ ys) x y e r = (e.0, each_more R xs ys x y e.1 r)

-- the first members, and one more
pub each_next : {X Y : Type 0} (R : X → Y → Type 0) (xs : List X) (i : ℕ) (x : X) (ys zs : List Y) (y : Y) → i < length xs → x ≡ get_or xs i x → EachWritten R (take i xs) ys → R x y → zs ≡ ys ++ y ∷ [] → EachWritten R (take (i + 1) xs) zs
each_next {X = X} {Y = Y} R xs i x ys zs y lt is e r more =
    let first : take (i + 1) xs ≡ take i xs ++ x ∷ [] = rw (take_more xs i x lt) (ap (λ (z : X). take i xs ++ z ∷ []) (sym is)) in
    subst (λ (l : List X). EachWritten R l zs) (sym first) (subst (λ (l : List Y). EachWritten R (take i xs ++ x ∷ []) l) (sym more) (each_more R (take i xs) ys x y e r))

-- all members
pub each_all : {X Y : Type 0} (R : X → Y → Type 0) (n : ℕ) (xs : List X) (ys : List Y) → length xs ≤ n → EachWritten R (take n xs) ys → EachWritten R xs ys
each_all {X = X} R n xs ys le e = subst (λ (l : List X). EachWritten R l ys) (take_all n xs le) e

pub each_length : {X Y : Type 0} (R : X → Y → Type 0) (xs : List X) (ys : List Y) → EachWritten R xs ys → length ys ≡ length xs
each_length R [] [] e = refl
each_length R [] (y ∷ ys) e = absurd e
each_length R (x ∷ xs) [] e = absurd e
each_length R (x ∷ xs) (y ∷ ys) e = ap suc (each_length R xs ys e.1)
