-- Literals, their opposites and their codes.
use Rattle.std.proofs.Common.{ℕ, ◌≡◌, ◌++◌, ◌∷◌, [], ◌⊎◌, Bool, true, false, not, if◌then◌else◌, List, refl, sym, ap, ◌∙◌, arith, inl, inr}
use Rattle.std.proofs.Common.{nat_eq}
use Rattle.std.proofs.lemmas.Bool.{false≢true}
use Rattle.std.specs.Cmp.Lexicographic.{pointwise, bytes_decides}
use Rattle.clause_form.specs.declared.clause.AtomOf.{AtomOf}
use Rattle.clause_form.specs.declared.clause.Lit.{Lit}
use Rattle.sat_step.specs.Decisions.{opposite}
use Rattle.sat_step.specs.Codes.{code_of}
use Rattle.sat_step.proofs.Codes.{atom_same}
use Rattle.chain_proofs.specs.Known.{lit_code}

pub decided : (b : Bool) → (b ≡ true) ⊎ (b ≡ false)
decided true = inl refl
decided false = inr refl

not_twice : (b : Bool) → not (not b) ≡ b
not_twice true = refl
not_twice false = refl

pub opposite_twice : (l : Lit) → opposite (opposite l) ≡ l
opposite_twice l = ap (λ (s : Bool). record { positive = s; atom = l.atom }) (not_twice l.positive)

ends_same : (xs ys : List ℕ) (a b : ℕ) → xs ++ a ∷ [] ≡ ys ++ b ∷ [] → (xs ≡ ys) × (a ≡ b)
ends_same [] [] a b e = (refl, cc)
ends_same [] (y ∷ []) a b e = absurd (let never : [] ≡ b ∷ [] = cc in cc)
ends_same [] (y ∷ z ∷ ys) a b e = absurd (let never : [] ≡ z ∷ (ys ++ b ∷ []) = cc in cc)
ends_same (x ∷ []) [] a b e = absurd (let never : a ∷ [] ≡ [] = cc in cc)
ends_same (x ∷ z ∷ xs) [] a b e = absurd (let never : z ∷ (xs ++ a ∷ []) ≡ [] = cc in cc)
ends_same (x ∷ xs) (y ∷ ys) a b e =
    let first : x ≡ y = cc in
    let rest : xs ++ a ∷ [] ≡ ys ++ b ∷ [] = cc in
    let more = ends_same xs ys a b rest in
    (ap (λ (z : ℕ). z ∷ xs) first ∙ ap (λ (zs : List ℕ). y ∷ zs) more.0, more.1)

abbrev sign : Bool → ℕ
sign s = if s then 1 else 0

sign_same : (s r : Bool) → sign s ≡ sign r → s ≡ r
sign_same true true e = refl
sign_same true false e = absurd (omega (arith, e))
sign_same false true e = absurd (omega (arith, e))
sign_same false false e = refl

-- literals of one code are the same
pub code_tells : (x y : Lit) → lit_code x ≡ lit_code y → x ≡ y
code_tells x y e =
    let both = ends_same (code_of x.atom) (code_of y.atom) (sign x.positive) (sign y.positive) e in
    let signs : x.positive ≡ y.positive = sign_same x.positive y.positive both.1 in
    let atoms : x.atom ≡ y.atom = atom_same x.atom y.atom both.0 in
    ap (λ (s : Bool). record { positive = s; atom = x.atom }) signs ∙ ap (λ (a : AtomOf). record { positive = y.positive; atom = a }) atoms

pub is_same : (x y : Lit) → (x ≡ y) ⊎ (x ≡ y → ⊥)
is_same x y =
    elim (decided (pointwise nat_eq (lit_code x) (lit_code y))) [
      | inl e ↦ inl (code_tells x y ((bytes_decides (lit_code x) (lit_code y)).0 e))
      | inr e ↦ inr (λ is. false≢true (sym e ∙ (bytes_decides (lit_code x) (lit_code y)).1 (ap lit_code is)))
    ]
