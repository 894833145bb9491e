-- What trails weigh.
use Rattle.std.proofs.Common.{◌≡◌, ℕ, zero, suc, ◌+◌, ◌-◌, ◌*◌, ◌^◌, ◌<◌, ◌≤◌, List, [], ◌∷◌, length, reverse, Option, Some, None, ap, ◌∙◌, arith, pow-suc}
use Rattle.clause_learning.specs.declared.trail.Step.{Step}
use Rattle.clause_learning.specs.declared.trail.Trail.{Trail}
use Rattle.clause_learning.specs.code.Weights.{digit, weight, ceiling}

-- what every trail that begins with the steps of this one weighs less than
abbrev pub ceiling_of : Trail → ℕ
ceiling_of t = ceiling (length t.values) (reverse t.steps)

pub positive : (k : ℕ) → 0 < 3 ^ k
positive zero = omega arith
positive (suc k) = let rest = positive k in let e : 3 ^ suc k ≡ 3 ^ k * 3 = pow-suc 3 k in omega (arith, rest, e)

digit_least : (r : Option ℕ) → 1 ≤ digit r
digit_least None = omega arith
digit_least (Some r) = omega arith

digit_most : (r : Option ℕ) → digit r ≤ 2
digit_most None = omega arith
digit_most (Some r) = omega arith

three_times : (atoms n : ℕ) → n < atoms → 3 ^ (atoms - n) ≡ 3 ^ (atoms - suc n) * 3
three_times atoms n lt = let e : atoms - n ≡ suc (atoms - suc n) = omega arith in ap (λ k. 3 ^ k) e ∙ pow-suc 3 (atoms - suc n)

at_most : (d p : ℕ) → d ≤ 2 → d * p ≤ 2 * p
at_most d p h = grind arith

at_least : (d p : ℕ) → 1 ≤ d → p ≤ d * p
at_least d p h = grind arith

pub ceiling_popped : (atoms : ℕ) (s : Step) (older : List Step) → length older < atoms → ceiling atoms (s ∷ older) ≤ ceiling atoms older
ceiling_popped atoms s older lt =
    let three = three_times atoms (length older) lt in
    let most = at_most (digit s.reason) (3 ^ (atoms - suc (length older))) (digit_most s.reason) in
    omega (arith, three, most)

-- a step that was taken freely, at its ceiling
pub ceiling_free : (atoms : ℕ) (s : Step) (older : List Step) → s.reason ≡ None → ceiling atoms (s ∷ older) ≡ weight atoms older + 2 * 3 ^ (atoms - suc (length older))
ceiling_free atoms s older free =
    let d : digit s.reason ≡ 1 = ap digit free in
    let one : digit s.reason * 3 ^ (atoms - suc (length older)) ≡ 1 * 3 ^ (atoms - suc (length older)) = ap (λ n. n * 3 ^ (atoms - suc (length older))) d in
    omega (arith, one)

pub weight_below : (atoms : ℕ) (steps : List Step) → weight atoms steps < ceiling atoms steps
weight_below atoms steps = omega (arith, positive (atoms - length steps))

pub weight_more : (atoms : ℕ) (s : Step) (older : List Step) → weight atoms older < weight atoms (s ∷ older)
weight_more atoms s older =
    let p = positive (atoms - suc (length older)) in
    let least = at_least (digit s.reason) (3 ^ (atoms - suc (length older))) (digit_least s.reason) in
    omega (arith, p, least)

pub ceiling_most : (atoms : ℕ) (steps : List Step) → length steps ≤ atoms → ceiling atoms steps ≤ 3 ^ atoms
ceiling_most atoms [] h =
    let e : atoms - length {A = Step} [] ≡ atoms = omega arith in
    let p : 3 ^ (atoms - length {A = Step} []) ≡ 3 ^ atoms = ap (λ (k : ℕ). 3 ^ k) e in
    omega (arith, p)
ceiling_most atoms (s ∷ older) h =
    let lt : length older < atoms = omega arith in
    let here = ceiling_popped atoms s older lt in
    let rest = ceiling_most atoms older (omega arith) in
    omega (arith, here, rest)
