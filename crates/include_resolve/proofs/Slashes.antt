-- A name through its last `/`.
use Rattle.std.proofs.Common.{◌≡◌, ℕ, ◌+◌, ◌-◌, ◌<◌, ◌==◌, Bool, true, false, not, List, [], length, take, Some, None, get_or, refl, sym, ap, subst, arith}
use Rattle.std.specs.Prelude.{slice_range}
use Rattle.std.specs.List.{suffix_len}
use Rattle.std.specs.Str.{IsUtf8, IsCharBoundary}
use Rattle.std.proofs.lemmas.Bool.Decides.{nat_tests}
use Rattle.std.proofs.lemmas.Str.{IsCharBoundary-after_ascii}
use Rattle.std.proofs.lemmas.List.Sums.{suffix_len_is}
use Rattle.memchr.specs.Find.{IsLastByte, is_byte}
use Rattle.include_resolve.specs.Names.{is_no_slash, directory}

passes : (b : Bool) → (b ≡ true → ⊥) → not b ≡ true
passes true never = absurd (never refl)
passes false never = refl

pub directory-some : (name : List ℕ) (at : ℕ) → IsLastByte (is_byte 47) name (Some at) → take (at + 1) name ≡ directory name
directory-some name at last =
    let high : at < length name = last.0.high in
    let len = suffix_len_is is_no_slash name (at + 1) 0 (omega (arith, high)) (λ k low within. passes (get_or name k 0 == 47) (last.0.after k low within)) (λ some. let same : at + 1 - 1 ≡ at = omega arith in subst (λ i. not (get_or name i 0 == 47) ≡ false) (sym same) (ap not last.1)) in
    ap (λ n. take n name) (omega (arith, len, high))

pub directory-none : (name : List ℕ) → IsLastByte (is_byte 47) name None → ◌≡◌ {A = List ℕ} [] (directory name)
directory-none name last =
    let len = suffix_len_is is_no_slash name 0 0 (omega arith) (λ k low within. passes (get_or name k 0 == 47) (last k low within)) (λ some. absurd (omega (arith, some))) in
    let none : 0 ≡ length name - suffix_len is_no_slash name = omega (arith, len) in
    ap (λ n. take n name) none

-- a name may be cut behind a `/`
pub slash_boundary : (name : List ℕ) (at : ℕ) → IsUtf8 name → IsLastByte (is_byte 47) name (Some at) → IsCharBoundary name (at + 1)
slash_boundary name at text last =
    let high : at < length name = last.0.high in
    let slash : (get_or name at 0 == 47) ≡ true = last.1 in
    IsCharBoundary-after_ascii name at text high (grind (arith, nat_tests, slash))

pub front_is : (name : List ℕ) (end : ℕ) → slice_range name 0 end ≡ take end name
front_is name end = grind arith
