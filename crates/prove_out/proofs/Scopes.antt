-- The variable of a binder is found by its number.
use Rattle.std.proofs.Common.{◌≡◌, ℕ, zero, suc, ◌+◌, ◌-◌, ◌<◌, ◌^◌, Bool, true, false, cond, List, [], ◌∷◌, ◌++◌, length, drop, slice_get, Option, Some, None, refl, ◌∙◌, ap, arith, length-append}
use Rattle.std.specs.Option.{option_map}
use Rattle.std.specs.Str.{bytes_eq}
use Rattle.std.proofs.lemmas.Fmt.{decimal_injective}
use Rattle.std.proofs.lemmas.Option.{slice_get_within}
use Rattle.std.proofs.lemmas.Slice.Eq.{bytes_eq-Decides}
use Rattle.sort_check.specs.declared.scope.Variable.{Variable}
use Rattle.sort_check.specs.Symbols.{Text}
use Rattle.sort_check.specs.Denotation.{nearest, or_else}
use Rattle.prove_out.specs.Variables.{variable_name}
use Rattle.prove_out.specs.code.Written.{named_variables}

-- ---- names

pub same_name : (k : ℕ) → bytes_eq (variable_name k) (variable_name k) ≡ true
same_name k = (bytes_eq-Decides (variable_name k) (variable_name k)).1 refl

one_number : (i j : ℕ) → i < 2 ^ 64 → j < 2 ^ 64 → variable_name i ≡ variable_name j → i ≡ j
one_number i j few less e = decimal_injective i j few less (ap (drop 1) e)

other_name : (i j : ℕ) → j < i → i < 2 ^ 64 → bytes_eq (variable_name i) (variable_name j) ≡ false
other_name i j lt few = by (bytes_eq (variable_name i) (variable_name j)) refl
  where
    by : (b : Bool) → bytes_eq (variable_name i) (variable_name j) ≡ b → b ≡ false
    by false e = refl
    by true e =
        let same : i ≡ j = one_number i j few (omega arith) ((bytes_eq-Decides (variable_name i) (variable_name j)).0 e) in
        absurd (omega (arith, same, lt))

-- ---- one more variable within the others

abbrev last_or : Bool → ℕ → Option (ℕ × ℕ) → Option (ℕ × ℕ)
last_or true sort found = Some (0, sort)
last_or false sort found = option_map (λ (p : ℕ × ℕ). (p.0 + 1, p.1)) found

nearest_last : (xs : List Variable) (y : Variable) (name : Text) → nearest (xs ++ y ∷ []) name ≡ last_or (bytes_eq y.name name) y.sort (nearest xs name)
nearest_last [] y name = by (bytes_eq y.name name)
  where
    by : (b : Bool) → ◌≡◌ {A = Option (ℕ × ℕ)} (cond b (Some (0, y.sort)) None) (last_or b y.sort None)
    by true = refl
    by false = refl
nearest_last (x ∷ xs) y name =
    ap (λ o. or_else o (own (length (xs ++ y ∷ [])) (bytes_eq x.name name))) (nearest_last xs y name) ∙ by (bytes_eq y.name name) (nearest xs name) (bytes_eq x.name name)
  where
    own : ℕ → Bool → Option (ℕ × ℕ)
    own n b = cond b (Some (n, x.sort)) None

    more : length (xs ++ y ∷ []) ≡ length xs + 1
    more = omega (arith, length-append xs (y ∷ []))

    by : (b : Bool) (o : Option (ℕ × ℕ)) (c : Bool) → or_else (last_or b y.sort o) (cond c (Some (length (xs ++ y ∷ []), x.sort)) None) ≡ last_or b y.sort (or_else o (cond c (Some (length xs, x.sort)) None))
    by true o c = refl
    by false (Some p) c = refl
    by false None true = ap (λ n. Some (n, x.sort)) more
    by false None false = refl

-- the variable that lies k binders away
pub nearest_named : (sorts : List ℕ) (k sort : ℕ) → length sorts < 2 ^ 64 → slice_get sorts k ≡ Some sort → nearest (named_variables sorts) (variable_name (length sorts - k - 1)) ≡ Some (k, sort)
nearest_named [] k sort few at = absurd (cc)
nearest_named (s ∷ outer) zero sort few at =
    let number : suc (length outer) - 0 - 1 ≡ length outer = omega arith in
    let y : Variable = record { name = variable_name (length outer); sort = s } in
    let same : s ≡ sort = cc in
    ap (λ n. nearest (named_variables (s ∷ outer)) (variable_name n)) number
    ∙ nearest_last (named_variables outer) y (variable_name (length outer))
    ∙ ap (λ b. last_or b s (nearest (named_variables outer) (variable_name (length outer)))) (same_name (length outer))
    ∙ ap (λ (n : ℕ). Some (0, n)) same
nearest_named (s ∷ outer) (suc k) sort few at =
    let number : suc (length outer) - suc k - 1 ≡ length outer - k - 1 = omega arith in
    let name = variable_name (length outer - k - 1) in
    let y : Variable = record { name = variable_name (length outer); sort = s } in
    let lt : k < length outer = slice_get_within outer k sort at in
    let below : length outer - k - 1 < length outer = omega (arith, lt) in
    let less : length outer < 2 ^ 64 = omega (arith, few) in
    let next : k + 1 ≡ suc k = omega arith in
    ap (λ n. nearest (named_variables (s ∷ outer)) (variable_name n)) number
    ∙ nearest_last (named_variables outer) y name
    ∙ ap (λ b. last_or b s (nearest (named_variables outer) name)) (other_name (length outer) (length outer - k - 1) below less)
    ∙ ap (option_map (λ (p : ℕ × ℕ). (p.0 + 1, p.1))) (nearest_named outer k sort less at)
    ∙ ap (λ (n : ℕ). Some (n, sort)) next
