-- The innermost variable of a name, found from the inside out.
use Rattle.std.proofs.Common.{◌≡◌, ℕ, zero, suc, ◌+◌, ◌-◌, ◌<◌, ◌≤◌, Bool, true, false, List, [], ◌∷◌, length, drop, get_or, Option, Some, None, if◌then◌else◌, refl, sym, ◌∙◌, ap, arith, drop-cons, length-drop}
use Rattle.std.proofs.lemmas.List.{drop_all}
use Rattle.std.specs.Str.{bytes_eq}
use Rattle.sort_check.specs.declared.scope.Variable.{Variable}
use Rattle.sort_check.specs.Denotation.{nearest, or_else}

or_else_twice : {A : Type 0} (x y z : Option A) → or_else (or_else x y) z ≡ or_else x (or_else y z)
or_else_twice (Some x) y z = refl
or_else_twice None y z = refl

or_else_none : {A : Type 0} (x : Option A) → x ≡ or_else x None
or_else_none (Some x) = refl
or_else_none None = refl

-- what is found is found behind a place, or else in front of it
in_front : (i : ℕ) (xs : List Variable) (name : List ℕ) → (found : Option (ℕ × ℕ)) × (nearest xs name ≡ or_else (nearest (drop i xs) name) found)
in_front zero xs name = (None, or_else_none (nearest xs name))
in_front (suc i) [] name = (None, refl)
in_front (suc i) (x ∷ xs) name =
    let found = in_front i xs name in
    let own : Option (ℕ × ℕ) = if bytes_eq x.name name then Some (length xs, x.sort) else None in
    (or_else found.0 own, ap (λ o. or_else o own) found.1 ∙ or_else_twice (nearest (drop i xs) name) found.0 own)

-- the last so many variables have other names
pub record Passed (xs : List Variable) (name : List ℕ) (n : ℕ) : Type 0 where
  pub none : nearest (drop (length xs - n) xs) name ≡ None

pub passed_none : (xs : List Variable) (name : List ℕ) → Passed xs name 0
passed_none xs name = record { none = ap (λ (ys : List Variable). nearest ys name) (drop_all (length xs - 0) xs (omega arith)) }

pub passed_all : (xs : List Variable) (name : List ℕ) (n : ℕ) → length xs ≤ n → Passed xs name n → None ≡ nearest xs name
passed_all xs name n le passed =
    let e : length xs - n ≡ 0 = omega arith in
    sym (ap (λ k. nearest (drop k xs) name) (sym e) ∙ passed.none)

module _ (xs : List Variable) (name : List ℕ) (n i : ℕ) (x : Variable) (lt : n < length xs) (at : i ≡ length xs - 1 - n) (is : x ≡ get_or xs i x) (passed : Passed xs name n) where
  abbrev chosen : Bool → ℕ → Option (ℕ × ℕ)
  chosen b k = if b then Some (k, x.sort) else None

  abbrev own : ℕ → Option (ℕ × ℕ)
  own k = chosen (bytes_eq x.name name) k

  here : drop i xs ≡ x ∷ drop (length xs - n) xs
  here =
      let within : i < length xs = omega arith in
      let next : suc i ≡ length xs - n = omega arith in
      drop-cons xs i x within ∙ ap (λ (y : Variable). y ∷ drop (suc i) xs) (sym is) ∙ ap (λ k. x ∷ drop k xs) next

  count : length (drop (length xs - n) xs) ≡ n
  count = length-drop (length xs - n) xs ∙ omega arith

  behind : nearest (drop i xs) name ≡ own n
  behind =
      ap (λ (ys : List Variable). nearest ys name) here
      ∙ ap (λ o. or_else o (own (length (drop (length xs - n) xs)))) passed.none
      ∙ ap own count

  pub passed_more : bytes_eq x.name name ≡ false → Passed xs name (n + 1)
  passed_more e =
      let back : length xs - (n + 1) ≡ i = omega arith in
      record { none = ap (λ k. nearest (drop k xs) name) back ∙ behind ∙ ap (λ b. chosen b n) e }

  pub passed_found : bytes_eq x.name name ≡ true → Some (n, x.sort) ≡ nearest xs name
  passed_found e =
      let found = in_front i xs name in
      sym (found.1 ∙ ap (λ o. or_else o found.0) (behind ∙ ap (λ b. chosen b n) e))
