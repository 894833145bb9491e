-- Names of variables, as code keeps them: a list whose last is the nearest.
use Rattle.std.specs.Prelude.{ℕ, ◌≡◌, ◌+◌, ◌-◌, ◌<◌, ◌≤◌, List, [], ◌∷◌, ◌++◌, length, map, reverse, get_or, refl}
use Rattle.std.proofs.Common.{ap, sym, ◌∙◌, arith, zero, suc}
use Rattle.std.proofs.lemmas.List.{get_or-reverse, length-reverse, reverse-reverse}
use Rattle.fof_terms.specs.declared.term.Term.{Var}
use Rattle.clause_form.proofs.ImagesFacts.{image-Var, image-App}
use Rattle.substitution_search.specs.CoverSearch.{near, over, down}
use Rattle.substitution_search.proofs.Placed.{reverse_snoc}

pub ruleset image_equations = (image-Var, image-App)

over_map : (xs : List ℕ) (k d : ℕ) → k < length xs → over (map Var xs) Var k ≡ Var (get_or xs k d)
over_map [] k d h = absurd (omega arith)
over_map (x ∷ xs) zero d h = refl
over_map (x ∷ xs) (suc k) d h = over_map xs k d (omega arith)

over_past : (xs : List ℕ) (k j : ℕ) → k ≡ j + length xs → over (map Var xs) Var k ≡ Var j
over_past [] k j e = ap Var (omega (arith, e))
over_past (x ∷ xs) zero j e = absurd (omega (arith, e))
over_past (x ∷ xs) (suc k) j e = over_past xs k j (omega (arith, e))

pub name_read : (names : List ℕ) (k : ℕ) → k < length names → Var (get_or names (length names - 1 - k) 0) ≡ over (near names) Var k
name_read names k h =
    let size = length-reverse names in
    ap Var (sym (get_or-reverse names k 0 h)) ∙ sym (over_map (reverse names) k 0 (omega (arith, size)))

pub name_past : (names : List ℕ) (k : ℕ) → length names ≤ k → Var (k - length names) ≡ over (near names) Var k
name_past names k h = let size = length-reverse names in sym (over_past (reverse names) k (k - length names) (omega (arith, size)))

pub near_more : (names : List ℕ) (n : ℕ) → near (names ++ n ∷ []) ≡ Var n ∷ near names
near_more names n = ap (map Var) (reverse_snoc names n)

-- what is pushed is popped
pub snoc_same : {X : Type 0} (xs ys : List X) (x y : X) → xs ++ x ∷ [] ≡ ys ++ y ∷ [] → xs ≡ ys
snoc_same xs ys x y e =
    let turned : x ∷ reverse xs ≡ y ∷ reverse ys = sym (reverse_snoc xs x) ∙ ap reverse e ∙ reverse_snoc ys y in
    let rest : reverse xs ≡ reverse ys = cc in
    sym (reverse-reverse xs) ∙ ap reverse rest ∙ reverse-reverse ys

pub near_down : (count : ℕ) (names : List ℕ) → near names ≡ down 0 count → near (names ++ count ∷ []) ≡ down 0 (count + 1)
near_down count names e =
    let next : count + 1 ≡ suc count = omega arith in
    let here : 0 + count ≡ count = omega arith in
    near_more names count ∙ ap (λ xs. Var count ∷ xs) e ∙ ap (λ k. Var k ∷ down 0 count) (sym here) ∙ ap (down 0) (sym next)
