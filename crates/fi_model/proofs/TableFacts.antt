-- How a value is found in a table.
use Rattle.std.proofs.Common.{◌≡◌, ℕ, zero, suc, ◌+◌, ◌*◌, ◌<◌, ◌≤◌, true, false, List, [], ◌∷◌, length, map, drop, get_or, Some, None, refl, sym, ◌∙◌, ap, subst, arith}
use Rattle.std.specs.Prelude.{slice_get}
use Rattle.std.proofs.lemmas.List.{length-map, drop_all}
use Rattle.fi_model.specs.declared.table.Table.{Table}
use Rattle.fi_model.specs.Cells.{cells, are_within, cell}
use Rattle.fi_model.specs.Tables.{table_value}
use Rattle.fi_model.proofs.CellFacts.{uneven, Reaches, reaches_more, misses, in_table, reaches_last}
use Rattle.fi_model.proofs.Loops.{at_member}

drop-map : {X : Type 0} (f : X → ℕ) (i : ℕ) (xs : List X) → drop i (map f xs) ≡ map f (drop i xs)
drop-map f zero xs = refl
drop-map f (suc i) [] = refl
drop-map f (suc i) (x ∷ xs) = drop-map f i xs

number_at : (xs : List ℕ) (i : ℕ) → i < length xs → drop i xs ≡ get_or xs i 0 ∷ drop (i + 1) xs
number_at xs i lt = at_member xs i (get_or xs i 0) lt (same xs i lt)
  where
    same : (ys : List ℕ) (k : ℕ) → k < length ys → get_or ys k 0 ≡ get_or ys k (get_or ys k 0)
    same [] k l = absurd (omega arith)
    same (y ∷ ys) zero l = refl
    same (y ∷ ys) (suc k) l = same ys k (omega arith)

outside : (t : Table) (xs : List ℕ) → are_within t.sizes xs ≡ false → 0 ≡ table_value t xs
outside t xs w = rw w refl

inside : (t : Table) (xs : List ℕ) (at : ℕ) → are_within t.sizes xs ≡ true → cell t.sizes xs ≡ at → get_or t.values at 0 ≡ table_value t xs
inside t xs at w e = rw (w, e) refl

get_some : (xs : List ℕ) (i x : ℕ) → slice_get xs i ≡ Some x → x ≡ get_or xs i 0
get_some [] i x e = cc
get_some (y ∷ xs) zero x e = cc
get_some (y ∷ xs) (suc i) x e = get_some xs i x e

get_none : (xs : List ℕ) (i : ℕ) → slice_get xs i ≡ None → 0 ≡ get_or xs i 0
get_none [] i e = refl
get_none (y ∷ xs) zero e = cc
get_none (y ∷ xs) (suc i) e = get_none xs i e

module _ {X : Type 0} (f : X → ℕ) (t : Table) (args : List X) (sizes : List ℕ) (same : sizes ≡ t.sizes) where
  pub short : (length args ≡ length sizes → ⊥) → 0 ≡ table_value t (map f args)
  short h = outside t (map f args) (uneven t.sizes (map f args) (λ e. h (sym (length-map args f) ∙ e ∙ ap length (sym same))))

  module _ (i at : ℕ) (r : Reaches t.sizes (map f args) i at) (even : length args ≡ length sizes) where
    module _ (a : X) (x : ℕ) (lt : i < length args) (is : a ≡ get_or args i a) (x_is : x ≡ f a) where
      size_is : drop i t.sizes ≡ get_or sizes i 0 ∷ drop (i + 1) t.sizes
      size_is = subst (λ (ns : List ℕ). drop i ns ≡ get_or sizes i 0 ∷ drop (i + 1) ns) same (number_at sizes i (omega (arith, lt, even)))

      element_is : drop i (map f args) ≡ x ∷ drop (i + 1) (map f args)
      element_is = drop-map f i args ∙ ap (map f) (at_member args i a lt is) ∙ ap (λ (n : ℕ). n ∷ map f (drop (i + 1) args)) (sym x_is) ∙ ap (λ (ns : List ℕ). x ∷ ns) (sym (drop-map f (i + 1) args))

      pub next : x < get_or sizes i 0 → Reaches t.sizes (map f args) (i + 1) (at * get_or sizes i 0 + x)
      next small = reaches_more t.sizes (map f args) i at (get_or sizes i 0) x size_is element_is r small

      pub beyond : get_or sizes i 0 ≤ x → 0 ≡ table_value t (map f args)
      beyond large = outside t (map f args) (misses t.sizes (map f args) i at (get_or sizes i 0) x size_is element_is r large)

      pub fits : 0 < cells t.sizes → x < get_or sizes i 0 → at * get_or sizes i 0 + x < cells t.sizes
      fits some small = in_table t.sizes (map f args) i at (get_or sizes i 0) x size_is element_is r some small

    last : length args ≤ i → get_or t.values at 0 ≡ table_value t (map f args)
    last le =
        let ends : drop i t.sizes ≡ [] = subst (λ (ns : List ℕ). drop i ns ≡ []) same (drop_all i sizes (omega (arith, le, even))) in
        let parts = reaches_last t.sizes (map f args) i at ends (drop_all i (map f args) (omega (arith, le, length-map args f))) r in
        inside t (map f args) at parts.0 parts.1

    pub last_some : (value : ℕ) → length args ≤ i → slice_get t.values at ≡ Some value → value ≡ table_value t (map f args)
    last_some value le e = get_some t.values at value e ∙ last le

    pub last_none : length args ≤ i → slice_get t.values at ≡ None → 0 ≡ table_value t (map f args)
    last_none le e = get_none t.values at e ∙ last le
