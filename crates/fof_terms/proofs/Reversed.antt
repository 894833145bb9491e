-- What holds of each member holds of each of the reversed list.
use Rattle.std.proofs.Common.{◌≡◌, ◌<◌, ◌-◌, ℕ, List, [], ◌∷◌, length, arith, zero, suc, subst, sym, reverse}
use Rattle.std.specs.Prelude.{◌≤◌, IsTrue}
use Rattle.std.specs.List.{All as Each, AllByRecursion}
use Rattle.fof_terms.specs.Vocabulary.{Vocabulary}
use Rattle.fof_terms.specs.Sorts.{Sorted, is_sorted, binder_depth}
use Rattle.fof_terms.specs.declared.form.Form.{Form}
use Rattle.std.proofs.lemmas.List.{reverse-reverse, length-reverse, get_or-reverse}

by_index : {X : Type 0} (P : X → Type 0) (xs : List X) → AllByRecursion P xs → Each P xs
by_index P [] all i d lt = absurd (omega arith)
by_index P (x ∷ xs) all zero d lt = all.0
by_index P (x ∷ xs) all (suc i) d lt = by_index P xs all.1 i d (omega arith)

by_recursion : {X : Type 0} (P : X → Type 0) (xs : List X) → Each P xs → AllByRecursion P xs
by_recursion P [] all = tt
by_recursion P (x ∷ xs) all = (all zero x (omega arith), by_recursion P xs (λ i d lt. all (suc i) d (omega arith)))

reversed : {X : Type 0} (P : X → Type 0) (xs : List X) → Each P xs → Each P (reverse xs)
reversed P xs all i d lt =
    let len : length (reverse xs) ≡ length xs = length-reverse xs in
    subst P (sym (get_or-reverse xs i d (omega arith))) (all (length xs - 1 - i) d (omega arith))

pub all_reversed : {X : Type 0} (P : X → Type 0) (xs : List X) → Each P xs → AllByRecursion P (reverse xs)
all_reversed P xs all = by_recursion P (reverse xs) (reversed P xs all)

pub all_of_reversed : {X : Type 0} (P : X → Type 0) (xs : List X) → AllByRecursion P (reverse xs) → Each P xs
all_of_reversed P xs all = subst (Each P) (reverse-reverse xs) (reversed P (reverse xs) (by_index P (reverse xs) all))

module _ (v : Vocabulary) (sorts : List ℕ) (a : Form) where
  pub sorted_over : length sorts ≤ 2147483647 → binder_depth a ≤ 2147483647 → Each (λ s. s < length v.sorts) sorts → IsTrue (is_sorted v (reverse sorts) a) → Sorted v (reverse sorts) a
  sorted_over few depth each fits =
      let len : length (reverse sorts) ≡ length sorts = length-reverse sorts in
      record { scope_fits = record { few_variables = omega arith; sorts_exist = all_reversed (λ s. s < length v.sorts) sorts each }; few_binders = depth; fits = fits }

  pub sorts_of_sorted : Sorted v (reverse sorts) a → Each (λ s. s < length v.sorts) sorts
  sorts_of_sorted s = all_of_reversed (λ s. s < length v.sorts) sorts s.scope_fits.sorts_exist

  pub few_of_sorted : Sorted v (reverse sorts) a → length sorts ≤ 2147483647
  few_of_sorted s = let len : length (reverse sorts) ≡ length sorts = length-reverse sorts in omega (arith, s.scope_fits.few_variables)
