-- The type lines of a vocabulary whose names can be written.
use Rattle.std.specs.Prelude.{◌≡◌, ◌&&◌, ℕ, zero, suc, true, List, [], ◌∷◌, drop, map, Option, None, Some, slice_get, refl}
use Rattle.std.specs.List.{list_all, AllByRecursion}
use Rattle.std.proofs.Common.{subst, ◌∙◌}
use Rattle.std.proofs.lemmas.Bool.{and_from}
use Rattle.std.proofs.lemmas.List.Folds.{list_all-append}
use Rattle.std.proofs.lemmas.List.Sums.{list_all-from_AllPass}
use Rattle.tptp_base.specs.Quotable.{is_printable, IsQuotable, AreQuotable}
use Rattle.fof_terms.specs.Vocabulary.{Vocabulary}
use Rattle.fof_terms.specs.declared.signature.Symbol.{Symbol}
use Rattle.derivation_items.specs.Typings.{function_typing, named_sort, sort_typing, typings_of, written_sort}
use Rattle.derivation_items.specs.Words.{Text}
use Rattle.printed_forms.specs.Words.{HasWords}
use Rattle.spelled_items.proofs.WordsSpelled.{printable_word}
use Rattle.spelled_items.specs.Writable.{is_argument_sort, is_result_sort, is_typing, is_word}

pub quotable_word : (name : Text) → IsQuotable name → is_word name ≡ true
quotable_word name is = printable_word name is.some (list_all-from_AllPass is_printable name is.printable)

-- ---- sorts

quotable_at : (names : List Text) (k : ℕ) (name : Text) → AreQuotable names → slice_get names k ≡ Some name → IsQuotable name
quotable_at [] k name all at = cc
quotable_at (own ∷ names) zero name all at = (let same : own ≡ name = cc in subst IsQuotable same all.0)
quotable_at (own ∷ names) (suc k) name all at = quotable_at names k name all.1 at

module _ (v : Vocabulary) (has : HasWords v) where
  argument_by : (k : ℕ) (o : Option Text) → slice_get v.sorts k ≡ o → is_argument_sort (named_sort o) ≡ true
  argument_by k None at = refl
  argument_by k (Some name) at = quotable_word name (quotable_at v.sorts k name has.sorts at)

  result_by : (k : ℕ) (o : Option Text) → slice_get v.sorts k ≡ o → is_result_sort (named_sort o) ≡ true
  result_by k None at = refl
  result_by k (Some name) at = quotable_word name (quotable_at v.sorts k name has.sorts at)

  argument_written : (k : ℕ) → is_argument_sort (written_sort v k) ≡ true
  argument_written zero = refl
  argument_written (suc k) = argument_by (suc k) (slice_get v.sorts (suc k)) refl

  result_written : (k : ℕ) → is_result_sort (written_sort v k) ≡ true
  result_written zero = refl
  result_written (suc k) = result_by (suc k) (slice_get v.sorts (suc k)) refl

  arguments_written : (args : List ℕ) → list_all is_argument_sort (map (written_sort v) args) ≡ true
  arguments_written [] = refl
  arguments_written (k ∷ args) = and_from (is_argument_sort (written_sort v k)) (list_all is_argument_sort (map (written_sort v) args)) (argument_written k) (arguments_written args)

  -- ---- type lines

  function_written : (s : Symbol) → IsQuotable s.name → is_typing (function_typing v s) ≡ true
  function_written s is =
      and_from (is_word s.name) (list_all is_argument_sort (map (written_sort v) s.args) && is_result_sort (written_sort v s.result)) (quotable_word s.name is)
      (and_from (list_all is_argument_sort (map (written_sort v) s.args)) (is_result_sort (written_sort v s.result)) (arguments_written s.args) (result_written s.result))

  functions_written : (symbols : List Symbol) → AllByRecursion (λ (s : Symbol). IsQuotable s.name) symbols → list_all is_typing (map (function_typing v) symbols) ≡ true
  functions_written [] all = refl
  functions_written (s ∷ symbols) all = and_from (is_typing (function_typing v s)) (list_all is_typing (map (function_typing v) symbols)) (function_written s all.0) (functions_written symbols all.1)

  sorts_written : (names : List Text) → AreQuotable names → list_all is_typing (map sort_typing names) ≡ true
  sorts_written [] all = refl
  sorts_written (name ∷ names) all = and_from (is_typing (sort_typing name)) (list_all is_typing (map sort_typing names)) (and_from (is_word name) true (quotable_word name all.0) refl) (sorts_written names all.1)

  dropped : {X : Type 0} (P : X → Type 0) (n : ℕ) (xs : List X) → AllByRecursion P xs → AllByRecursion P (drop n xs)
  dropped P zero xs all = all
  dropped P (suc n) [] all = tt
  dropped P (suc n) (x ∷ xs) all = dropped P n xs all.1

  pub typings_written : (first : ℕ) → list_all is_typing (typings_of v first) ≡ true
  typings_written first =
      list_all-append is_typing (map sort_typing (drop 1 v.sorts)) (map (function_typing v) (drop first v.symbols))
      ∙ and_from (list_all is_typing (map sort_typing (drop 1 v.sorts))) (list_all is_typing (map (function_typing v) (drop first v.symbols)))
      (sorts_written (drop 1 v.sorts) (dropped IsQuotable 1 v.sorts has.sorts))
      (functions_written (drop first v.symbols) (dropped (λ (s : Symbol). IsQuotable s.name) first v.symbols has.symbols))

pub type_lines_written : (v : Vocabulary) (first : ℕ) → HasWords v → list_all is_typing (typings_of v first) ≡ true
type_lines_written v first has = typings_written v has first
