-- A new symbol at variables, and the entry that brings it in.
use Rattle.std.proofs.Common.{ℕ, ◌≡◌, ◌≤◌, ◌+◌, ◌-◌, ◌<◌, Bool, true, false, List, [], ◌∷◌, ◌++◌, map, length, reverse, nat_eq, nat_lt, arith, zero, suc, refl, sym, ap, subst, ◌∙◌, inl, inr, slice_get, Option, Some, None}
use Rattle.std.specs.List.{AllByRecursion, list_any, list_all, IsDistinct}
use Rattle.std.proofs.lemmas.List.{length-reverse, append-nil}
use Rattle.std.proofs.lemmas.Option.{slice_get_within}
use Rattle.std.proofs.lemmas.Map.Steps.{length-le_from_distinct_below}
use Rattle.fof_terms.specs.Vocabulary.{Vocabulary}
use Rattle.fof_terms.proofs.LiftingLaws.{both}
use Rattle.fof_terms.specs.declared.signature.Symbol.{Symbol}
use Rattle.fof_terms.specs.declared.signature.Kind.{Kind}
use Rattle.fof_terms.specs.declared.signature.Kind.TheVariants.{Function, Predicate}
use Rattle.fof_terms.specs.declared.term.Term.{Var}
use Rattle.fof_terms.specs.declared.form.Form.{Form, Atom, Iff}
use Rattle.fof_terms.specs.Sorts.{IsScope, SortedTo, Sorted, is_sort, are_sorts, holds_of, stated_by, sort_of_term, is_sorted}
use Rattle.fof_terms.proofs.SortsFacts.{sort_of_term-Var, is_sorted-Atom, is_sorted-Iff}
use Rattle.fof_terms.proofs.Scoped.{member_of, raised, sorted_of_iff}
use Rattle.fof_terms.proofs.Walks.{same_depth}
use Rattle.kernel.specs.Statements.{Statements}
use Rattle.kernel.specs.Entries.{IsFresh, MayName, naming, for_all, variables}
use Rattle.split_defs.specs.DefinitionRule.{IsAmong, IsMeaning}
use Rattle.split_defs.specs.code.Renaming.{argument, renamed, renamed_term, speaks, speaks_in_term}
use Rattle.split_defs.proofs.RenamingFacts.{renamed-Atom, renamed-Iff, speaks_in_term-Var, speaks-Atom, speaks-Iff}
use Rattle.split_defs.proofs.Distinct.{is_equal, equals_itself, either}
use Rattle.split_defs.proofs.Filling.{renaming, arguments_are, argument_at}
use Rattle.split_defs.proofs.RenamedSorts.{renamed_sorted, form_occurs}
use Rattle.split_defs.proofs.Spoken.{speaks_of_among, and_true, either_left, either_right}
use Rattle.split_defs.proofs.UnderAll.{HaveSorts, as_many, turn, closed_over}

-- Lists.
slice_front : (xs ys : List ℕ) (k r : ℕ) → slice_get xs k ≡ Some r → slice_get (xs ++ ys) k ≡ Some r
slice_front [] ys k r e = absurd (let no : None ≡ Some r = e in cc)
slice_front (x ∷ xs) ys zero r e = e
slice_front (x ∷ xs) ys (suc k) r e = slice_front xs ys k r e

slice_last : (xs : List ℕ) (y k : ℕ) → k ≡ length xs → slice_get (xs ++ y ∷ []) k ≡ Some y
slice_last [] y zero e = refl
slice_last [] y (suc k) e = absurd (omega arith)
slice_last (x ∷ xs) y zero e = absurd (omega arith)
slice_last (x ∷ xs) y (suc k) e = slice_last xs y k (omega arith)

from_last : (ss : List ℕ) (i k s : ℕ) → slice_get ss i ≡ Some s → i < length ss → k ≡ length ss - 1 - i → slice_get (reverse ss) k ≡ Some s
from_last [] i k s at lt e = absurd (omega arith)
from_last (r ∷ ss) zero k s at lt e =
    let same : r ≡ s = cc in
    ap (λ (xs : List ℕ). slice_get xs k) (turn r ss) ∙ slice_last (reverse ss) r k (omega (arith, length-reverse ss)) ∙ ap Some same
from_last (r ∷ ss) (suc i) k s at lt e = ap (λ (xs : List ℕ). slice_get xs k) (turn r ss) ∙ slice_front (reverse ss) (r ∷ []) k s (from_last ss i k s at (omega arith) (omega arith))

all_more : (P : ℕ → Type 0) (xs : List ℕ) (y : ℕ) → AllByRecursion P xs → P y → AllByRecursion P (xs ++ y ∷ [])
all_more P [] y all p = (p, tt)
all_more P (x ∷ xs) y all p = (all.0, all_more P xs y all.1 p)

all_turned : (P : ℕ → Type 0) (xs : List ℕ) → AllByRecursion P xs → AllByRecursion P (reverse xs)
all_turned P [] all = tt
all_turned P (x ∷ xs) all = subst (λ (ys : List ℕ). AllByRecursion P ys) (sym (turn x xs)) (all_more P (reverse xs) x (all_turned P xs all.1) all.0)

among_at : (xs : List ℕ) (k : ℕ) → IsAmong k xs → (i : ℕ) × (i < length xs) × (slice_get xs i ≡ Some k)
among_at [] k e = absurd (let no : false ≡ true = e in cc)
among_at (x ∷ xs) k e =
    elim (either (nat_eq k x) (list_any (nat_eq k) xs) e) [
      | inl h ↦ (0, omega arith, ap Some (sym (is_equal k x h)))
      | inr h ↦ let r = among_at xs k h in (suc r.0, omega (arith, r.1), r.2)
    ]

-- Sorts of the variables.
some_sort : (r : Option ℕ) (s : ℕ) → is_sort r s ≡ true → r ≡ Some s
some_sort None s e = absurd (let no : false ≡ true = e in cc)
some_sort (Some x) s e = ap Some (is_equal x s e)

pub have_sorts : (v : Vocabulary) (scope args xs : List ℕ) → are_sorts (map (sort_of_term v scope) (map Var xs)) args ≡ true → HaveSorts scope args xs
have_sorts v scope [] [] e = tt
have_sorts v scope [] (x ∷ xs) e = absurd (let no : false ≡ true = e in cc)
have_sorts v scope (s ∷ args) [] e = absurd (let no : false ≡ true = e in cc)
have_sorts v scope (s ∷ args) (x ∷ xs) e =
    let parts = both (is_sort (sort_of_term v scope (Var x)) s) (are_sorts (map (sort_of_term v scope) (map Var xs)) args) e in
    (rw sort_of_term-Var at (some_sort (sort_of_term v scope (Var x)) s parts.0), have_sorts v scope args xs parts.1)

sort_there : (scope args xs : List ℕ) (i x : ℕ) → HaveSorts scope args xs → slice_get xs i ≡ Some x → (s : ℕ) × (slice_get scope x ≡ Some s) × (slice_get args i ≡ Some s) × (i < length args)
sort_there scope [] [] i x h at = absurd (let no : None ≡ Some x = at in cc)
sort_there scope [] (y ∷ xs) i x h at = absurd h
sort_there scope (s ∷ args) [] i x h at = absurd h
sort_there scope (s ∷ args) (y ∷ xs) zero x h at = let same : y ≡ x = cc in (s, rw same at h.0, refl, omega arith)
sort_there scope (s ∷ args) (y ∷ xs) (suc i) x h at = let r = sort_there scope args xs i x h.1 at in (r.0, r.1, r.2, omega (arith, r.3))

exist : (v : Vocabulary) (scope args xs : List ℕ) → AllByRecursion (λ s. s < length v.sorts) scope → HaveSorts scope args xs → AllByRecursion (λ s. s < length v.sorts) args
exist v scope [] [] all h = tt
exist v scope [] (x ∷ xs) all h = absurd h
exist v scope (s ∷ args) [] all h = absurd h
exist v scope (s ∷ args) (x ∷ xs) all h = (member_of (λ s. s < length v.sorts) scope x s all h.0, exist v scope args xs all h.1)

module _ (v : Vocabulary) (scope args xs : List ℕ) (h : HaveSorts scope args xs) (apart : IsDistinct nat_eq xs) where
  below : (q : ℕ) → IsAmong q xs → q < length scope
  below q e =
      let place = among_at xs q e in
      let sort = sort_there scope args xs place.0 q h place.2 in
      slice_get_within scope q sort.0 sort.1

  pub few_arguments : length args ≤ length scope
  few_arguments = omega (arith, as_many scope args xs h, length-le_from_distinct_below xs (length scope) apart below)

  pub argument_sort : (k : ℕ) → IsAmong k xs → slice_get (reverse args) (argument xs k) ≡ slice_get scope k
  argument_sort k e =
      let place = among_at xs k e in
      let sort = sort_there scope args xs place.0 k h place.2 in
      let number : argument xs k ≡ length args - 1 - place.0 = argument_at xs place.0 k apart place.2 place.1 ∙ ap (λ n. n - 1 - place.0) (as_many scope args xs h) in
      ap (slice_get (reverse args)) number ∙ from_last args place.0 (length args - 1 - place.0) sort.0 sort.2 sort.3 refl ∙ sym sort.1

  -- the arguments' scope
  pub arguments_scope : IsScope v scope → IsScope v (reverse args)
  arguments_scope sc = record {
    few_variables = omega (arith, sc.few_variables, few_arguments, length-reverse args);
    sorts_exist = all_turned (λ s. s < length v.sorts) args (exist v scope args xs sc.sorts_exist h);
  }

  -- a formula that speaks of these variables alone, over the arguments
  pub renamed_fits : (n : ℕ) (a : Form) → speaks xs 0 a ≡ true → SortedTo n v scope a → SortedTo n v (reverse args) (renamed xs 0 a)
  renamed_fits n a e r = record {
    scope_fits = arguments_scope r.scope_fits;
    few_binders = rw (same_depth _ _ (renaming xs) a 0) r.few_binders;
    fits = renamed_sorted v xs scope (reverse args) argument_sort a [] e ∙ r.fits;
  }

each_among : (xs zs : List ℕ) → ((x : ℕ) → IsAmong x zs → IsAmong x xs) → list_all (speaks_in_term xs 0) (map Var zs) ≡ true
each_among xs [] h = refl
each_among xs (z ∷ zs) h =
    let off : z - 0 ≡ z = omega arith in
    let here : list_any (nat_eq (z - 0)) xs ≡ true = subst (λ (j : ℕ). IsAmong j xs) (sym off) (h z (either_left (nat_eq z z) (list_any (nat_eq z) zs) (equals_itself z))) in
    let first : speaks_in_term xs 0 (Var z) ≡ true = rw speaks_in_term-Var (either_right (nat_lt z 0) (list_any (nat_eq (z - 0)) xs) here) in
    and_true (speaks_in_term xs 0 (Var z)) (list_all (speaks_in_term xs 0) (map Var zs)) first (each_among xs zs (λ x e. h x (either_right (nat_eq x z) (list_any (nat_eq x) zs) e)))

pub head_speaks : (xs : List ℕ) → list_all (speaks_in_term xs 0) (map Var xs) ≡ true
head_speaks xs = each_among xs xs (λ x e. e)

stated_fits : (k : Kind) (fits : Bool) → k ≡ Predicate → stated_by k fits ≡ true → fits ≡ true
stated_fits Function fits is e = absurd (let no : Function ≡ Predicate = is in cc)
stated_fits Predicate fits is e = e

-- A new predicate at variables, and its meaning.
module _ (v : Vocabulary) (k : ℕ) (symbol : Symbol) (xs scope : List ℕ) (n : ℕ) (a : Form) (found : slice_get v.symbols k ≡ Some symbol) (is : symbol.kind ≡ Predicate) (m : IsMeaning k xs a)
    (r : SortedTo n v scope (Iff (Atom k (map Var xs)) a)) (room : n + length scope ≤ 2147483647) where
  pub predicate_sorts : HaveSorts scope symbol.args xs
  predicate_sorts =
      let sides = both (is_sorted v scope (Atom k (map Var xs))) (is_sorted v scope a) (rw is_sorted-Iff at r.fits) in
      let e : holds_of (slice_get v.symbols k) (map (sort_of_term v scope) (map Var xs)) ≡ true = rw is_sorted-Atom at sides.0 in
      let e' : holds_of (Some symbol) (map (sort_of_term v scope) (map Var xs)) ≡ true = rw found at e in
      have_sorts v scope symbol.args xs (stated_fits symbol.kind (are_sorts (map (sort_of_term v scope) (map Var xs)) symbol.args) is e')

  pub meaning_speaks : speaks xs 0 a ≡ true
  meaning_speaks = speaks_of_among xs a m.among

  whole_speaks : speaks xs 0 (Iff (Atom k (map Var xs)) a) ≡ true
  whole_speaks = rw speaks-Iff (and_true (speaks xs 0 (Atom k (map Var xs))) (speaks xs 0 a) (rw speaks-Atom (head_speaks xs)) meaning_speaks)

  -- what the entry adds
  pub naming_is : naming k symbol (renamed xs 0 a) ≡ for_all symbol.args (renamed xs 0 (Iff (Atom k (map Var xs)) a))
  naming_is =
      let vars : map (renamed_term xs 0) (map Var xs) ≡ variables (length symbol.args) = arguments_are xs m.distinct ∙ ap variables (as_many scope symbol.args xs predicate_sorts) in
      let inner : renamed xs 0 (Iff (Atom k (map Var xs)) a) ≡ Iff (Atom k (variables (length symbol.args))) (renamed xs 0 a) = rw (renamed-Iff, renamed-Atom, vars) refl in
      ap (for_all symbol.args) (sym inner)

  pub added_fits : Sorted v [] (for_all symbol.args (renamed xs 0 (Iff (Atom k (map Var xs)) a)))
  added_fits =
      let inner : SortedTo n v (reverse symbol.args ++ []) (renamed xs 0 (Iff (Atom k (map Var xs)) a)) =
      subst (λ (x : List ℕ). SortedTo n v x (renamed xs 0 (Iff (Atom k (map Var xs)) a))) (sym (append-nil (reverse symbol.args))) (renamed_fits v scope symbol.args xs predicate_sorts m.distinct n (Iff (Atom k (map Var xs)) a) whole_speaks r) in
      raised v [] (n + length symbol.args) 2147483647 (for_all symbol.args (renamed xs 0 (Iff (Atom k (map Var xs)) a))) (omega (arith, room, few_arguments v scope symbol.args xs predicate_sorts m.distinct)) (closed_over v symbol.args [] n (renamed xs 0 (Iff (Atom k (map Var xs)) a)) inner)

  named_in : (formulas : List Form) → IsFresh k (record { vocabulary = v; formulas = formulas }) → MayName (record { vocabulary = v; formulas = formulas }) k symbol (renamed xs 0 a)
  named_in formulas fresh = record {
    found = found;
    kind = is;
    sorted = raised v (reverse symbol.args) n 2147483647 (renamed xs 0 a) (omega (arith, room)) (renamed_fits v scope symbol.args xs predicate_sorts m.distinct n a meaning_speaks (sorted_of_iff v scope n (Atom k (map Var xs)) a r).1);
    fresh = fresh;
    absent = form_occurs xs k a 0 ∙ m.absent;
    added = subst (λ (b : Form). Sorted v [] b) (sym naming_is) added_fits;
  }

  pub may_name : (u : Statements) → u.vocabulary ≡ v → IsFresh k u → MayName u k symbol (renamed xs 0 a)
  may_name u same fresh = subst (λ (x : Vocabulary). MayName (record { vocabulary = x; formulas = u.formulas }) k symbol (renamed xs 0 a)) (sym same) (named_in u.formulas fresh)
