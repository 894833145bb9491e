-- The front of a signature that is copied.
use Rattle.std.specs.Prelude.{ℕ, zero, suc, ◌≡◌, ◌+◌, ◌≤◌, ◌<◌, List, [], ◌∷◌, ◌++◌, length, take, get_or, Some, slice_get, codes}
use Rattle.std.proofs.Common.{ap, sym, subst, ◌∙◌, arith}
use Rattle.std.proofs.lemmas.List.{get_or-take, length-take-le, take_all, take_more}
use Rattle.std.proofs.lemmas.Option.{get_or_from_slice_get, slice_get_within}
use Rattle.fof_terms.specs.Vocabulary.{Vocabulary, IsDeclared, IsVocabulary}
use Rattle.fof_terms.specs.declared.signature.Symbol.{Symbol}
use Rattle.sort_check.specs.declared.front.Extent.{Extent}
use Rattle.sort_check.specs.code.Fronts.{front}

abbrev pub with_symbols : Vocabulary → List Symbol → Vocabulary
with_symbols v symbols = record v { symbols = symbols }

-- one more of a list
more_taken : {X : Type 0} (xs : List X) (i : ℕ) (x : X) → slice_get xs i ≡ Some x → take (i + 1) xs ≡ take i xs ++ x ∷ []
more_taken {X} xs i x e = take_more xs i x (slice_get_within xs i x e) ∙ ap (λ (y : X). take i xs ++ y ∷ []) (get_or_from_slice_get xs i x x e)

-- Symbols.
module _ (v : Vocabulary) (e : Extent) (g : Vocabulary) (i : ℕ) (is : g ≡ with_symbols (front e v) (take i v.symbols)) where
  pub symbol_declared : (r s : Symbol) → slice_get v.symbols i ≡ Some r → s ≡ r → i < e.symbols → e.symbols ≤ length v.symbols → IsVocabulary (front e v) → IsDeclared (length g.sorts) s
  symbol_declared r s at es before within whole =
      let same : get_or (take e.symbols v.symbols) i r ≡ r = get_or-take e.symbols v.symbols i r before ∙ get_or_from_slice_get v.symbols i r r at in
      let so = whole.declared i r (omega (arith, before, length-take-le e.symbols v.symbols within)) in
      subst (λ (x : Vocabulary). IsDeclared (length x.sorts) s) (sym is) (subst (IsDeclared (length (front e v).sorts)) (same ∙ sym es) so)

  pub symbol_added : (h : Vocabulary) (r s : Symbol) → slice_get v.symbols i ≡ Some r → s ≡ r → h ≡ with_symbols g (g.symbols ++ s ∷ []) → h ≡ with_symbols (front e v) (take (i + 1) v.symbols)
  symbol_added h r s at es eh =
      eh ∙ ap (λ (x : Vocabulary). with_symbols x (x.symbols ++ s ∷ [])) is ∙ ap (with_symbols (front e v)) (ap (λ (q : Symbol). take i v.symbols ++ q ∷ []) es ∙ sym (more_taken v.symbols i r at))

  pub symbol_room : i < e.symbols → e.symbols ≤ length v.symbols → IsVocabulary (front e v) → length g.symbols < 16777216
  symbol_room before within whole =
      let count : length g.symbols ≡ i = ap (λ (x : Vocabulary). length x.symbols) is ∙ length-take-le i v.symbols (omega arith) in
      omega (arith, count, whole.few_symbols, length-take-le e.symbols v.symbols within)

pub all_symbols : (v : Vocabulary) (e : Extent) (g : Vocabulary) (i : ℕ) → g ≡ with_symbols (front e v) (take i v.symbols) → i ≡ e.symbols → g ≡ front e v
all_symbols v e g i is same = is ∙ ap (λ (n : ℕ). with_symbols (front e v) (take n v.symbols)) same

-- Sorts.
abbrev named : List (List ℕ) → Vocabulary
named names = record { sorts = names; symbols = [] }

abbrev pub sorts_alone : Vocabulary → ℕ → Vocabulary
sorts_alone v i = named (take i v.sorts)

pub sort_added : (v g h : Vocabulary) (i : ℕ) (r s : List ℕ) → g ≡ sorts_alone v i → slice_get v.sorts i ≡ Some r → s ≡ r → h ≡ record g { sorts = g.sorts ++ s ∷ [] } → h ≡ sorts_alone v (i + 1)
sort_added v g h i r s is at es eh =
    let added : h ≡ named (take i v.sorts ++ s ∷ []) = eh ∙ ap (λ (x : Vocabulary). record x { sorts = x.sorts ++ s ∷ [] }) is in
    let next : take i v.sorts ++ s ∷ [] ≡ take (i + 1) v.sorts = ap (λ (q : List ℕ). take i v.sorts ++ q ∷ []) es ∙ sym (more_taken v.sorts i r at) in
    added ∙ ap named next

pub sort_room : (v g : Vocabulary) (i n : ℕ) → g ≡ sorts_alone v i → length v.sorts ≤ 65536 → i < n → n ≤ length v.sorts → length g.sorts < 65536
sort_room v g i n is few before within =
    let count : length g.sorts ≡ i = ap (λ (x : Vocabulary). length x.sorts) is ∙ length-take-le i v.sorts (omega arith) in
    omega arith

pub all_sorts : (v : Vocabulary) (e : Extent) (g : Vocabulary) (i : ℕ) → g ≡ sorts_alone v i → i ≡ e.sorts → g ≡ with_symbols (front e v) []
all_sorts v e g i is same = is ∙ ap (λ (n : ℕ). named (take n v.sorts)) same

-- a front has the sort of individuals
pub some_sorts : (v : Vocabulary) (e : Extent) → IsVocabulary (front e v) → 0 < e.sorts
some_sorts v e whole = by e.sorts whole.first
  where
    by : (n : ℕ) → slice_get (take n v.sorts) 0 ≡ Some (codes "$i") → 0 < n
    by zero k = absurd (cc)
    by (suc n) k = omega arith

first_taken : (names : List (List ℕ)) (first : List ℕ) → slice_get names 0 ≡ Some first → first ∷ [] ≡ take 1 names
first_taken [] first e = cc
first_taken (x ∷ names) first e = let same : x ≡ first = cc in ap (λ (q : List ℕ). q ∷ []) (sym same)

pub first_sort : (v g : Vocabulary) (first : List ℕ) → slice_get v.sorts 0 ≡ Some first → g ≡ named (first ∷ []) → g ≡ sorts_alone v 1
first_sort v g first e is = is ∙ ap named (first_taken v.sorts first e)

-- all sorts and symbols are a front
pub whole_front : (v : Vocabulary) (e : Extent) → e.sorts ≡ length v.sorts → e.symbols ≡ length v.symbols → front e v ≡ v
whole_front v e sorts symbols =
    ap (λ (xs : List (List ℕ)). record { sorts = xs; symbols = take e.symbols v.symbols }) (take_all e.sorts v.sorts (omega arith))
    ∙ ap (λ (xs : List Symbol). record { sorts = v.sorts; symbols = xs }) (take_all e.symbols v.symbols (omega arith))

pub whole_vocabulary : (v : Vocabulary) (e : Extent) → e.sorts ≡ length v.sorts → e.symbols ≡ length v.symbols → IsVocabulary v → IsVocabulary (front e v)
whole_vocabulary v e sorts symbols whole = subst IsVocabulary (sym (whole_front v e sorts symbols)) whole
