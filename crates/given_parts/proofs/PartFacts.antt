-- Owners, functions and numbers in loops over parts.
use Rattle.std.specs.Prelude.{ℕ, ◌≡◌, ◌<◌, ◌≤◌, ◌+◌, ◌-◌, ◌^◌, min, Bool, true, false, if◌then◌else◌, List, [], ◌∷◌, ◌++◌, length, get_or, drop, map, replicate, refl, Some, slice_get}
use Rattle.std.specs.List.{range_with_len}
use Rattle.std.proofs.Common.{ap, sym, ◌∙◌, arith, zero, suc, add-one, append_assoc}
use Rattle.std.proofs.lemmas.List.{append-nil, drop_more, drop_all, length-append}
use Rattle.std.proofs.lemmas.Option.{slice_get_within}
use Rattle.fof_terms.specs.declared.signature.Symbol.{Symbol}
use Rattle.clause_form.proofs.SizeLaws.{sum_cons}
use Rattle.clause_form.specs.Sizes.{clause_count_of}
use Rattle.derivation_items.specs.Words.{Text}
use Rattle.step_clauses.specs.declared.existentials.Existential.{Existential}
use Rattle.given_parts.specs.declared.part.Part.{Part}
use Rattle.given_parts.specs.Chosen.{chosen_from}
use Rattle.given_parts.specs.Functions.{function_of, functions_from}
use Rattle.given_parts.specs.Numbers.{next_behind, firsts_from, numbers_from}
use Rattle.given_parts.specs.Owners.{owners_from}
use Rattle.given_parts.specs.Parts.{ex_count_of, ex_counts}
use Rattle.given_parts.proofs.ChosenFacts.{chosen_left}

-- what is left of a list begins with what stands at the place
left_at : {X : Type 0} (xs : List X) (i : ℕ) (x : X) → i < length xs → x ≡ get_or xs i x → drop i xs ≡ x ∷ drop (i + 1) xs
left_at {X} xs i x lt is = drop_more xs i x lt ∙ ap (λ (y : X). y ∷ drop (i + 1) xs) (sym is)

-- Owners.
pub exact_count : (count n s : ℕ) → n ≡ min s (2 ^ 128 - 1) → n < 2 ^ 64 → count ≡ n → count ≡ s
exact_count count n s e lt is = omega arith

pub owners_step : (parts : List Part) (i : ℕ) (p : Part) (old new all : List ℕ) → i < length parts → p ≡ get_or parts i p → old ++ owners_from i (drop i parts) ≡ all → new ≡ old ++ replicate (clause_count_of p.norm) i
    → new ++ owners_from (i + 1) (drop (i + 1) parts) ≡ all
owners_step parts i p old new all lt is so made =
    let rest = owners_from (i + 1) (drop (i + 1) parts) in
    ap (λ (ns : List ℕ). ns ++ rest) made ∙ append_assoc old (replicate (clause_count_of p.norm) i) rest ∙ ap (λ (ps : List Part). old ++ owners_from i ps) (sym (left_at parts i p lt is)) ∙ so

pub owners_end : (parts : List Part) (i : ℕ) (old all : List ℕ) → length parts ≤ i → old ++ owners_from i (drop i parts) ≡ all → old ≡ all
owners_end parts i old all past so = sym (ap (λ (ps : List Part). old ++ owners_from i ps) (drop_all i parts past) ∙ append-nil old) ∙ so

-- Functions.
functions_append : (prefix : Text) (k : ℕ) (xs ys : List Existential) → functions_from prefix k (xs ++ ys) ≡ functions_from prefix k xs ++ functions_from prefix (k + length xs) ys
functions_append prefix k [] ys = let same : k ≡ k + 0 = omega arith in ap (λ (n : ℕ). functions_from prefix n ys) same
functions_append prefix k (x ∷ xs) ys =
    let same : k + 1 + length xs ≡ k + suc (length xs) = omega arith in
    ap (λ (l : List Symbol). function_of prefix k x ∷ l) (functions_append prefix (k + 1) xs ys ∙ ap (λ (n : ℕ). functions_from prefix (k + 1) xs ++ functions_from prefix n ys) same)

functions_count : (prefix : Text) (k : ℕ) (xs : List Existential) → length (functions_from prefix k xs) ≡ length xs
functions_count prefix k [] = refl
functions_count prefix k (x ∷ xs) = ap suc (functions_count prefix (k + 1) xs)

-- functions, and those of what is left
abbrev pub with_left : Text → List Symbol → List Existential → List Symbol
with_left prefix functions es = functions ++ functions_from prefix (length functions + 1) es

pub functions_more : (prefix : Text) (old new : List Symbol) (es rest : List Existential) → new ≡ old ++ functions_from prefix (length old + 1) es → with_left prefix new rest ≡ with_left prefix old (es ++ rest)
functions_more prefix old new es rest made =
    let first = functions_from prefix (length old + 1) es in
    let count : length (old ++ functions_from prefix (length old + 1) es) + 1 ≡ length old + 1 + length es = omega (arith, length-append old (functions_from prefix (length old + 1) es), functions_count prefix (length old + 1) es) in
    ap (λ (l : List Symbol). l ++ functions_from prefix (length l + 1) rest) made
    ∙ ap (λ (k : ℕ). (old ++ first) ++ functions_from prefix k rest) count
    ∙ append_assoc old first (functions_from prefix (length old + 1 + length es) rest)
    ∙ ap (λ (l : List Symbol). old ++ l) (sym (functions_append prefix (length old + 1) es rest))

pub functions_one : (prefix : Text) (es : List Existential) (i : ℕ) (e : Existential) (s : Symbol) (place : ℕ) (old new all : List Symbol) → i < length es → e ≡ get_or es i e → place ≡ length old + 1 → s ≡ function_of prefix place e → new ≡ old ++ s ∷ []
    → with_left prefix old (drop i es) ≡ all → with_left prefix new (drop (i + 1) es) ≡ all
functions_one prefix es i e s place old new all lt is at made added so =
    functions_more prefix old new (e ∷ []) (drop (i + 1) es) (added ∙ ap (λ (t : Symbol). old ++ t ∷ []) (made ∙ ap (λ (k : ℕ). function_of prefix k e) at)) ∙ ap (with_left prefix old) (sym (left_at es i e lt is)) ∙ so

-- the existential quantifiers of a part
abbrev pub own : ℕ → Part → List Existential
own k p = p.existentials

pub functions_step : (prefix : Text) (used : List Bool) (parts : List Part) (i : ℕ) (p : Part) (old new all : List Symbol) → length used ≡ length parts → i < length parts → p ≡ get_or parts i p
    → new ≡ old ++ functions_from prefix (length old + 1) (if get_or used i false then p.existentials else []) → with_left prefix old (chosen_from i own (drop i used) (drop i parts)) ≡ all
    → with_left prefix new (chosen_from (i + 1) own (drop (i + 1) used) (drop (i + 1) parts)) ≡ all
functions_step prefix used parts i p old new all same lp is made so =
    functions_more prefix old new (if get_or used i false then p.existentials else []) (chosen_from (i + 1) own (drop (i + 1) used) (drop (i + 1) parts)) made ∙ ap (with_left prefix old) (sym (chosen_left own used parts i p same lp is)) ∙ so

-- at the end
chosen_none : (k : ℕ) (used : List Bool) → chosen_from k own used [] ≡ []
chosen_none k [] = refl
chosen_none k (b ∷ used) = refl

pub functions_end : (prefix : Text) (es : List Existential) (old all : List Symbol) → es ≡ [] → with_left prefix old es ≡ all → old ≡ all
functions_end prefix es old all none so = sym (ap (with_left prefix old) none ∙ append-nil old) ∙ so

pub functions_past : (prefix : Text) (used : List Bool) (parts : List Part) (i : ℕ) (old all : List Symbol) → length parts ≤ i → with_left prefix old (chosen_from i own (drop i used) (drop i parts)) ≡ all → old ≡ all
functions_past prefix used parts i old all past so = functions_end prefix (chosen_from i own (drop i used) (drop i parts)) old all (ap (λ (ps : List Part). chosen_from i own (drop i used) ps) (drop_all i parts past) ∙ chosen_none i (drop i used)) so

-- Numbers.
counts_cons : (p : Part) (parts : List Part) → ex_counts (p ∷ parts) ≡ ex_count_of p + ex_counts parts
counts_cons p parts = sum_cons (ex_count_of p) (map ex_count_of parts)

behind_within : (b : Bool) (next : ℕ) (p : Part) → next_behind next b p ≤ next + ex_count_of p
behind_within true next p = omega arith
behind_within false next p = omega arith

module _ (used : List Bool) (parts : List Part) (i : ℕ) (p : Part) (same : length used ≡ length parts) (lp : i < length parts) (is : p ≡ get_or parts i p) where
  marked : i < length used
  marked = omega (arith, same, lp)

  firsts_left : (next : ℕ) → firsts_from next (drop i used) (drop i parts) ≡ next ∷ firsts_from (next_behind next (get_or used i false) p) (drop (i + 1) used) (drop (i + 1) parts)
  firsts_left next = ap (λ (bs : List Bool). firsts_from next bs (drop i parts)) (drop_more used i false marked) ∙ ap (λ (ps : List Part). firsts_from next (get_or used i false ∷ drop (i + 1) used) ps) (left_at parts i p lp is)

  numbers_left : (next : ℕ) → numbers_from next (drop i used) (drop i parts) ≡ range_with_len next (ex_count_of p) ++ numbers_from (next_behind next (get_or used i false) p) (drop (i + 1) used) (drop (i + 1) parts)
  numbers_left next = ap (λ (bs : List Bool). numbers_from next bs (drop i parts)) (drop_more used i false marked) ∙ ap (λ (ps : List Part). numbers_from next (get_or used i false ∷ drop (i + 1) used) ps) (left_at parts i p lp is)

  pub firsts_step : (next more : ℕ) (old new all : List ℕ) → old ++ firsts_from next (drop i used) (drop i parts) ≡ all → new ≡ old ++ next ∷ [] → more ≡ next_behind next (get_or used i false) p
      → new ++ firsts_from more (drop (i + 1) used) (drop (i + 1) parts) ≡ all
  firsts_step next more old new all so made moved =
      let rest = firsts_from (next_behind next (get_or used i false) p) (drop (i + 1) used) (drop (i + 1) parts) in
      ap (λ (n : ℕ). new ++ firsts_from n (drop (i + 1) used) (drop (i + 1) parts)) moved ∙ ap (λ (ns : List ℕ). ns ++ rest) made ∙ append_assoc old (next ∷ []) rest ∙ ap (λ (ns : List ℕ). old ++ ns) (sym (firsts_left next)) ∙ so

  pub numbers_step : (next more : ℕ) (old new all : List ℕ) → old ++ numbers_from next (drop i used) (drop i parts) ≡ all → new ≡ old ++ range_with_len next (ex_count_of p) → more ≡ next_behind next (get_or used i false) p
      → new ++ numbers_from more (drop (i + 1) used) (drop (i + 1) parts) ≡ all
  numbers_step next more old new all so made moved =
      let rest = numbers_from (next_behind next (get_or used i false) p) (drop (i + 1) used) (drop (i + 1) parts) in
      ap (λ (n : ℕ). new ++ numbers_from n (drop (i + 1) used) (drop (i + 1) parts)) moved ∙ ap (λ (ns : List ℕ). ns ++ rest) made ∙ append_assoc old (range_with_len next (ex_count_of p)) rest
      ∙ ap (λ (ns : List ℕ). old ++ ns) (sym (numbers_left next)) ∙ so

module _ (parts : List Part) (i : ℕ) (p : Part) (lp : i < length parts) (is : p ≡ get_or parts i p) where
  counts_left : ex_counts (drop i parts) ≡ ex_count_of p + ex_counts (drop (i + 1) parts)
  counts_left = ap ex_counts (left_at parts i p lp is) ∙ counts_cons p (drop (i + 1) parts)

  pub room_here : (next most : ℕ) → next + ex_counts (drop i parts) ≤ most → next + ex_count_of p ≤ most
  room_here next most room = omega (arith, counts_left)

  pub room_step : (b : Bool) (next more most : ℕ) → next + ex_counts (drop i parts) ≤ most → more ≡ next_behind next b p → more + ex_counts (drop (i + 1) parts) ≤ most
  room_step b next more most room moved = omega (arith, counts_left, behind_within b next p)

firsts_none : (k : ℕ) (used : List Bool) → firsts_from k used [] ≡ []
firsts_none k [] = refl
firsts_none k (b ∷ used) = refl

numbers_none : (k : ℕ) (used : List Bool) → numbers_from k used [] ≡ []
numbers_none k [] = refl
numbers_none k (b ∷ used) = refl

pub firsts_end : (used : List Bool) (parts : List Part) (i next : ℕ) (old all : List ℕ) → length parts ≤ i → old ++ firsts_from next (drop i used) (drop i parts) ≡ all → old ≡ all
firsts_end used parts i next old all past so =
    sym (ap (λ (ps : List Part). old ++ firsts_from next (drop i used) ps) (drop_all i parts past) ∙ ap (λ (ns : List ℕ). old ++ ns) (firsts_none next (drop i used)) ∙ append-nil old) ∙ so

pub numbers_end : (used : List Bool) (parts : List Part) (i next : ℕ) (old all : List ℕ) → length parts ≤ i → old ++ numbers_from next (drop i used) (drop i parts) ≡ all → old ≡ all
numbers_end used parts i next old all past so =
    sym (ap (λ (ps : List Part). old ++ numbers_from next (drop i used) ps) (drop_all i parts past) ∙ ap (λ (ns : List ℕ). old ++ ns) (numbers_none next (drop i used)) ∙ append-nil old) ∙ so

counts_fit : (parts : List Part) (i : ℕ) (p : Part) → slice_get parts i ≡ Some p → ex_count_of p ≤ ex_counts parts
counts_fit [] i p at = let lt = slice_get_within [] i p at in absurd (omega arith)
counts_fit (q ∷ parts) zero p at = let both : Some q ≡ Some p = at in let same : q ≡ p = cc in omega (arith, ap ex_count_of same, counts_cons q parts)
counts_fit (q ∷ parts) (suc i) p at = omega (arith, counts_fit parts i p at, counts_cons q parts)

-- a run of numbers and one more
range_suc : (a n : ℕ) → range_with_len a (suc n) ≡ range_with_len a n ++ (a + n) ∷ []
range_suc a zero = let e : a ≡ a + 0 = omega arith in ap (λ (x : ℕ). x ∷ []) e
range_suc a (suc n) = let e : a + 1 + n ≡ a + suc n = omega arith in ap (λ (xs : List ℕ). a ∷ xs) (range_suc (a + 1) n ∙ ap (λ (x : ℕ). range_with_len (a + 1) n ++ x ∷ []) e)

pub number_pushed : (a n x : ℕ) (start old new : List ℕ) → old ≡ start ++ range_with_len a n → x ≡ a + n → new ≡ old ++ x ∷ [] → new ≡ start ++ range_with_len a (n + 1)
number_pushed a n x start old new was is made =
    let more : range_with_len a (n + 1) ≡ range_with_len a n ++ (a + n) ∷ [] = rw add-one (range_suc a n) in
    made ∙ ap (λ (l : List ℕ). l ++ x ∷ []) was ∙ append_assoc start (range_with_len a n) (x ∷ []) ∙ ap (λ (y : ℕ). start ++ (range_with_len a n ++ y ∷ [])) is ∙ ap (λ (l : List ℕ). start ++ l) (sym more)

-- a first number leaves room for those of its part
pub firsts_fit : (k : ℕ) (used : List Bool) (parts : List Part) (i : ℕ) (p : Part) → slice_get parts i ≡ Some p → get_or (firsts_from k used parts) i 0 + ex_count_of p ≤ k + ex_counts parts
firsts_fit k used [] i p at = let lt = slice_get_within [] i p at in absurd (omega arith)
firsts_fit k [] (q ∷ parts) i p at = omega (arith, counts_fit (q ∷ parts) i p at)
firsts_fit k (b ∷ used) (q ∷ parts) zero p at = let both : Some q ≡ Some p = at in let same : q ≡ p = cc in omega (arith, ap ex_count_of same, counts_cons q parts)
firsts_fit k (b ∷ used) (q ∷ parts) (suc i) p at = omega (arith, firsts_fit (next_behind k b q) used parts i p at, behind_within b k q, counts_cons q parts)
