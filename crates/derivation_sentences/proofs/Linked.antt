-- The functions of a derivation stand for those of the search: where a part is used, each of its functions has a number
-- among those of the derivation, and one of the same sorts stands there.
use Rattle.std.specs.Prelude.{ℕ, zero, suc, ◌≡◌, ◌+◌, ◌<◌, ◌⊎◌, Bool, true, false, if◌then◌else◌, List, [], ◌∷◌, ◌++◌, length, map, get_or, Some, slice_get, refl}
use Rattle.std.specs.List.{range_with_len}
use Rattle.std.proofs.Common.{ap, sym, subst, ◌∙◌, arith, inl, inr}
use Rattle.std.proofs.lemmas.List.{length-append, map-append, get_or_append_left, get_or-append-add}
use Rattle.fof_terms.specs.declared.signature.Symbol.{Symbol}
use Rattle.clause_form.specs.Norm.{norm_of}
use Rattle.fof_terms.specs.declared.form.Form.{Form}
use Rattle.sort_check.specs.declared.line.GivenEntry.{GivenEntry}
use Rattle.derivation_items.specs.Words.{Text}
use Rattle.step_clauses.specs.Existentials.{existentials}
use Rattle.step_clauses.specs.Inputs.{new_symbols_from, next_behind}
use Rattle.step_clauses.specs.Skolems.{skolem_symbol, skolems_from, skolems_of}
use Rattle.step_clauses.specs.declared.existentials.Existential.{Existential}
use Rattle.step_clauses.specs.declared.skolems.Skolem.{Skolem}
use Rattle.given_parts.specs.Chosen.{chosen_from}
use Rattle.given_parts.specs.Functions.{function_of, functions_from}
use Rattle.given_parts.specs.Numbers.{numbers_from, next_behind as next_number}
use Rattle.given_parts.specs.Parts.{part_of, parts_of}
use Rattle.given_parts.specs.declared.part.Part.{Part}
use Rattle.derivation_sentences.proofs.Alike.{IsLike}

abbrev pub symbols_in : List Skolem → List Symbol
symbols_in ks = map (λ (k : Skolem). k.symbol) ks

abbrev pub forms_in : List GivenEntry → List Form
forms_in given = map (λ (g : GivenEntry). g.form) given

abbrev pub own : ℕ → Part → List Existential
own k p = p.existentials

abbrev pub ex_of : GivenEntry → List Existential
ex_of g = existentials (norm_of true g.form)

-- ---- places in two lists

pub in_front : {X : Type 0} (xs ys : List X) (i : ℕ) (x : X) → slice_get xs i ≡ Some x → slice_get (xs ++ ys) i ≡ Some x
in_front [] ys i x at = absurd (cc)
in_front (y ∷ xs) ys zero x at = at
in_front (y ∷ xs) ys (suc i) x at = in_front xs ys i x at

pub in_back : {X : Type 0} (xs ys : List X) (n j : ℕ) → n ≡ length xs + j → slice_get (xs ++ ys) n ≡ slice_get ys j
in_back [] ys n j is = let same : n ≡ j = omega arith in ap (slice_get ys) same
in_back (x ∷ xs) ys zero j is = absurd (omega arith)
in_back (x ∷ xs) ys (suc n) j is = in_back xs ys n j (omega arith)

range_count : (k n : ℕ) → length (range_with_len k n) ≡ n
range_count k zero = refl
range_count k (suc n) = ap suc (range_count (k + 1) n)

range_at : (k n i : ℕ) → i < n → get_or (range_with_len k n) i 0 ≡ k + i
range_at k zero i lt = absurd (omega arith)
range_at k (suc n) zero lt = omega arith
range_at k (suc n) (suc i) lt = range_at (k + 1) n i (omega arith) ∙ (omega arith)

-- ---- single lists of functions

pub skolem_count : (k : ℕ) (es : List Existential) → length (symbols_in (skolems_from k es)) ≡ length es
skolem_count k [] = refl
skolem_count k (e ∷ es) = ap suc (skolem_count (k + 1) es)

pub skolem_at : (k : ℕ) (es : List Existential) (i : ℕ) (e : Existential) → slice_get es i ≡ Some e → slice_get (symbols_in (skolems_from k es)) i ≡ Some (skolem_symbol (k + i) e)
skolem_at k [] i e at = absurd (cc)
skolem_at k (d ∷ es) zero e at = let same : d ≡ e = cc in let number : k ≡ k + 0 = omega arith in ap (λ (x : Existential). Some (skolem_symbol k x)) same ∙ ap (λ (n : ℕ). Some (skolem_symbol n e)) number
skolem_at k (d ∷ es) (suc i) e at = let number : k + 1 + i ≡ k + suc i = omega arith in skolem_at (k + 1) es i e at ∙ ap (λ (n : ℕ). Some (skolem_symbol n e)) number

pub function_count : (prefix : Text) (m : ℕ) (es : List Existential) → length (functions_from prefix m es) ≡ length es
function_count prefix m [] = refl
function_count prefix m (e ∷ es) = ap suc (function_count prefix (m + 1) es)

function_at : (prefix : Text) (m : ℕ) (es : List Existential) (i : ℕ) (e : Existential) → slice_get es i ≡ Some e → slice_get (functions_from prefix m es) i ≡ Some (function_of prefix (m + i) e)
function_at prefix m [] i e at = absurd (cc)
function_at prefix m (d ∷ es) zero e at = let same : d ≡ e = cc in let number : m ≡ m + 0 = omega arith in ap (λ (x : Existential). Some (function_of prefix m x)) same ∙ ap (λ (n : ℕ). Some (function_of prefix n e)) number
function_at prefix m (d ∷ es) (suc i) e at = let number : m + 1 + i ≡ m + suc i = omega arith in function_at prefix (m + 1) es i e at ∙ ap (λ (n : ℕ). Some (function_of prefix n e)) number

pub functions_both : (prefix : Text) (m : ℕ) (xs ys : List Existential) → functions_from prefix m (xs ++ ys) ≡ functions_from prefix m xs ++ functions_from prefix (m + length xs) ys
functions_both prefix m [] ys = let same : m ≡ m + 0 = omega arith in ap (λ (n : ℕ). functions_from prefix n ys) same
functions_both prefix m (x ∷ xs) ys =
    let same : m + 1 + length xs ≡ m + suc (length xs) = omega arith in
    ap (λ (l : List Symbol). function_of prefix m x ∷ l) (functions_both prefix (m + 1) xs ys ∙ ap (λ (n : ℕ). functions_from prefix (m + 1) xs ++ functions_from prefix n ys) same)

pub element_at : {X : Type 0} (xs : List X) (i : ℕ) → i < length xs → (x : X) × (slice_get xs i ≡ Some x)
element_at [] i lt = absurd (omega arith)
element_at (x ∷ xs) zero lt = (x, refl)
element_at (x ∷ xs) (suc i) lt = element_at xs i (omega arith)

-- ---- places of used parts

-- the place among the functions of all parts is one of a part that is used
abbrev pub IsOwn : List Bool → List GivenEntry → ℕ → Type 0
IsOwn [] given i = ⊥
IsOwn (b ∷ used) [] i = ⊥
IsOwn (b ∷ used) (g ∷ given) i = ((i < length (ex_of g)) × (b ≡ true)) ⊎ ((j : ℕ) × (i ≡ length (ex_of g) + j) × IsOwn used given j)

module _ (prefix : Text) where
  abbrev pub olds : ℕ → List GivenEntry → List Symbol
  olds old given = symbols_in (new_symbols_from old (forms_in given))

  abbrev pub news : ℕ → ℕ → List Bool → List GivenEntry → List Symbol
  news m k used given = functions_from prefix m (chosen_from k own used (parts_of given))

  abbrev pub numbers : ℕ → List Bool → List GivenEntry → List ℕ
  numbers new used given = numbers_from new used (parts_of given)

  -- The function of that place has a number there, and one like it stands behind the first at its number.
  pub record IsLinked (os ns : List Symbol) (new : ℕ) (ks : List ℕ) (i : ℕ) : Type 0 where
    pub old : Symbol
    pub place : ℕ
    pub now : Symbol
    pub there : slice_get os i ≡ Some old
    pub inside : i < length ks
    pub number : get_or ks i 0 ≡ new + place
    pub new_there : slice_get ns place ≡ Some now
    pub like : IsLike old now

  -- in the first part
  linked_first : (g : GivenEntry) (given : List GivenEntry) (used : List Bool) (old new m k i : ℕ) → i < length (ex_of g) → IsLinked (olds old (g ∷ given)) (news m k (true ∷ used) (g ∷ given)) new (numbers new (true ∷ used) (g ∷ given)) i
  linked_first g given used old new m k i lt =
      let at = element_at (ex_of g) i lt in
      let count = length (ex_of g) in
      let rest = numbers (next_number new true (part_of g.form)) used given in
      let whole = length-append (range_with_len new (length (ex_of g))) (numbers (next_number new true (part_of g.form)) used given) in
      let sized = range_count new (length (ex_of g)) in
      let inside : i < length (range_with_len new (length (ex_of g))) = omega (arith, sized, lt) in
      record {
        old = skolem_symbol (old + i) at.0;
        place = i;
        now = function_of prefix (m + i) at.0;
        there =
            ap (λ (l : List Symbol). slice_get l i) (map-append (λ (s : Skolem). s.symbol) (skolems_of (norm_of true g.form) old) (new_symbols_from (next_behind old g.form) (forms_in given)))
            ∙ in_front (symbols_in (skolems_from old (ex_of g))) (symbols_in (new_symbols_from (next_behind old g.form) (forms_in given))) i (skolem_symbol (old + i) at.0) (skolem_at old (ex_of g) i at.0 at.1);
        inside = omega (arith, whole, inside);
        number = get_or_append_left (range_with_len new (length (ex_of g))) rest 0 i inside ∙ range_at new (length (ex_of g)) i lt;
        new_there = function_at prefix m (ex_of g ++ chosen_from (k + 1) own used (parts_of given)) i at.0 (in_front (ex_of g) (chosen_from (k + 1) own used (parts_of given)) i at.0 at.1);
        like = record { kind = refl; args = refl; result = refl };
      }

  -- in a later one
  linked_later : (b : Bool) (g : GivenEntry) (given : List GivenEntry) (used : List Bool) (old new m k i j : ℕ) (count : ℕ) → count ≡ length (if b then ex_of g else []) → i ≡ length (ex_of g) + j
      → IsLinked (olds (next_behind old g.form) given) (news (m + count) (k + 1) used given) (next_number new b (part_of g.form)) (numbers (next_number new b (part_of g.form)) used given) j
      → IsLinked (olds old (g ∷ given)) (news m k (b ∷ used) (g ∷ given)) new (numbers new (b ∷ used) (g ∷ given)) i
  linked_later b g given used old new m k i j count counted is later =
      let first = length (ex_of g) in
      let sized = range_count new (length (ex_of g)) in
      let skolems = skolem_count old (ex_of g) in
      let rest = numbers (next_number new b (part_of g.form)) used given in
      let whole = length-append (range_with_len new (length (ex_of g))) (numbers (next_number new b (part_of g.form)) used given) in
      let chosen_first : List Existential = if b then ex_of g else [] in
      let chosen_rest : List Existential = chosen_from (k + 1) own used (parts_of given) in
      let functions = function_count prefix m (if b then ex_of g else []) in
      let moved : i ≡ length (range_with_len new (length (ex_of g))) + j = omega (arith, sized, is) in
      let next : next_number new b (part_of g.form) ≡ new + count = numbered b counted in
      record {
        old = later.old;
        place = count + later.place;
        now = later.now;
        there =
            ap (λ (l : List Symbol). slice_get l i) (map-append (λ (s : Skolem). s.symbol) (skolems_of (norm_of true g.form) old) (new_symbols_from (next_behind old g.form) (forms_in given)))
            ∙ in_back (symbols_in (skolems_from old (ex_of g))) (symbols_in (new_symbols_from (next_behind old g.form) (forms_in given))) i j (omega (arith, skolems, is)) ∙ later.there;
        inside = omega (arith, whole, later.inside, moved);
        number = ap (λ (n : ℕ). get_or (range_with_len new (length (ex_of g)) ++ rest) n 0) moved ∙ get_or-append-add (range_with_len new (length (ex_of g))) rest j 0 ∙ later.number ∙ (omega (arith, next));
        new_there =
            ap (λ (l : List Symbol). slice_get l (count + later.place)) (functions_both prefix m chosen_first chosen_rest ∙ ap (λ (n : ℕ). functions_from prefix m chosen_first ++ functions_from prefix (m + n) chosen_rest) (sym counted))
            ∙ in_back (functions_from prefix m chosen_first) (functions_from prefix (m + count) chosen_rest) (count + later.place) later.place (omega (arith, functions, counted)) ∙ later.new_there;
        like = later.like;
      }
    where
      numbered : (c : Bool) → count ≡ length (if c then ex_of g else []) → next_number new c (part_of g.form) ≡ new + count
      numbered true e = ap (λ (n : ℕ). new + n) (sym e)
      numbered false e = omega arith

  pub linked : (used : List Bool) (given : List GivenEntry) (old new m k i : ℕ) → IsOwn used given i → IsLinked (olds old given) (news m k used given) new (numbers new used given) i
  linked [] given old new m k i is = absurd is
  linked (b ∷ used) [] old new m k i is = absurd is
  linked (b ∷ used) (g ∷ given) old new m k i is = elim is [
    | inl h ↦ subst (λ (c : Bool). IsLinked (olds old (g ∷ given)) (news m k (c ∷ used) (g ∷ given)) new (numbers new (c ∷ used) (g ∷ given)) i) (sym h.1) (linked_first g given used old new m k i h.0)
    | inr h ↦
        let count = length (if b then ex_of g else []) in
        linked_later b g given used old new m k i h.0 count refl h.1 (linked used given (next_behind old g.form) (next_number new b (part_of g.form)) (m + count) (k + 1) h.0 h.2)
  ]
