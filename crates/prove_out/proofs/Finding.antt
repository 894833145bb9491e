-- In a vocabulary whose names say what they mean, each symbol and each sort is found by its name.
use Rattle.std.proofs.Common.{◌≡◌, ℕ, zero, suc, ◌+◌, ◌<◌, ◌==◌, not, Bool, true, false, cond, List, [], ◌∷◌, length, drop, get_or, slice_get, position, nat_eq, Option, Some, None, Ok, refl, sym, ◌∙◌, ap, arith}
use Rattle.std.specs.Prelude.{◌&&◌}
use Rattle.std.specs.List.{position_or_len}
use Rattle.std.specs.Option.{option_map}
use Rattle.std.specs.Cmp.Lexicographic.{pointwise, bytes_decides}
use Rattle.std.proofs.lemmas.Bool.{lt-ltb}
use Rattle.std.proofs.lemmas.Bool.Decides.{nat_tests}
use Rattle.std.proofs.lemmas.List.Quantifiers.{position-Some}
use Rattle.std.proofs.lemmas.Option.{slice_get-get_or}
use Rattle.fof_terms.specs.Vocabulary.{Vocabulary, is_kind, is_symbol, found_symbol, found_sort}
use Rattle.fof_terms.specs.declared.signature.Symbol.{Symbol}
use Rattle.fof_terms.specs.declared.signature.Kind.{Kind}
use Rattle.fof_terms.specs.declared.signature.Kind.TheVariants.{Function, Predicate}
use Rattle.fof_terms.proofs.LiftingLaws.{both}
use Rattle.sort_check.specs.Symbols.{Text, head, head_at, known, named_sort}
use Rattle.prove_out.specs.Unambiguous.{IsUnambiguous}
use Rattle.prove_out.specs.code.Named.{sort_written, worded}

-- ---- the first that passes

-- where one passes, the first one is in the list
inside : {X : Type 0} (p : X → Bool) (xs : List X) (i : ℕ) (x : X) → slice_get xs i ≡ Some x → p x ≡ true → position_or_len p xs < length xs
inside p [] i x at passes = absurd (cc)
inside {X = X} p (y ∷ xs) i x at passes = by (λ j here. inside p xs j x here passes) (p y) refl
  where
    step : (b : Bool) → p y ≡ b → position_or_len p (y ∷ xs) ≡ cond (not b) (1 + position_or_len p xs) 0
    step b e = ap (λ t. cond (not t) (1 + position_or_len p xs) 0) e

    rest : ((j : ℕ) → slice_get xs j ≡ Some x → position_or_len p xs < length xs) → (j : ℕ) → slice_get (y ∷ xs) j ≡ Some x → p y ≡ false → position_or_len p xs < length xs
    rest later zero here fails =
        let same : y ≡ x = cc in
        let wrong : true ≡ false = sym passes ∙ (ap p (sym same) ∙ fails) in
        absurd (cc)
    rest later (suc j) here fails = later j here

    by : ((j : ℕ) → slice_get xs j ≡ Some x → position_or_len p xs < length xs) → (b : Bool) → p y ≡ b → position_or_len p (y ∷ xs) < suc (length xs)
    by later true e = omega (arith, step true e)
    by later false e = omega (arith, step false e, rest later i at e)

-- The first that passes is there, and passes.
pub record IsFirst {X : Type 0} (p : X → Bool) (xs : List X) : Type 0 where
  pub place : ℕ
  pub element : X
  pub found : position p xs ≡ Some place
  pub at : slice_get xs place ≡ Some element
  pub passes : p element ≡ true

pub first : {X : Type 0} (p : X → Bool) (xs : List X) (i : ℕ) (x : X) → slice_get xs i ≡ Some x → p x ≡ true → IsFirst p xs
first {X = X} p xs i x at passes =
    let lt : position_or_len p xs < length xs = inside p xs i x at passes in
    let found : position p xs ≡ Some (position_or_len p xs) = ap (λ c. cond c (Some (position_or_len p xs)) None) (lt-ltb (position_or_len p xs) (length xs) lt) in
    record {
      place = position_or_len p xs;
      element = get_or xs (position_or_len p xs) x;
      found = found;
      at = slice_get-get_or xs (position_or_len p xs) x lt;
      passes = (position-Some p xs (position_or_len p xs) x found).1;
    }

-- ---- symbols

own_kind : (k : Kind) → is_kind k k ≡ true
own_kind Function = refl
own_kind Predicate = refl

one_kind : (a b : Kind) → is_kind a b ≡ true → a ≡ b
one_kind Function Function e = refl
one_kind Function Predicate e = absurd (cc)
one_kind Predicate Function e = absurd (cc)
one_kind Predicate Predicate e = refl

own_count : (n : ℕ) → n == n ≡ true
own_count n = grind (arith, nat_tests)

one_count : (a b : ℕ) → a == b ≡ true → a ≡ b
one_count a b e = grind (arith, nat_tests)

own : (s : Symbol) → is_symbol s.name s.kind (length s.args) s ≡ true
own s = rw ((bytes_decides s.name s.name).1 refl, own_kind s.kind, own_count (length s.args)) refl

-- a symbol that is there
pub symbol_found : (v : Vocabulary) → IsUnambiguous v → (i : ℕ) (s : Symbol) → slice_get v.symbols i ≡ Some s → found_symbol v s.name s.kind (length s.args) ≡ Some i
symbol_found v u i s at =
    let f = first (is_symbol s.name s.kind (length s.args)) v.symbols i s at (own s) in
    let t = f.element in
    let one = both (pointwise nat_eq t.name s.name) (is_kind t.kind s.kind && (length t.args == length s.args)) f.passes in
    let two = both (is_kind t.kind s.kind) (length t.args == length s.args) one.1 in
    let same : f.place ≡ i = u.symbols f.place i t s f.at at ((bytes_decides t.name s.name).0 one.0) (one_kind t.kind s.kind two.0) (one_count (length t.args) (length s.args) two.1) in
    f.found ∙ ap Some same

-- the head of that name is the symbol
pub head_found : (v : Vocabulary) → IsUnambiguous v → (declared : List Text) (name : Text) (kind : Kind) (arity : ℕ) (new : Symbol) (i : ℕ) (s : Symbol) → slice_get v.symbols i ≡ Some s → name ≡ s.name → kind ≡ s.kind → arity ≡ length s.args
    → head declared name kind arity new v ≡ Ok (i, v)
unfolding head
head_found v u declared name kind arity new i s at named of_kind args =
    let found : found_symbol v name kind arity ≡ Some i = rw (named, of_kind, args) (symbol_found v u i s at) in
    ap (λ o. head_at declared name new o v) found

-- ---- sorts

behind : (sorts : List Text) (i : ℕ) (name : Text) → slice_get sorts (suc i) ≡ Some name → slice_get (drop 1 sorts) i ≡ Some name
behind [] i name at = absurd (cc)
behind (first ∷ sorts) i name at = at

before : (sorts : List Text) (i : ℕ) (name : Text) → slice_get (drop 1 sorts) i ≡ Some name → slice_get sorts (suc i) ≡ Some name
before [] i name at = absurd (cc)
before (first ∷ sorts) i name at = at

-- a sort that is there
pub sort_found : (v : Vocabulary) → IsUnambiguous v → (i : ℕ) (name : Text) → slice_get v.sorts (suc i) ≡ Some name → found_sort v name ≡ Some (suc i)
sort_found v u i name at =
    let f = first (λ sort. pointwise nat_eq sort name) (drop 1 v.sorts) i name (behind v.sorts i name at) ((bytes_decides name name).1 refl) in
    let named : f.element ≡ name = (bytes_decides f.element name).0 f.passes in
    let there : slice_get v.sorts (suc f.place) ≡ Some name = before v.sorts f.place f.element f.at ∙ ap Some named in
    let same : suc f.place ≡ suc i = u.sorts (suc f.place) (suc i) name (omega arith) (omega arith) there at in
    let next : f.place + 1 ≡ suc i = omega (arith, same) in
    ap (option_map (λ n. n + 1)) f.found ∙ ap Some next

-- what is written of a sort that is there names it
pub sort_named : (v : Vocabulary) → IsUnambiguous v → (sort : ℕ) → sort < length v.sorts → named_sort (sort_written sort (slice_get v.sorts sort)) v ≡ Ok (sort, v)
sort_named v u zero lt = refl
sort_named v u (suc i) lt = by (slice_get v.sorts (suc i)) refl
  where
    there : (o : Option Text) → slice_get v.sorts (suc i) ≡ o → o ≡ None → ⊥
    there o is none = let past = slice_get-get_or v.sorts (suc i) [] lt in let wrong : None ≡ Some (get_or v.sorts (suc i) []) = sym none ∙ (sym is ∙ past) in cc

    by : (o : Option Text) → slice_get v.sorts (suc i) ≡ o → named_sort (worded o) v ≡ Ok (suc i, v)
    by None none = absurd (there None none refl)
    by (Some name) at = ap (λ o. known o v) (sort_found v u i name at)
