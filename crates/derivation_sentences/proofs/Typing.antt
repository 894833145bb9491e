-- The type lines of a derivation: its sorts are there, and its functions are brought in one behind the other.
use Rattle.std.proofs.Common.{◌≡◌, ℕ, zero, suc, ◌+◌, ◌<◌, ◌≤◌, ◌^◌, ◌==◌, ◌&&◌, Bool, true, false, not, cond, List, [], ◌∷◌, ◌++◌, length, map, drop, slice_get, Option, Some, None, Ok, Err, refl, sym, ◌∙◌, ap, arith, append_assoc, nat_eq, codes}
use Rattle.std.specs.List.{AllByRecursion, list_any}
use Rattle.std.specs.Str.{bytes_eq}
use Rattle.std.specs.Cmp.Lexicographic.{pointwise, bytes_decides}
use Rattle.std.proofs.lemmas.Bool.Decides.{nat_tests}
use Rattle.std.proofs.lemmas.List.{append-nil, length-append}
use Rattle.std.proofs.lemmas.List.Elements.{recursion_from_All}
use Rattle.tptp_base.specs.declared.limit.LimitName.TheVariants.{Symbols}
use Rattle.tptp_base.specs.declared.name.Name.TheVariants as name
use Rattle.tptp_base.specs.declared.surface.SortName.{SortName}
use Rattle.tptp_base.specs.declared.surface.SortName.TheVariants as sort
use Rattle.tptp_base.specs.declared.item.Annotated.{Annotated}
use Rattle.tptp_base.specs.declared.item.Body.TheVariants as body
use Rattle.tptp_base.specs.declared.item.Item.{Item}
use Rattle.tptp_base.specs.declared.item.Lang.TheVariants.{Tff}
use Rattle.tptp_base.specs.declared.item.Role.TheVariants as role
use Rattle.tptp_base.specs.declared.item.Shape.TheVariants as shape
use Rattle.tptp_base.specs.declared.item.Typing.{Typing}
use Rattle.fof_terms.specs.Vocabulary.{IsDeclared, Vocabulary, found_sort, found_symbol, is_kind}
use Rattle.fof_terms.specs.declared.signature.Kind.{Kind}
use Rattle.fof_terms.specs.declared.signature.Kind.TheVariants.{Function}
use Rattle.fof_terms.specs.declared.signature.Symbol.{Symbol}
use Rattle.sort_check.specs.declared.fault.SortFault.{SortFault}
use Rattle.sort_check.specs.declared.fault.SortRule.{SortRule}
use Rattle.sort_check.specs.declared.fault.SortRule.TheVariants.{Limit, Redeclared}
use Rattle.sort_check.specs.Outcomes.{Outcome, and_then, mapped, each}
use Rattle.sort_check.specs.Symbols.{Text, named_sort, with_name}
use Rattle.sort_check.specs.Texts.{Declared, at_line, declared_symbol, declaring, differs, found_or_added, result_kind, result_named, sort_at, symbol_named, symbol_of, type_item, type_lines, typed}
use Rattle.sort_check.proofs.Stepping.{at_ok, then_ok}
use Rattle.prove_out.specs.Unambiguous.{IsUnambiguous}
use Rattle.prove_out.specs.code.Named.{worded}
use Rattle.prove_out.proofs.Finding.{sort_found, sort_named}
use Rattle.derivation_items.specs.Items.{first_place, typing_item, typing_items}
use Rattle.derivation_items.specs.Typings.{function_typing, sort_typing, written_sort, named_sort as word_of}
use Rattle.derivation_items.specs.Words.{numbered_word}
use Rattle.step_clauses.specs.declared.existentials.Existential.{Existential}
use Rattle.given_parts.specs.Functions.{function_of, functions_from}
use Rattle.unambiguous_names.proofs.Names.{with_symbol as one_more}
use Rattle.unambiguous_names.proofs.Fresh.{AreFree, not_found, still_free}

abbrev TypeOutcome : Type 0
TypeOutcome = Outcome SortFault Declared (Unit {0})

-- ---- type lines in turn

abbrev typing_line : ℕ → Typing → Annotated
typing_line k t = record { place = first_place; lang = Tff; name = name.Word (numbered_word (codes "y") k); role = role.Typing; body = body.Typing t; source = None; info = None }

one_typed : (k : ℕ) (t : Typing) (d e : Declared) → typed t.name t.shape d ≡ Ok (tt, e) → type_item (typing_item k t) d ≡ Ok (tt, e)
one_typed k t d e h = ap (λ (o : Outcome SortRule Declared (Unit {0})). at_line (typing_line k t) o) h

pub first_type : (i : Item) (items : List Item) (d e : Declared) → type_item i d ≡ Ok (tt, e) → type_lines (i ∷ items) d ≡ type_lines items e
first_type i items d e h = ap (λ (o : TypeOutcome). and_then o (λ done f. type_lines items f)) h

pub types_both : (xs ys : List Item) (d e : Declared) → type_lines xs d ≡ Ok (tt, e) → type_lines (xs ++ ys) d ≡ type_lines ys e
types_both [] ys d e h = at_ok {E = SortFault} (λ (u : Unit {0}) (f : Declared). type_lines ys d ≡ type_lines ys f) tt tt d e h refl
types_both (x ∷ xs) ys d e h =
    let parts = then_ok (type_item x d) (λ done f. type_lines xs f) tt e h in
    first_type x (xs ++ ys) d parts.1 parts.2 ∙ types_both xs ys parts.1 e parts.3

-- ---- sorts

all_at : {X : Type 0} (P : X → Type 0) (xs : List X) → ((i : ℕ) (x : X) → slice_get xs i ≡ Some x → P x) → AllByRecursion P xs
all_at P [] at = tt
all_at P (x ∷ xs) at = (at 0 x refl, all_at P xs (λ i y e. at (suc i) y e))

behind_first : (sorts : List Text) (i : ℕ) (name : Text) → slice_get (drop 1 sorts) i ≡ Some name → slice_get sorts (suc i) ≡ Some name
behind_first [] i name at = absurd (cc)
behind_first (first ∷ sorts) i name at = at

abbrev IsThere : Vocabulary → Text → Type 0
IsThere v name = (n : ℕ) × (found_sort v name ≡ Some n)

pub sorts_there : (v : Vocabulary) → IsUnambiguous v → AllByRecursion (IsThere v) (drop 1 v.sorts)
sorts_there v u = all_at (IsThere v) (drop 1 v.sorts) (λ i name at. (suc i, sort_found v u i name (behind_first v.sorts i name at)))

sort_typed : (name : Text) (d : Declared) → IsThere d.vocabulary name → typed name shape.Sort d ≡ Ok (tt, d)
sort_typed name d there = ap (λ (o : Option ℕ). declaring d.names (sort_at name o d.vocabulary)) there.1

pub sorts_typed : (names : List Text) (k : ℕ) (d : Declared) → AllByRecursion (IsThere d.vocabulary) names → type_lines (typing_items k (map sort_typing names)) d ≡ Ok (tt, d)
sorts_typed [] k d there = refl
sorts_typed (name ∷ names) k d there =
    first_type (typing_item k (sort_typing name)) (typing_items (k + 1) (map sort_typing names)) d d (one_typed k (sort_typing name) d d (sort_typed name d there.0))
    ∙ sorts_typed names (k + 1) d there.1

-- ---- a function

same_word : (o : Option Text) → word_of o ≡ worded o
same_word (Some name) = refl
same_word None = refl

no_truth : (o : Option Text) → result_kind (word_of o) ≡ Function
no_truth (Some name) = refl
no_truth None = refl

as_result : (s : SortName) (v : Vocabulary) (n : ℕ) → named_sort s v ≡ Ok (n, v) → result_named s v ≡ Ok (n, v)
as_result sort.Individual v n h = h
as_result sort.Truth v n h = absurd (cc)
as_result (sort.Word word) v n h = h

not_of_name : (s t : Symbol) → (t.name ≡ s.name → ⊥) → differs s t ≡ false
not_of_name s t other = by (bytes_eq t.name s.name) refl
  where
    by : (b : Bool) → bytes_eq t.name s.name ≡ b → differs s t ≡ false
    by true is = absurd (other ((bytes_decides t.name s.name).0 is))
    by false is = ap (λ (b : Bool). b && not (is_kind t.kind s.kind && (pointwise nat_eq t.args s.args && t.result == s.result))) is

none_differs : (s : Symbol) (ts : List Symbol) → ((i : ℕ) (t : Symbol) → slice_get ts i ≡ Some t → t.name ≡ s.name → ⊥) → list_any (differs s) ts ≡ false
none_differs s [] other = refl
none_differs s (t ∷ ts) other = rw (not_of_name s t (other 0 t refl), none_differs s ts (λ i x e. other (suc i) x e)) refl

not_full : (n : ℕ) → n < 16777216 → n == 16777216 ≡ false
not_full n lt = grind (arith, nat_tests)

-- The vocabulary v with symbols of its own, and the whole vocabulary, by which sorts are written.
module _ (v : Vocabulary) (whole : List Symbol) where
  abbrev pub over : List Symbol → Vocabulary
  over symbols = record v { symbols = symbols }

  abbrev pub written : ℕ → SortName
  written s = written_sort (over whole) s

  is_function : (s : ℕ) → result_kind (written s) ≡ Function
  is_function zero = refl
  is_function (suc i) = no_truth (slice_get v.sorts (suc i))

  module _ (symbols : List Symbol) (u : IsUnambiguous (over symbols)) where
    named : (s : ℕ) → s < length v.sorts → named_sort (written s) (over symbols) ≡ Ok (s, over symbols)
    named zero lt = refl
    named (suc i) lt = ap (λ (s : SortName). named_sort s (over symbols)) (same_word (slice_get v.sorts (suc i))) ∙ sort_named (over symbols) u (suc i) lt

    all_named : (args : List ℕ) (place : ℕ) → AllByRecursion (λ (a : ℕ). a < length v.sorts) args → each (λ p. named_sort) place (map written args) (over symbols) ≡ Ok (args, over symbols)
    all_named [] place there = refl
    all_named (a ∷ args) place there =
        ap (λ (o : Outcome SortRule Vocabulary ℕ). and_then o (λ y t. mapped (λ ys. y ∷ ys) (each (λ p. named_sort) (place + 1) (map written args) t))) (named a there.0)
        ∙ ap (mapped (λ (ys : List ℕ). a ∷ ys)) (all_named args (place + 1) there.1)

    symbol_is : (s : Symbol) → s.kind ≡ Function → IsDeclared (length v.sorts) s → symbol_named s.name (map written s.args) (written s.result) (over symbols) ≡ Ok (s, over symbols)
    symbol_is s of_kind there =
        ap (λ (o : Outcome SortRule Vocabulary (List ℕ)). and_then o (λ sorts w. mapped (symbol_of s.name (result_kind (written s.result)) sorts) (result_named (written s.result) w)))
        (all_named s.args 0 (recursion_from_All (λ (a : ℕ). a < length v.sorts) s.args there.args))
        ∙ ap (mapped (symbol_of s.name (result_kind (written s.result)) s.args)) (as_result (written s.result) (over symbols) s.result (named s.result there.result))
        ∙ ap (λ (k : Kind). Ok (symbol_of s.name k s.args s.result, over symbols)) (is_function s.result ∙ sym of_kind)

    added : (s : Symbol) → length symbols < 16777216 → ((i : ℕ) (t : Symbol) → slice_get symbols i ≡ Some t → t.name ≡ s.name → ⊥) → found_symbol (over symbols) s.name s.kind (length s.args) ≡ None
        → declared_symbol s (over symbols) ≡ Ok (length symbols, over (symbols ++ s ∷ []))
    added s room other none =
        ap (λ (b : Bool). cond b (Err Redeclared) (found_or_added s (found_symbol (over symbols) s.name s.kind (length s.args)) (over symbols))) (none_differs s symbols other)
        ∙ ap (λ (o : Option ℕ). found_or_added s o (over symbols)) none
        ∙ ap (λ (b : Bool). cond b (Err (Limit Symbols)) (Ok (length symbols, over (symbols ++ s ∷ [])))) (not_full (length symbols) room)

    function_typed : (s : Symbol) (names : List Text) → s.kind ≡ Function → IsDeclared (length v.sorts) s → length symbols < 16777216 → ((i : ℕ) (t : Symbol) → slice_get symbols i ≡ Some t → t.name ≡ s.name → ⊥)
        → found_symbol (over symbols) s.name s.kind (length s.args) ≡ None
        → typed s.name (shape.Symbol (map written s.args) (written s.result)) (record { vocabulary = over symbols; names = names }) ≡ Ok (tt, record { vocabulary = over (symbols ++ s ∷ []); names = with_name s.name names })
    function_typed s names of_kind there room other none =
        ap (λ (o : Outcome SortRule Vocabulary Symbol). declaring (with_name s.name names) (and_then o declared_symbol)) (symbol_is s of_kind there)
        ∙ ap (declaring (with_name s.name names)) (added s room other none)

  -- ---- functions that are numbered behind a free prefix

  module _ (prefix : Text) where
    abbrev Typed : List Symbol → List Symbol → ℕ → List Text → Type 0
    Typed symbols functions j names =
        (new : List Text) × (type_lines (typing_items j (map (function_typing (over whole)) functions)) (record { vocabulary = over symbols; names = names }) ≡ Ok (tt, record { vocabulary = over (symbols ++ functions); names = new }))

    pub functions_typed : (es : List Existential) (symbols : List Symbol) (k j : ℕ) (names : List Text) → k + length es ≤ 2 ^ 64 → length symbols + length es ≤ 16777216 → AreFree prefix (over symbols) k → IsUnambiguous (over symbols)
        → AllByRecursion (IsDeclared (length v.sorts)) (functions_from prefix k es) → Typed symbols (functions_from prefix k es) j names
    functions_typed [] symbols k j names few room free u there =
        (names, ap (λ (more : List Symbol). Ok (tt, record { vocabulary = over more; names = names })) (sym (append-nil symbols)))
    functions_typed (e ∷ es) symbols k j names few room free u there =
        let f : Symbol = function_of prefix k e in
        let rest : List Symbol = functions_from prefix (k + 1) es in
        let below : k < 2 ^ 64 = omega arith in
        let none = not_found prefix (over symbols) k e below free in
        let count : length (symbols ++ f ∷ []) ≡ length symbols + 1 = length-append symbols (f ∷ []) in
        let one = function_typed symbols u (function_of prefix k e) names refl there.0 (omega arith) (λ i t at same. free k i t (omega arith) below at same) none in
        let later = functions_typed es (symbols ++ f ∷ []) (k + 1) (j + 1) (with_name (function_of prefix k e).name names) (omega arith) (omega (arith, count)) (still_free prefix (over symbols) k e below free) (one_more (over symbols) f none u) there.1 in (
          later.0,
          first_type (typing_item j (function_typing (over whole) f)) (typing_items (j + 1) (map (function_typing (over whole)) rest)) (record { vocabulary = over symbols; names = names }) (record { vocabulary = over (symbols ++ f ∷ []); names = with_name (function_of prefix k e).name names })
              (one_typed j (function_typing (over whole) f) (record { vocabulary = over symbols; names = names }) (record { vocabulary = over (symbols ++ f ∷ []); names = with_name (function_of prefix k e).name names }) one)
              ∙ later.1
              ∙ ap (λ (more : List Symbol). Ok (tt, record { vocabulary = over more; names = later.0 })) (append_assoc symbols (f ∷ []) rest),
        )
