-- The functions of a derivation have names that no symbol of the vocabulary has, each its own.
use Rattle.std.proofs.Common.{◌≡◌, ℕ, zero, suc, ◌+◌, ◌<◌, ◌≤◌, ◌^◌, ◌||◌, ◌&&◌, ◌==◌, Bool, true, false, List, [], ◌∷◌, ◌++◌, length, map, take, slice_get, Option, Some, None, refl, sym, ◌∙◌, ap, subst, arith, inl, inr, append_assoc, get_or, nat_eq}
use Rattle.std.specs.List.{list_any}
use Rattle.std.specs.Prelude.{decimal}
use Rattle.std.specs.Str.{bytes_eq}
use Rattle.std.specs.Cmp.Lexicographic.{pointwise, bytes_decides}
use Rattle.std.proofs.Math.Seq.{take-append_seam}
use Rattle.std.proofs.lemmas.Fmt.{decimal_injective}
use Rattle.std.proofs.lemmas.List.{append_cancel_left, append-nil}
use Rattle.std.proofs.lemmas.List.Quantifiers.{position-Some}
use Rattle.std.proofs.lemmas.Option.{slice_get-get_or}
use Rattle.fof_terms.specs.Vocabulary.{Vocabulary, found_symbol, is_kind, is_symbol}
use Rattle.fof_terms.specs.declared.signature.Kind.TheVariants.{Function}
use Rattle.fof_terms.specs.declared.signature.Symbol.{Symbol}
use Rattle.fof_terms.proofs.LiftingLaws.{both}
use Rattle.sort_check.specs.Symbols.{Text}
use Rattle.prove_out.specs.Unambiguous.{IsUnambiguous}
use Rattle.derivation_items.specs.Words.{numbered_word}
use Rattle.printed_clauses.specs.Prefixes.{begins_with, is_taken}
use Rattle.step_clauses.specs.declared.existentials.Existential.{Existential}
use Rattle.given_parts.specs.Functions.{function_of, functions_from}
use Rattle.unambiguous_names.proofs.Steps.{and_symbol}
use Rattle.unambiguous_names.proofs.Names.{before_or_last, with_symbol}

first_false : (a b : Bool) → (a || b) ≡ false → a ≡ false
first_false false b e = refl
first_false true b e = e

rest_false : (a b : Bool) → (a || b) ≡ false → b ≡ false
rest_false false b e = e
rest_false true b e = absurd (cc)

front_of : {X : Type 0} (p : X → Bool) (xs ys : List X) → list_any p (xs ++ ys) ≡ false → list_any p xs ≡ false
front_of p [] ys none = refl
front_of p (x ∷ xs) ys none = rw (first_false (p x) (list_any p (xs ++ ys)) none, front_of p xs ys (rest_false (p x) (list_any p (xs ++ ys)) none)) refl

none_at : {X Y : Type 0} (p : Y → Bool) (f : X → Y) (xs : List X) (i : ℕ) (x : X) → list_any p (map f xs) ≡ false → slice_get xs i ≡ Some x → p (f x) ≡ false
none_at p f [] i x none at = absurd (cc)
none_at p f (y ∷ xs) zero x none at = let same : y ≡ x = cc in ap (λ z. p (f z)) (sym same) ∙ first_false (p (f y)) (list_any p (map f xs)) none
none_at p f (y ∷ xs) (suc i) x none at = none_at p f xs i x (rest_false (p (f y)) (list_any p (map f xs)) none) at

-- ---- names behind a prefix

module _ (prefix : Text) where
  -- no symbol has the name of a number from k on
  abbrev pub AreFree : Vocabulary → ℕ → Type 0
  AreFree v k = (j i : ℕ) (s : Symbol) → k ≤ j → j < 2 ^ 64 → slice_get v.symbols i ≡ Some s → s.name ≡ numbered_word prefix j → ⊥

  pub free_from : (v : Vocabulary) (k : ℕ) → is_taken v prefix ≡ false → AreFree v k
  free_from v k free j i s from few at named =
      let none = none_at (begins_with prefix) (λ (t : Symbol). t.name) v.symbols i s (front_of (begins_with prefix) (map (λ (t : Symbol). t.name) v.symbols) v.sorts free) at in
      let begins : bytes_eq (take (length prefix) (prefix ++ decimal j)) prefix ≡ true = (bytes_decides (take (length prefix) (prefix ++ decimal j)) prefix).1 (take-append_seam prefix (decimal j)) in
      let wrong : true ≡ false = sym begins ∙ ap (begins_with prefix) (sym named) ∙ none in
      cc

  -- so none is found of a new function's name
  pub not_found : (v : Vocabulary) (k : ℕ) (e : Existential) → k < 2 ^ 64 → AreFree v k → found_symbol v (numbered_word prefix k) Function (length e.around) ≡ None
  not_found v k e few free = by (found_symbol v (numbered_word prefix k) Function (length e.around)) refl
    where
      by : (o : Option ℕ) → found_symbol v (numbered_word prefix k) Function (length e.around) ≡ o → o ≡ None
      by None is = refl
      by (Some i) is =
          let f = function_of prefix k e in
          let told = position-Some (is_symbol (numbered_word prefix k) Function (length e.around)) v.symbols i f is in
          let t : Symbol = get_or v.symbols i f in
          let named : t.name ≡ numbered_word prefix k = (bytes_decides t.name (numbered_word prefix k)).0 (both (pointwise nat_eq t.name (numbered_word prefix k)) (is_kind t.kind Function && (length t.args == length e.around)) told.1).0 in
          absurd (free k i t (omega arith) few (slice_get-get_or v.symbols i f told.0) named)

  -- with that function the names of the numbers behind are free
  pub still_free : (v : Vocabulary) (k : ℕ) (e : Existential) → k < 2 ^ 64 → AreFree v k → AreFree (and_symbol v (function_of prefix k e)) (k + 1)
  still_free v k e few free j i s from below at named = elim (before_or_last v.symbols (function_of prefix k e) i s at) [
    | inl h ↦ free j i s (omega arith) below h named
    | inr h ↦
        let same : numbered_word prefix k ≡ numbered_word prefix j = sym (ap (λ (t : Symbol). t.name) h.1) ∙ named in
        let number : k ≡ j = decimal_injective k j few below (append_cancel_left prefix (decimal k) (decimal j) same) in
        absurd (omega arith)
  ]

  pub functions_keep : (es : List Existential) (v : Vocabulary) (k : ℕ) → k + length es ≤ 2 ^ 64 → AreFree v k → IsUnambiguous v → IsUnambiguous (record v { symbols = v.symbols ++ functions_from prefix k es })
  functions_keep [] v k few free u = subst (λ (symbols : List Symbol). IsUnambiguous (record v { symbols = symbols })) (sym (append-nil v.symbols)) u
  functions_keep (e ∷ es) v k few free u =
      let f = function_of prefix k e in
      let below : k < 2 ^ 64 = omega arith in
      let one = with_symbol v f (not_found v k e below free) u in
      let rest = functions_keep es (and_symbol v f) (k + 1) (omega arith) (still_free v k e below free) one in
      subst (λ (symbols : List Symbol). IsUnambiguous (record v { symbols = symbols })) (append_assoc v.symbols (f ∷ []) (functions_from prefix (k + 1) es)) rest
