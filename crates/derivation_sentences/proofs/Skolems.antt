-- The lines with new functions in place of existential variables are closed and well-sorted.
use Rattle.std.specs.Prelude.{ℕ, zero, suc, ◌≡◌, ◌+◌, Bool, true, false, if◌then◌else◌, List, [], ◌∷◌, ◌++◌, length, get_or, Option, Some, None, slice_get, refl}
use Rattle.std.proofs.Common.{ap, sym, subst, ◌∙◌, arith}
use Rattle.std.proofs.lemmas.List.{append_assoc, length-append}
use Rattle.fof_terms.specs.declared.signature.Symbol.{Symbol}
use Rattle.fof_terms.specs.declared.term.Term.{Var}
use Rattle.fof_terms.specs.SortLaws.{Grows}
use Rattle.fof_terms.specs.Sorts.{is_sorted, sort_of_term}
use Rattle.fof_terms.specs.Vocabulary.{Vocabulary}
use Rattle.fof_terms.proofs.SortLawsFacts.{grown_fits}
use Rattle.fof_terms.proofs.SortsFacts.{sort_of_term-Var}
use Rattle.clause_form.specs.Clauses.{skolemized}
use Rattle.clause_form.specs.Norm.{norm_of}
use Rattle.clause_form.proofs.NormFits.{norm_fits}
use Rattle.clause_rules.specs.Steps.{IsReady}
use Rattle.sort_check.specs.declared.line.GivenEntry.{GivenEntry}
use Rattle.derivation_items.specs.Words.{Text}
use Rattle.step_clauses.specs.Skolems.{skolem_symbol, skolems_from, KnowsFrom}
use Rattle.step_clauses.specs.declared.existentials.Existential.{Existential}
use Rattle.step_clauses.proofs.SkolemSorts.{made_fits}
use Rattle.step_search.proofs.FunctionSorts.{known_between}
use Rattle.given_parts.specs.Chosen.{chosen_from}
use Rattle.given_parts.specs.Functions.{functions_from}
use Rattle.given_parts.specs.Numbers.{firsts_from, next_behind as next_number}
use Rattle.given_parts.specs.Parts.{part_of, parts_of}
use Rattle.derivation_sentences.proofs.Alike.{AreLike, form_alike}
use Rattle.derivation_sentences.proofs.Linked.{ex_of, in_front, own, skolem_count, symbols_in}

-- ---- functions of the derivation under the names that a search gives

skolems_both : (k : ℕ) (xs ys : List Existential) → symbols_in (skolems_from k (xs ++ ys)) ≡ symbols_in (skolems_from k xs) ++ symbols_in (skolems_from (k + length xs) ys)
skolems_both k [] ys = let same : k ≡ k + 0 = omega arith in ap (λ (n : ℕ). symbols_in (skolems_from n ys)) same
skolems_both k (x ∷ xs) ys =
    let same : k + 1 + length xs ≡ k + suc (length xs) = omega arith in
    ap (λ (l : List Symbol). skolem_symbol k x ∷ l) (skolems_both (k + 1) xs ys ∙ ap (λ (n : ℕ). symbols_in (skolems_from (k + 1) xs) ++ symbols_in (skolems_from n ys)) same)

functions_like : (prefix : Text) (m k : ℕ) (es : List Existential) (i : ℕ) → AreLike (slice_get (symbols_in (skolems_from k es)) i) (slice_get (functions_from prefix m es) i)
functions_like prefix m k [] i = tt
functions_like prefix m k (e ∷ es) zero = record { kind = refl; args = refl; result = refl }
functions_like prefix m k (e ∷ es) (suc i) = functions_like prefix (m + 1) (k + 1) es i

itself : (o : Option Symbol) → AreLike o o
itself None = tt
itself (Some s) = record { kind = refl; args = refl; result = refl }

like_behind : (xs as_ bs : List Symbol) → ((i : ℕ) → AreLike (slice_get as_ i) (slice_get bs i)) → (i : ℕ) → AreLike (slice_get (xs ++ as_) i) (slice_get (xs ++ bs) i)
like_behind [] as_ bs like i = like i
like_behind (x ∷ xs) as_ bs like zero = itself (Some x)
like_behind (x ∷ xs) as_ bs like (suc i) = like_behind xs as_ bs like i

-- ---- the functions of a part that is used

knows : (w : Vocabulary) (used : List Bool) (given : List GivenEntry) (k new q : ℕ) (front : List Symbol) (g : GivenEntry) → w.symbols ≡ front ++ symbols_in (skolems_from new (chosen_from k own used (parts_of given))) → length front ≡ new → slice_get used q ≡ Some true → slice_get given q ≡ Some g
    → KnowsFrom w (get_or (firsts_from new used (parts_of given)) q 0) (ex_of g)
knows w [] given k new q front g whole count marked at = absurd (cc)
knows w (b ∷ used) [] k new q front g whole count marked at = absurd (cc)
knows w (b ∷ used) (h ∷ given) k new zero front g whole count marked at =
    let is : b ≡ true = cc in
    let same : h ≡ g = cc in
    let rest : List Existential = chosen_from (k + 1) own used (parts_of given) in
    let first : w.symbols ≡ front ++ (symbols_in (skolems_from new (ex_of h)) ++ symbols_in (skolems_from (new + length (ex_of h)) rest)) =
    whole ∙ ap (λ (c : Bool). front ++ symbols_in (skolems_from new ((if c then ex_of h else []) ++ rest))) is ∙ ap (λ (l : List Symbol). front ++ l) (skolems_both new (ex_of h) rest)
    in
    subst (λ (x : GivenEntry). KnowsFrom w new (ex_of x)) same (known_between w front (symbols_in (skolems_from (new + length (ex_of h)) rest)) new (ex_of h) first count)
knows w (b ∷ used) (h ∷ given) k new (suc q) front g whole count marked at =
    let mine : List Existential = if b then ex_of h else [] in
    let rest : List Existential = chosen_from (k + 1) own used (parts_of given) in
    let moved : new + length mine ≡ next_number new b (part_of h.form) = by b in
    let first : w.symbols ≡ (front ++ symbols_in (skolems_from new mine)) ++ symbols_in (skolems_from (next_number new b (part_of h.form)) rest) =
    whole ∙ ap (λ (l : List Symbol). front ++ l) (skolems_both new mine rest ∙ ap (λ (n : ℕ). symbols_in (skolems_from new mine) ++ symbols_in (skolems_from n rest)) moved) ∙ sym (append_assoc front (symbols_in (skolems_from new mine)) (symbols_in (skolems_from (next_number new b (part_of h.form)) rest)))
    in
    let sized : length (front ++ symbols_in (skolems_from new mine)) ≡ next_number new b (part_of h.form) = length-append front (symbols_in (skolems_from new mine)) ∙ ap (λ (n : ℕ). length front + n) (skolem_count new mine) ∙ ap (λ (n : ℕ). n + length mine) count ∙ moved in
    knows w used given (k + 1) (next_number new b (part_of h.form)) q (front ++ symbols_in (skolems_from new mine)) g first sized marked at
  where
    by : (c : Bool) → new + length (if c then ex_of h else []) ≡ next_number new c (part_of h.form)
    by true = refl
    by false = omega arith

-- ---- the line

no_images : (w : Vocabulary) (k r : ℕ) → slice_get [] k ≡ Some r → sort_of_term w [] (Var k) ≡ Some r
no_images w k r at = sort_of_term-Var w [] k ∙ at

module _ (v : Vocabulary) (given : List GivenEntry) (used : List Bool) (prefix : Text) where
  abbrev pub es : List Existential
  es = chosen_from 0 own used (parts_of given)

  abbrev pub named : Vocabulary
  named = record v { symbols = v.symbols ++ symbols_in (skolems_from (length v.symbols) es) }

  abbrev pub renamed : Vocabulary
  renamed = record v { symbols = v.symbols ++ functions_from prefix 1 es }

  pub named_grows : Grows v named
  named_grows = record { more_sorts = omega arith; same_symbols = λ k s at. in_front v.symbols (symbols_in (skolems_from (length v.symbols) es)) k s at }

  -- the functions of a part that is used are known under these names
  pub part_known : (q : ℕ) (g : GivenEntry) → slice_get used q ≡ Some true → slice_get given q ≡ Some g → KnowsFrom named (get_or (firsts_from (length v.symbols) used (parts_of given)) q 0) (ex_of g)
  part_known q g marked at = knows named used given 0 (length v.symbols) q v.symbols g refl refl marked at

  -- the names alone differ
  pub named_alike : (k : ℕ) → AreLike (slice_get named.symbols k) (slice_get renamed.symbols k)
  named_alike = like_behind v.symbols (symbols_in (skolems_from (length v.symbols) es)) (functions_from prefix 1 es) (functions_like prefix 1 (length v.symbols) es)

  pub skolem_line_fits : (q : ℕ) (g : GivenEntry) → IsReady v g.form → slice_get used q ≡ Some true → slice_get given q ≡ Some g
      → is_sorted (record v { symbols = v.symbols ++ functions_from prefix 1 (chosen_from 0 own used (parts_of given)) }) [] (skolemized (norm_of true g.form) (get_or (firsts_from (length v.symbols) used (parts_of given)) q 0)) ≡ true
  skolem_line_fits q g ready marked at =
      let next = get_or (firsts_from (length v.symbols) used (parts_of given)) q 0 in
      let known = part_known q g marked at in
      let norm_is : is_sorted named [] (norm_of true g.form) ≡ true = grown_fits v named named_grows (norm_of true g.form) [] (norm_fits v g.form true [] ready.fits) in
      let made : is_sorted named [] (skolemized (norm_of true g.form) next) ≡ true = made_fits named (norm_of true g.form) next 0 [] [] [] Var refl refl (record { sorted = no_images named }) known norm_is in
      sym (form_alike named renamed refl named_alike (skolemized (norm_of true g.form) next) []) ∙ made
