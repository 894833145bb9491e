-- The formulas of a step in turn: the numbers of their functions, and their places among the clauses.
use Rattle.std.specs.Prelude.{ℕ, suc, ◌≡◌, ◌+◌, ◌≤◌, Bool, true, List, [], ◌∷◌, ◌++◌, length, map, Some, slice_get, refl}
use Rattle.std.specs.List.{AllByRecursion as Each}
use Rattle.std.proofs.Common.{ap, sym, subst, ◌∙◌, arith, append_assoc, zero}
use Rattle.std.proofs.lemmas.List.{length-append, length-map, map-append}
use Rattle.fof_terms.specs.declared.form.Form.{Form}
use Rattle.fof_terms.specs.declared.signature.Symbol.{Symbol}
use Rattle.fof_terms.specs.Sorts.{SortedTo}
use Rattle.fof_terms.specs.SortLaws.{Grows}
use Rattle.fof_terms.proofs.SortLawsFacts.{grown_sorted}
use Rattle.fof_terms.specs.Vocabulary.{Vocabulary}
use Rattle.clause_form.specs.declared.clause.Clause.{Clause}
use Rattle.clause_form.specs.Clauses.{skolemized, clauses_of}
use Rattle.clause_form.specs.Norm.{norm_of}
use Rattle.clause_form.specs.Sizes.{norm_size_of, clause_count_of}
use Rattle.clause_form.proofs.ClauseCount.{clauses_counted}
use Rattle.skolem_fresh.specs.Choosing.{IsWithin}
use Rattle.skolem_fresh.specs.SkolemRule.{IsSkolemized}
use Rattle.skolem_fresh.proofs.SkolemSteps.{norm_within}
use Rattle.step_clauses.specs.declared.existentials.Existential.{Existential}
use Rattle.step_clauses.specs.declared.skolems.Skolem.{Skolem}
use Rattle.step_clauses.specs.Existentials.{existentials, ex_count}
use Rattle.step_clauses.specs.Inputs.{next_behind, clauses_from, new_symbols_from}
use Rattle.step_clauses.specs.Skolems.{skolem_symbol, skolems_from, skolems_of, uses_of, KnowsFrom}
use Rattle.step_clauses.proofs.InputFacts.{skolems_count}
use Rattle.step_clauses.proofs.Placed.{skolemized_is}
use Rattle.step_clauses.proofs.WaysFacts.{at_seam, one_further}
use Rattle.input_proofs.specs.code.Passed.{MayPass}
use Rattle.input_proofs.proofs.Passed.{number_after}

abbrev pub symbols_of : List Skolem → List Symbol
symbols_of skolems = map (λ (k : Skolem). k.symbol) skolems

-- formulas and others behind them
pub after_both : (next : ℕ) (xs ys : List Form) → number_after next (xs ++ ys) ≡ number_after (number_after next xs) ys
after_both next [] ys = refl
after_both next (x ∷ xs) ys = after_both (next_behind next x) xs ys

pub clauses_both : (next : ℕ) (xs ys : List Form) → clauses_from next (xs ++ ys) ≡ clauses_from next xs ++ clauses_from (number_after next xs) ys
clauses_both next [] ys = refl
clauses_both next (x ∷ xs) ys =
    ap (λ (cs : List Clause). clauses_of x next ++ cs) (clauses_both (next_behind next x) xs ys) ∙ sym (append_assoc (clauses_of x next) (clauses_from (next_behind next x) xs) (clauses_from (number_after (next_behind next x) xs) ys))

symbols_both : (next : ℕ) (xs ys : List Form) → new_symbols_from next (xs ++ ys) ≡ new_symbols_from next xs ++ new_symbols_from (number_after next xs) ys
symbols_both next [] ys = refl
symbols_both next (x ∷ xs) ys =
    ap (λ (ks : List Skolem). skolems_of (norm_of true x) next ++ ks) (symbols_both (next_behind next x) xs ys) ∙ sym (append_assoc (skolems_of (norm_of true x) next) (new_symbols_from (next_behind next x) xs) (new_symbols_from (number_after (next_behind next x) xs) ys))

symbols_count : (next : ℕ) (xs : List Form) → next + length (new_symbols_from next xs) ≡ number_after next xs
symbols_count next [] = omega arith
symbols_count next (x ∷ xs) =
    let own = skolems_count next (existentials (norm_of true x)) in
    let rest = symbols_count (next_behind next x) xs in
    rw (length-append (skolems_of (norm_of true x) next) (new_symbols_from (next_behind next x) xs)) (omega (arith, own, rest))

pub after_more : (next : ℕ) (xs : List Form) → next ≤ number_after next xs
after_more next [] = omega arith
after_more next (x ∷ xs) = let rest = after_more (next_behind next x) xs in omega arith

-- a vocabulary that has the functions behind k symbols knows them
known_from : (w : Vocabulary) (front : List Symbol) (k : ℕ) (es : List Existential) (back : List Symbol) → w.symbols ≡ front ++ (symbols_of (skolems_from k es) ++ back) → length front ≡ k → KnowsFrom w k es
known_from w front k [] back e l = tt
known_from w front k (x ∷ es) back e l =
    let rest = symbols_of (skolems_from (k + 1) es) ++ back in
    let count : length (front ++ skolem_symbol k x ∷ []) ≡ k + 1 = rw length-append (omega arith) in (
      ap (λ (symbols : List Symbol). slice_get symbols k) e ∙ at_seam front k (skolem_symbol k x) rest l,
      known_from w (front ++ skolem_symbol k x ∷ []) (k + 1) es back (e ∙ sym (one_further front (skolem_symbol k x) rest)) count,
    )

in_front : {X : Type 0} (xs ys : List X) (k : ℕ) (x : X) → slice_get xs k ≡ Some x → slice_get (xs ++ ys) k ≡ Some x
in_front [] ys k x e = cc
in_front (y ∷ xs) ys zero x e = e
in_front (y ∷ xs) ys (suc k) x e = in_front xs ys k x e

-- The formulas have normal forms, the vocabulary w has their functions behind the symbols of v, and there is a mark for
-- each of their clauses.
pub record MayOpen (v w : Vocabulary) (forms : List Form) (wanted : List Bool) : Type 0 where
  pub functions : w ≡ record v { symbols = v.symbols ++ symbols_of (new_symbols_from (length v.symbols) forms) }
  pub sorted : Each (SortedTo 1000000000 v []) forms
  pub small : Each (λ (a : Form). norm_size_of a ≤ 100000) forms
  pub room : number_after (length v.symbols) forms ≤ 16777216
  pub few : length (clauses_from (length v.symbols) forms) ≤ 10000
  pub marks : length wanted ≡ length (clauses_from (length v.symbols) forms)

at_member : {X : Type 0} (P : X → Type 0) (xs ys : List X) (x : X) → Each P (xs ++ x ∷ ys) → P x
at_member P [] ys x h = h.0
at_member P (y ∷ xs) ys x h = at_member P xs ys x h.1

pub has_grown : (v w : Vocabulary) (forms : List Form) (wanted : List Bool) → MayOpen v w forms wanted → Grows v w
has_grown v w forms wanted may =
    subst (Grows v) (sym may.functions) (record {
      more_sorts = omega arith;
      same_symbols = λ k s e. in_front v.symbols (symbols_of (new_symbols_from (length v.symbols) forms)) k s e;
    })

module _ (v w : Vocabulary) (forms : List Form) (wanted : List Bool) (may : MayOpen v w forms wanted) (done rest : List Form) (a : Form) (is : forms ≡ done ++ a ∷ rest) where
  abbrev start : ℕ
  start = length v.symbols

  abbrev own_next : ℕ
  own_next = number_after start done

  abbrev own_norm : Form
  own_norm = norm_of true a

  pub own_sorted : SortedTo 1000000000 v [] a
  own_sorted = at_member (SortedTo 1000000000 v []) done rest a (subst (Each (SortedTo 1000000000 v [])) is may.sorted)

  pub own_small : norm_size_of a ≤ 100000
  own_small = at_member (λ (b : Form). norm_size_of b ≤ 100000) done rest a (subst (Each (λ (b : Form). norm_size_of b ≤ 100000)) is may.small)

  pub grown_own : SortedTo 1000000000 w [] a
  grown_own = grown_sorted v w (has_grown v w forms wanted may) 1000000000 [] a own_sorted

  pub norm_in : IsWithin w [] own_norm
  norm_in = norm_within w a own_norm grown_own (record { small = own_small; same = refl })

  own_symbols : w.symbols ≡ (v.symbols ++ symbols_of (new_symbols_from start done)) ++ (symbols_of (skolems_of own_norm own_next) ++ symbols_of (new_symbols_from (next_behind own_next a) rest))
  own_symbols =
      let first = symbols_of (new_symbols_from start done) in
      let own = symbols_of (skolems_of own_norm own_next) in
      let behind = symbols_of (new_symbols_from (next_behind own_next a) rest) in
      let split : new_symbols_from start forms ≡ new_symbols_from start done ++ (skolems_of own_norm own_next ++ new_symbols_from (next_behind own_next a) rest) = ap (new_symbols_from start) is ∙ symbols_both start done (a ∷ rest) in
      let parts : symbols_of (new_symbols_from start forms) ≡ first ++ (own ++ behind) =
      ap symbols_of split ∙ map-append (λ (k : Skolem). k.symbol) (new_symbols_from start done) (skolems_of own_norm own_next ++ new_symbols_from (next_behind own_next a) rest)
      ∙ ap (λ (ss : List Symbol). first ++ ss) (map-append (λ (k : Skolem). k.symbol) (skolems_of own_norm own_next) (new_symbols_from (next_behind own_next a) rest)) in
      ap (λ (u : Vocabulary). u.symbols) may.functions ∙ ap (λ (ss : List Symbol). v.symbols ++ ss) parts ∙ sym (append_assoc v.symbols first (own ++ behind))

  pub own_known : KnowsFrom w own_next (existentials own_norm)
  own_known =
      let first = new_symbols_from start done in
      let count : length (v.symbols ++ symbols_of first) ≡ own_next =
      length-append v.symbols (symbols_of first) ∙ ap (λ (n : ℕ). length v.symbols + n) (length-map first (λ (k : Skolem). k.symbol)) ∙ symbols_count start done in
      known_from w (v.symbols ++ symbols_of first) own_next (existentials own_norm) (symbols_of (new_symbols_from (next_behind own_next a) rest)) own_symbols count

  pub own_skolemized : IsSkolemized w [] (uses_of own_norm own_next) own_norm (skolemized own_norm own_next)
  own_skolemized = skolemized_is w a true own_next own_known norm_in.sorted.fits

  own_room : own_next + ex_count own_norm ≤ 16777216
  own_room =
      let whole : number_after start forms ≡ number_after (next_behind own_next a) rest = ap (number_after start) is ∙ after_both start done (a ∷ rest) in
      let more = after_more (next_behind own_next a) rest in
      omega (arith, may.room, whole, more)

  pub own_count : length (clauses_of a own_next) ≡ clause_count_of own_norm
  own_count = clauses_counted a own_next

  pub own_places : length (clauses_from start forms) ≡ length (clauses_from start done) + (clause_count_of own_norm + length (clauses_from (next_behind own_next a) rest))
  own_places =
      let split : clauses_from start forms ≡ clauses_from start done ++ (clauses_of a own_next ++ clauses_from (next_behind own_next a) rest) = ap (clauses_from start) is ∙ clauses_both start done (a ∷ rest) in
      let outer = length-append (clauses_from start done) (clauses_of a own_next ++ clauses_from (next_behind own_next a) rest) in
      let inner = length-append (clauses_of a own_next) (clauses_from (next_behind own_next a) rest) in
      omega (arith, ap length split, outer, inner, own_count)

  pub may_pass : (next place : ℕ) → next ≡ own_next → place ≡ length (clauses_from start done) → MayPass w a next place wanted
  may_pass next place en ep = record {
    small = own_small;
    sorted = grown_own;
    knows = subst (λ (n : ℕ). KnowsFrom w n (existentials own_norm)) (sym en) own_known;
    numbers = omega (arith, own_room, en);
    few = omega (arith, may.few, own_places);
    room = omega (arith, may.marks, own_places, ep);
  }
