-- The sorts of new functions are there, and a vocabulary that has the functions behind its symbols knows them.
use Rattle.std.specs.Prelude.{ℕ, ◌≡◌, ◌+◌, ◌<◌, ◌&&◌, nat_lt, true, List, [], ◌∷◌, ◌++◌, length, map, slice_get}
use Rattle.std.specs.List.{AllByRecursion, list_all}
use Rattle.std.proofs.Common.{ap, sym, ◌∙◌, arith, append_assoc}
use Rattle.std.proofs.lemmas.Bool.Decides.{nat_tests}
use Rattle.std.proofs.lemmas.List.{length-append, length-map, map-append}
use Rattle.std.proofs.lemmas.List.Elements.{All-from_recursion}
use Rattle.fof_terms.proofs.Induction.{form_induction}
use Rattle.fof_terms.proofs.LiftingLaws.{both}
use Rattle.fof_terms.proofs.SortsFacts.{is_sorted-Not, is_sorted-And, is_sorted-Or, is_sorted-Imp, is_sorted-Iff, is_sorted-All, is_sorted-Ex}
use Rattle.fof_terms.specs.Sorts.{SortedTo, is_sorted}
use Rattle.fof_terms.specs.Vocabulary.{Vocabulary, IsDeclared}
use Rattle.fof_terms.specs.declared.form.Form.{Form}
use Rattle.fof_terms.specs.declared.signature.Symbol.{Symbol}
use Rattle.clause_form.proofs.NormFits.{norm_fits}
use Rattle.clause_form.specs.Clauses.{joined_lists}
use Rattle.clause_form.specs.Norm.{norm_of}
use Rattle.step_clauses.proofs.ExistentialsFacts.{existentials_within-Atom, existentials_within-Eq, existentials_within-Not, existentials_within-And, existentials_within-Or, existentials_within-Imp, existentials_within-Iff, existentials_within-All, existentials_within-Ex}
use Rattle.step_clauses.proofs.InputFacts.{skolems_count}
use Rattle.step_clauses.proofs.WaysFacts.{at_seam, one_further}
use Rattle.step_clauses.specs.Existentials.{existentials, existentials_within, ex_count}
use Rattle.step_clauses.specs.Inputs.{next_behind, new_symbols_from}
use Rattle.step_clauses.specs.Skolems.{skolem_symbol, skolems_from, skolems_of, KnowsFrom}
use Rattle.step_clauses.specs.declared.existentials.Existential.{Existential}
use Rattle.step_clauses.specs.declared.skolems.Skolem.{Skolem}
use Rattle.step_search.proofs.ClauseSuits.{each_of_both}
use Rattle.step_search.proofs.Growing.{symbols_in}

less : (a b : ℕ) → nat_lt a b ≡ true → a < b
less a b e = grind (arith, nat_tests)

-- Existential quantifiers of a well-sorted formula.
module _ (v : Vocabulary) where
  abbrev Exists : ℕ → Type 0
  Exists s = s < length v.sorts

  abbrev HasSorts : Existential → Type 0
  HasSorts e = AllByRecursion Exists e.around × Exists e.sort

  abbrev Sorting : Form → Type 0
  Sorting a = (around scope : List ℕ) → AllByRecursion Exists around → is_sorted v scope a ≡ true → AllByRecursion HasSorts (existentials_within a around)

  members_sorted : (as_ : List Form) → AllByRecursion Sorting as_ → (around scope : List ℕ) → AllByRecursion Exists around → list_all (is_sorted v scope) as_ ≡ true
      → AllByRecursion HasSorts (joined_lists (map (λ (a : Form). existentials_within a around) as_))
  members_sorted [] all around scope there e = tt
  members_sorted (a ∷ as_) all around scope there e =
      let parts = both (is_sorted v scope a) (list_all (is_sorted v scope) as_) e in
      each_of_both HasSorts (existentials_within a around) (joined_lists (map (λ (b : Form). existentials_within b around) as_)) (all.0 around scope there parts.0) (members_sorted as_ all.1 around scope there parts.1)

  pair_sorted : (a b : Form) → Sorting a → Sorting b → (around scope : List ℕ) → AllByRecursion Exists around → is_sorted v scope a && is_sorted v scope b ≡ true → AllByRecursion HasSorts (existentials_within a around ++ existentials_within b around)
  pair_sorted a b ih jh around scope there e =
      let parts = both (is_sorted v scope a) (is_sorted v scope b) e in
      each_of_both HasSorts (existentials_within a around) (existentials_within b around) (ih around scope there parts.0) (jh around scope there parts.1)

  sorting : (a : Form) → Sorting a
  sorting = form_induction Sorting (record {
    atom = λ p ts around scope there e. rw existentials_within-Atom tt;
    eq = λ l r around scope there e. rw existentials_within-Eq tt;
    not = λ a ih around scope there e. rw existentials_within-Not (ih around scope there (rw is_sorted-Not at e));
    and = λ as_ all around scope there e. rw existentials_within-And (members_sorted as_ all around scope there (rw is_sorted-And at e));
    or = λ as_ all around scope there e. rw existentials_within-Or (members_sorted as_ all around scope there (rw is_sorted-Or at e));
    imp = λ a b ih jh around scope there e. rw existentials_within-Imp (pair_sorted a b ih jh around scope there (rw is_sorted-Imp at e));
    iff = λ a b ih jh around scope there e. rw existentials_within-Iff (pair_sorted a b ih jh around scope there (rw is_sorted-Iff at e));
    all = λ s a ih around scope there e.
        let parts = both (nat_lt s (length v.sorts)) (is_sorted v (s ∷ scope) a) (rw is_sorted-All at e) in
        rw existentials_within-All (ih (around ++ s ∷ []) (s ∷ scope) (each_of_both Exists around (s ∷ []) there (less s (length v.sorts) parts.0, tt)) parts.1);
    ex = λ s a ih around scope there e.
        let parts = both (nat_lt s (length v.sorts)) (is_sorted v (s ∷ scope) a) (rw is_sorted-Ex at e) in
        rw existentials_within-Ex ((there, less s (length v.sorts) parts.0), ih around (s ∷ scope) there parts.1);
  })

  -- their functions
  abbrev HasDeclared : Skolem → Type 0
  HasDeclared k = IsDeclared (length v.sorts) k.symbol

  skolems_declared : (k : ℕ) (es : List Existential) → AllByRecursion HasSorts es → AllByRecursion HasDeclared (skolems_from k es)
  skolems_declared k [] all = tt
  skolems_declared k (e ∷ es) all = (record { args = All-from_recursion Exists e.around all.0.0; result = all.0.1 }, skolems_declared (k + 1) es all.1)

  pub functions_declared : (next : ℕ) (forms : List Form) → AllByRecursion (SortedTo 1000000000 v []) forms → AllByRecursion HasDeclared (new_symbols_from next forms)
  functions_declared next [] all = tt
  functions_declared next (a ∷ forms) all =
      let norm = norm_of true a in
      each_of_both HasDeclared (skolems_of norm next) (new_symbols_from (next_behind next a) forms)
      (skolems_declared next (existentials norm) (sorting norm [] [] tt (norm_fits v a true [] all.0.fits))) (functions_declared (next_behind next a) forms all.1)

-- Known functions.
pub known_between : (w : Vocabulary) (front back : List Symbol) (k : ℕ) (es : List Existential) → w.symbols ≡ front ++ (symbols_in (skolems_from k es) ++ back) → length front ≡ k → KnowsFrom w k es
known_between w front back k [] e l = tt
known_between w front back k (x ∷ es) e l =
    let rest = symbols_in (skolems_from (k + 1) es) ++ back in
    let count : length (front ++ skolem_symbol k x ∷ []) ≡ k + 1 = rw length-append (omega arith) in (
      ap (λ (symbols : List Symbol). slice_get symbols k) e ∙ at_seam front k (skolem_symbol k x) rest l,
      known_between w (front ++ skolem_symbol k x ∷ []) back (k + 1) es (e ∙ sym (one_further front (skolem_symbol k x) rest)) count,
    )

-- the functions of each of the formulas' normal forms, numbered in turn
abbrev pub KnowsEach : Vocabulary → ℕ → List Form → Type 0
KnowsEach w next [] = Unit {0}
KnowsEach w next (a ∷ forms) = KnowsFrom w next (existentials (norm_of true a)) × KnowsEach w (next_behind next a) forms

pub knows_each : (w : Vocabulary) (front : List Symbol) (next : ℕ) (forms : List Form) → w.symbols ≡ front ++ symbols_in (new_symbols_from next forms) → length front ≡ next → KnowsEach w next forms
knows_each w front next [] e l = tt
knows_each w front next (a ∷ forms) e l =
    let norm = norm_of true a in
    let own = symbols_in (skolems_of norm next) in
    let others = symbols_in (new_symbols_from (next_behind next a) forms) in
    let whole : w.symbols ≡ front ++ (own ++ others) = e ∙ ap (λ (l : List Symbol). front ++ l) (map-append (λ (k : Skolem). k.symbol) (skolems_of norm next) (new_symbols_from (next_behind next a) forms)) in
    let many : length own ≡ ex_count norm = length-map (skolems_of norm next) (λ (k : Skolem). k.symbol) ∙ skolems_count next (existentials norm) in
    let count : length (front ++ own) ≡ next_behind next a = rw length-append (omega arith) in
    (known_between w front others next (existentials norm) whole l, knows_each w (front ++ own) (next_behind next a) forms (whole ∙ sym (append_assoc front own others)) count)

-- How many functions there are.
pub functions_count : (next : ℕ) (a : Form) (forms : List Form) → length (new_symbols_from next (a ∷ forms)) ≡ ex_count (norm_of true a) + length (new_symbols_from (next_behind next a) forms)
functions_count next a forms = length-append (skolems_of (norm_of true a) next) (new_symbols_from (next_behind next a) forms) ∙ ap (λ (n : ℕ). n + length (new_symbols_from (next_behind next a) forms)) (skolems_count next (existentials (norm_of true a)))
