-- Which functions stand in the clauses of given formulas: those of the vocabulary, and those of the clause's own part.
use Rattle.std.specs.Prelude.{ℕ, zero, suc, ◌≡◌, ◌+◌, ◌<◌, ◌⊎◌, ◌||◌, ◌==◌, Bool, true, false, List, [], ◌∷◌, ◌++◌, length, map, get_or, replicate, Option, Some, None, slice_get, refl}
use Rattle.std.specs.List.{AllByRecursion, list_any}
use Rattle.std.proofs.Common.{ap, sym, subst, ◌∙◌, arith, inl, inr}
use Rattle.std.proofs.lemmas.Bool.{eqb-true}
use Rattle.std.proofs.lemmas.List.{append-nil, length-append, length-replicate, get_or_append_left, get_or-append-add}
use Rattle.std.proofs.lemmas.List.Elements.{recursion_from_All}
use Rattle.std.proofs.lemmas.Option.{slice_get_within}
use Rattle.fof_terms.specs.declared.signature.Kind.{Kind}
use Rattle.fof_terms.specs.declared.signature.Kind.TheVariants.{Function, Predicate}
use Rattle.fof_terms.specs.declared.signature.Symbol.{Symbol}
use Rattle.fof_terms.specs.declared.term.Term.{Term}
use Rattle.fof_terms.specs.Occurs.{occurs_in_term}
use Rattle.fof_terms.specs.SortLaws.{Grows}
use Rattle.fof_terms.specs.Sorts.{applied, are_sorts, holds_of, made_by, sort_of_term, stated_by}
use Rattle.fof_terms.specs.Vocabulary.{Vocabulary}
use Rattle.fof_terms.proofs.Induction.{term_induction}
use Rattle.fof_terms.proofs.LiftingLaws.{applied_found, holds_found, one_found}
use Rattle.fof_terms.proofs.OccursFacts.{occurs_in_term-Var, occurs_in_term-App}
use Rattle.fof_terms.proofs.SortsFacts.{sort_of_term-App}
use Rattle.clause_form.specs.declared.clause.AtomOf.{AtomOf}
use Rattle.clause_form.specs.declared.clause.AtomOf.TheVariants.{Pred, Eq, True, False}
use Rattle.clause_form.specs.declared.clause.Lit.{Lit}
use Rattle.clause_form.specs.declared.clause.Clause.{Clause}
use Rattle.clause_form.specs.Clauses.{clauses_of}
use Rattle.clause_form.specs.Covers.{is_sorted_atom, scope_of, AreSorted}
use Rattle.clause_form.specs.Norm.{norm_of}
use Rattle.clause_form.specs.Sizes.{clause_count_of}
use Rattle.clause_form.proofs.ClauseCount.{clauses_counted}
use Rattle.clause_rules.specs.Places.{args_of_atom}
use Rattle.clause_rules.specs.Steps.{IsReady}
use Rattle.sort_check.specs.declared.line.GivenEntry.{GivenEntry}
use Rattle.superpose.specs.Drafts.{IsClause}
use Rattle.step_clauses.specs.Inputs.{clauses_from, next_behind}
use Rattle.step_clauses.specs.Skolems.{skolems_from}
use Rattle.step_clauses.specs.Wide.{is_large}
use Rattle.step_search.proofs.FunctionSorts.{known_between}
use Rattle.step_search.proofs.Inputs.{clauses_are, neither}
use Rattle.given_parts.specs.Owners.{owners_from}
use Rattle.given_parts.specs.Parts.{parts_of}
use Rattle.printed_steps.specs.Carried.{has_function, is_headed_by}
use Rattle.printed_steps.proofs.Terms.{either}
use Rattle.derivation_sentences.proofs.Linked.{ex_of, forms_in, in_front, skolem_count, symbols_in, IsOwn}

-- ---- places

-- what stands in two lists stands in the first or in the second
pub in_either : {X : Type 0} (xs ys : List X) (i : ℕ) (x : X) → slice_get (xs ++ ys) i ≡ Some x → (slice_get xs i ≡ Some x) ⊎ ((j : ℕ) × (i ≡ length xs + j) × (slice_get ys j ≡ Some x))
in_either [] ys i x at = inr (i, omega arith, at)
in_either (y ∷ xs) ys zero x at = inl at
in_either (y ∷ xs) ys (suc i) x at = elim (in_either xs ys i x at) [
  | inl h ↦ inl h
  | inr h ↦ inr (h.0, omega (arith, h.1), h.2)
]

pub one_of_all : {X : Type 0} (P : X → Type 0) (xs : List X) (i : ℕ) (x : X) → AllByRecursion P xs → slice_get xs i ≡ Some x → P x
one_of_all P [] i x all at = absurd (cc)
one_of_all P (y ∷ xs) zero x all at = let same : y ≡ x = cc in subst P same all.0
one_of_all P (y ∷ xs) (suc i) x all at = one_of_all P xs i x all.1 at

-- ---- the symbols of what is well-sorted

abbrev pub Has : Vocabulary → Kind → ℕ → Type 0
Has v kind f = (s : Symbol) × (slice_get v.symbols f ≡ Some s) × (s.kind ≡ kind)

of_function : (k : Kind) (fits : Bool) (x r : ℕ) → made_by k fits x ≡ Some r → k ≡ Function
of_function Function fits x r e = refl
of_function Predicate fits x r e = absurd (cc)

of_predicate : (k : Kind) (fits : Bool) → stated_by k fits ≡ true → k ≡ Predicate
of_predicate Function fits e = absurd (cc)
of_predicate Predicate fits e = refl

module _ (v : Vocabulary) (scope : List ℕ) (f : ℕ) where
  applied_has : (o : Option Symbol) (found : List (Option ℕ)) (r : ℕ) → slice_get v.symbols f ≡ o → applied o found ≡ Some r → Has v Function f
  applied_has None found r is e = absurd (cc)
  applied_has (Some s) found r is e = (s, is, of_function s.kind (are_sorts found s.args) s.result r e)

  holds_has : (o : Option Symbol) (found : List (Option ℕ)) → slice_get v.symbols f ≡ o → holds_of o found ≡ true → Has v Predicate f
  holds_has None found is e = absurd (cc)
  holds_has (Some s) found is e = (s, is, of_predicate s.kind (are_sorts found s.args) e)

  abbrev Found : Term → Type 0
  Found t = (r : ℕ) × (sort_of_term v scope t ≡ Some r)

  abbrev Tells : Term → Type 0
  Tells t = occurs_in_term f t ≡ true → Found t → Has v Function f

  one_tells : (ts : List Term) → AllByRecursion Tells ts → AllByRecursion Found ts → list_any (occurs_in_term f) ts ≡ true → Has v Function f
  one_tells [] all found e = absurd (cc)
  one_tells (t ∷ ts) all found e = elim (either (occurs_in_term f t) (list_any (occurs_in_term f) ts) e) [
    | inl h ↦ all.0 h found.0
    | inr h ↦ one_tells ts all.1 found.1 h
  ]

  term_tells : (t : Term) → Tells t
  term_tells = term_induction Tells (record {
    var = λ k e found. let wrong : true ≡ false = sym e ∙ occurs_in_term-Var f k in absurd (cc);
    app = λ g ts all e found.
        let sorted = sym (sort_of_term-App v scope g ts) ∙ found.1 in
        elim (either (g == f) (list_any (occurs_in_term f) ts) (sym (occurs_in_term-App f g ts) ∙ e)) [
          | inl h ↦ let same : g ≡ f = eqb-true g f h in applied_has (slice_get v.symbols g) (map (sort_of_term v scope) ts) found.0 (ap (slice_get v.symbols) (sym same)) sorted
          | inr h ↦ one_tells ts all (applied_found (sort_of_term v scope) ts (slice_get v.symbols g) found.0 sorted) h
        ];
  })

  all_tell : (ts : List Term) → AllByRecursion Tells ts
  all_tell [] = tt
  all_tell (t ∷ ts) = (term_tells t, all_tell ts)

  args_found : (a : AtomOf) → is_sorted_atom v scope a ≡ true → AllByRecursion Found (args_of_atom a)
  args_found (Pred p ts) e = holds_found (sort_of_term v scope) ts (slice_get v.symbols p) e
  args_found (Eq l r) e = let both = one_found (sort_of_term v scope l) (sort_of_term v scope r) e in (both.0, (both.1, tt))
  args_found True e = tt
  args_found False e = tt

  head_has : (a : AtomOf) → is_sorted_atom v scope a ≡ true → is_headed_by f a ≡ true → Has v Predicate f
  head_has (Pred p ts) e h = let same : p ≡ f = eqb-true p f h in holds_has (slice_get v.symbols p) (map (sort_of_term v scope) ts) (ap (slice_get v.symbols) (sym same)) e
  head_has (Eq l r) e h = absurd (cc)
  head_has True e h = absurd (cc)
  head_has False e h = absurd (cc)

  abbrev Fit : List Lit → Type 0
  Fit lits = AllByRecursion (λ (l : Lit). is_sorted_atom v scope l.atom ≡ true) lits

  lits_have : (lits : List Lit) → Fit lits → has_function lits f ≡ true → Has v Function f
  lits_have [] fit e = absurd (cc)
  lits_have (l ∷ lits) fit e = elim (either (list_any (occurs_in_term f) (args_of_atom l.atom)) (has_function lits f) e) [
    | inl h ↦ one_tells (args_of_atom l.atom) (all_tell (args_of_atom l.atom)) (args_found l.atom fit.0) h
    | inr h ↦ lits_have lits fit.1 h
  ]

  heads_have : (lits : List Lit) → Fit lits → list_any (λ (l : Lit). is_headed_by f l.atom) lits ≡ true → Has v Predicate f
  heads_have [] fit e = absurd (cc)
  heads_have (l ∷ lits) fit e = elim (either (is_headed_by f l.atom) (list_any (λ (k : Lit). is_headed_by f k.atom) lits) e) [
    | inl h ↦ head_has l.atom fit.0 h
    | inr h ↦ heads_have lits fit.1 h
  ]

pub function_is : (v : Vocabulary) (c : Clause) (f : ℕ) → AreSorted v (scope_of c) c.lits → has_function c.lits f ≡ true → Has v Function f
function_is v c f sorted e = lits_have v (scope_of c) f c.lits (recursion_from_All (λ (l : Lit). is_sorted_atom v (scope_of c) l.atom ≡ true) c.lits sorted.fits) e

pub predicate_is : (v : Vocabulary) (c : Clause) (p : ℕ) → AreSorted v (scope_of c) c.lits → list_any (λ (l : Lit). is_headed_by p l.atom) c.lits ≡ true → Has v Predicate p
predicate_is v c p sorted e = heads_have v (scope_of c) p c.lits (recursion_from_All (λ (l : Lit). is_sorted_atom v (scope_of c) l.atom ≡ true) c.lits sorted.fits) e

-- ---- the clauses of one formula, over a vocabulary that has no other function behind its own

abbrev blank : Symbol
blank = record { name = []; kind = Predicate; args = []; result = 0 }

module _ (v : Vocabulary) (g : GivenEntry) (next d : ℕ) (is : next ≡ length v.symbols + d) where
  abbrev between : List Symbol
  between = v.symbols ++ replicate d blank

  abbrev functions : List Symbol
  functions = symbols_in (skolems_from next (ex_of g))

  abbrev alone : Vocabulary
  alone = record v { symbols = between ++ functions }

  between_count : length between ≡ next
  between_count = length-append v.symbols (replicate d blank) ∙ ap (λ (n : ℕ). length v.symbols + n) (length-replicate d blank) ∙ sym is

  alone_grows : Grows v alone
  alone_grows = record {
    more_sorts = omega arith;
    same_symbols = λ k s at. in_front between functions k s (in_front v.symbols (replicate d blank) k s at);
  }

  blanks : (n j : ℕ) (s : Symbol) → slice_get (replicate n blank) j ≡ Some s → s.kind ≡ Predicate
  blanks zero j s at = absurd (cc)
  blanks (suc n) zero s at = let same : blank ≡ s = cc in ap (λ (t : Symbol). t.kind) (sym same)
  blanks (suc n) (suc j) s at = blanks n j s at

  -- a function of that vocabulary
  own_or_old : (f : ℕ) → Has alone Function f → (f < length v.symbols) ⊎ ((j : ℕ) × (f ≡ next + j) × (j < length (ex_of g)))
  own_or_old f has = elim (in_either between functions f has.0 has.1) [
    | inl h ↦ elim (in_either v.symbols (replicate d blank) f has.0 h) [
      | inl k ↦ inl (slice_get_within v.symbols f has.0 k)
      | inr k ↦ let wrong : Predicate ≡ Function = sym (blanks d k.0 has.0 k.2) ∙ has.2 in absurd (cc)
    ]
    | inr h ↦ inr (h.0, h.1 ∙ ap (λ (n : ℕ). n + h.0) between_count, omega (arith, slice_get_within functions h.0 has.0 h.2, skolem_count next (ex_of g)))
  ]

  pub clause_functions : IsReady v g.form → is_large g.form ≡ false → (i : ℕ) (c : Clause) → slice_get (clauses_of g.form next) i ≡ Some c → (f : ℕ) → has_function c.lits f ≡ true → (f < length v.symbols) ⊎ ((j : ℕ) × (f ≡ next + j) × (j < length (ex_of g)))
  clause_functions ready small i c at f e =
      let whole : alone.symbols ≡ between ++ (functions ++ []) = ap (λ (l : List Symbol). between ++ l) (sym (append-nil functions)) in
      let knows = known_between alone between [] next (ex_of g) whole between_count in
      let fit = clauses_are v alone alone_grows next (g.form ∷ []) (ready, tt) (ap (λ (b : Bool). b || false) small) (knows, tt) in
      let one : IsClause alone c = one_of_all (IsClause alone) (clauses_of g.form next ++ []) i c fit (in_front (clauses_of g.form next) [] i c at) in
      own_or_old f (function_is alone c f one.fit.sorted e)

-- ---- the clauses of all

module _ (v : Vocabulary) where
  pub input_functions : (given : List GivenEntry) (used : List Bool) (next k i d : ℕ) (c : Clause) → next ≡ length v.symbols + d → length used ≡ length given → AllByRecursion (λ (g : GivenEntry). IsReady v g.form) given → list_any is_large (forms_in given) ≡ false
      → slice_get (clauses_from next (forms_in given)) i ≡ Some c → ((q : ℕ) → get_or (owners_from k (parts_of given)) i 0 ≡ k + q → slice_get used q ≡ Some true) → (f : ℕ) → has_function c.lits f ≡ true
      → (f < length v.symbols) ⊎ ((j : ℕ) × (f ≡ next + j) × IsOwn used given j)
  input_functions [] used next k i d c is same ready small at owned f e = absurd (cc)
  input_functions (g ∷ given) [] next k i d c is same ready small at owned f e = absurd (omega arith)
  input_functions (g ∷ given) (b ∷ used) next k i d c is same ready small at owned f e =
      let sizes = neither (is_large g.form) (list_any is_large (forms_in given)) small in
      let others = owners_from (k + 1) (parts_of given) in
      let mine = replicate (clause_count_of (norm_of true g.form)) k in
      let counted = clauses_counted g.form next in
      let many = length-replicate (clause_count_of (norm_of true g.form)) k in
      elim (in_either (clauses_of g.form next) (clauses_from (next_behind next g.form) (forms_in given)) i c at) [
        | inl h ↦
            let inside : i < clause_count_of (norm_of true g.form) = omega (arith, slice_get_within (clauses_of g.form next) i c h, counted) in
            let first : get_or (mine ++ others) i 0 ≡ k + 0 = get_or_append_left mine others 0 i (omega (arith, many, inside)) ∙ same_owner (clause_count_of (norm_of true g.form)) k i inside ∙ (omega arith) in
            let marked : Some b ≡ Some true = owned 0 first in
            let is_used : b ≡ true = cc in
            elim (clause_functions v g next d is ready.0 sizes.0 i c h f e) [
              | inl old ↦ inl old
              | inr new ↦ inr (new.0, new.1, inl (new.2, is_used))
            ]
        | inr h ↦
            let place : i ≡ length mine + h.0 = omega (arith, h.1, counted, many) in
            let behind : get_or (mine ++ others) i 0 ≡ get_or others h.0 0 = ap (λ (n : ℕ). get_or (mine ++ others) n 0) place ∙ get_or-append-add mine others h.0 0 in
            let later = input_functions given used (next_behind next g.form) (k + 1) h.0 (d + length (ex_of g)) c (omega (arith, is)) (omega (arith, same)) ready.1 sizes.1 h.2 (λ q at_q. owned (suc q) (behind ∙ at_q ∙ (omega arith))) f e in
            elim later [
              | inl old ↦ inl old
              | inr new ↦ inr (length (ex_of g) + new.0, new.1 ∙ (omega arith), inr (new.0, refl, new.2))
            ]
      ]
    where
      same_owner : (n k i : ℕ) → i < n → get_or (replicate n k) i 0 ≡ k
      same_owner zero k i lt = absurd (omega arith)
      same_owner (suc n) k zero lt = refl
      same_owner (suc n) k (suc i) lt = same_owner n k i (omega arith)
