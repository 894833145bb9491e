-- The clauses of a step, as code makes them of normal forms.
use Rattle.std.specs.Prelude.{ℕ, ◌≡◌, ◌+◌, ◌-◌, ◌^◌, ◌≤◌, ◌<◌, nat_lt, min, ◌||◌, Bool, true, false, if◌then◌else◌, List, [], ◌∷◌, ◌++◌, length, map, sum, drop, get_or, Some, refl}
use Rattle.std.specs.List.{All, AllByRecursion, list_any}
use Rattle.std.proofs.Common.{ap, sym, subst, ◌∙◌, inl, inr, arith, suc, append_assoc, add-one}
use Rattle.std.proofs.lemmas.Bool.Decides.{nat_tests}
use Rattle.std.proofs.lemmas.List.{append-nil, length-append}
use Rattle.std.proofs.Math.Seq.{drop-cons}
use Rattle.fof_terms.specs.Sorts.{SortedTo, binder_depth}
use Rattle.fof_terms.proofs.SortsFacts.{binder_depth-Not, is_sorted-Not}
use Rattle.fof_terms.proofs.LiftingLaws.{below_or_above}
use Rattle.fof_terms.specs.Vocabulary.{Vocabulary}
use Rattle.fof_terms.specs.declared.form.Form.{Form, Not}
use Rattle.clause_form.specs.declared.clause.Clause.{Clause}
use Rattle.clause_form.specs.declared.path.Parent.{Parent}
use Rattle.clause_form.specs.Norm.{norm_of}
use Rattle.clause_form.proofs.NormFacts.{norm_of-Not}
use Rattle.clause_form.proofs.NormFits.{norm_fits}
use Rattle.clause_form.proofs.NormSize.{norm_small}
use Rattle.clause_form.specs.Clauses.{clauses_of}
use Rattle.clause_form.proofs.ClauseCount.{clauses_counted}
use Rattle.clause_form.specs.Paths.{forms_of}
use Rattle.clause_form.specs.Sizes.{norm_size_of, clause_count_of}
use Rattle.clause_form.proofs.SizesFacts.{norm_size_of-Not}
use Rattle.clause_form.proofs.SizeLaws.{sum_cons}
use Rattle.step_clauses.specs.declared.existentials.Existential.{Existential}
use Rattle.step_clauses.specs.declared.skolems.Skolem.{Skolem}
use Rattle.step_clauses.specs.declared.clausal.Clausal.{Clausal}
use Rattle.step_clauses.specs.Existentials.{existentials, ex_count}
use Rattle.step_clauses.specs.Skolems.{skolems_from, skolems_of}
use Rattle.step_clauses.specs.Inputs.{clauses_from, new_symbols_from, step_forms, search_input}
use Rattle.step_clauses.specs.Wide.{is_large, is_heavy, is_wide}
use Rattle.step_clauses.specs.Room.{AreBelow, HasRoom, wanted}
use Rattle.step_clauses.specs.code.InTurn.{IsClausable, AreClausable, IsInput, norm_clauses, clauses_in_turn, symbols_in_turn}

pub skolems_count : (k : ℕ) (es : List Existential) → length (skolems_from k es) ≡ length es
skolems_count k [] = refl
skolems_count k (e ∷ es) = ap suc (skolems_count (k + 1) es)

-- Formulas and their normal forms.
abbrev norms_of : List Form → List Form
norms_of forms = map (norm_of true) forms

pub same_clauses : (next : ℕ) (forms : List Form) → clauses_in_turn next (norms_of forms) ≡ clauses_from next forms
same_clauses next [] = refl
same_clauses next (a ∷ forms) = ap (λ (rest : List Clause). clauses_of a next ++ rest) (same_clauses (next + ex_count (norm_of true a)) forms)

pub same_symbols : (next : ℕ) (forms : List Form) → symbols_in_turn next (norms_of forms) ≡ new_symbols_from next forms
same_symbols next [] = refl
same_symbols next (a ∷ forms) = ap (λ (rest : List Skolem). skolems_of (norm_of true a) next ++ rest) (same_symbols (next + ex_count (norm_of true a)) forms)

pub clauses_total : (next : ℕ) (forms : List Form) → length (clauses_from next forms) ≡ sum (map clause_count_of (norms_of forms))
clauses_total next [] = refl
clauses_total next (a ∷ forms) =
    let first = clauses_counted a next in
    let rest = clauses_total (next + ex_count (norm_of true a)) forms in
    let whole = sum_cons (clause_count_of (norm_of true a)) (map clause_count_of (norms_of forms)) in
    rw (length-append (clauses_of a next) (clauses_from (next + ex_count (norm_of true a)) forms)) (omega (arith, first, rest, whole))

-- Large formulas.
neither : (a b : Bool) → (a || b) ≡ false → (a ≡ false) × (b ≡ false)
neither true b e = cc
neither false b e = (refl, e)

pub not_above : (n : ℕ) → (100000 < n → ⊥) → n ≤ 100000
not_above n never = elim (below_or_above 100000 n) [
  | inl h ↦ absurd (never h)
  | inr h ↦ h
]

pub not_large : (a : Form) → is_large a ≡ false → norm_size_of a ≤ 100000
not_large a e = grind (arith, nat_tests)

wanted_small : (b : Bool) (n : ℕ) → b ≡ false → (if b then 0 else n) ≡ n
wanted_small true n e = cc
wanted_small false n e = refl

pub one_clausable : (v : Vocabulary) (next : ℕ) (a norm : Form) → length v.symbols ≤ next → SortedTo 1000000000 v [] a → norm_size_of a ≤ 100000 → next + ex_count (norm_of true a) ≤ 16777216 → norm ≡ norm_of true a → IsClausable next norm
one_clausable v next a norm new sorted small numbers is = record {
  vocabulary = v;
  new = new;
  sorted = rw is (norm_fits v a true [] sorted.fits);
  small = let no_larger = norm_small a true in rw is (omega arith);
  numbers = rw is numbers;
}

all_clausable : (v : Vocabulary) (next : ℕ) (forms : List Form) → length v.symbols ≤ next → AllByRecursion (SortedTo 1000000000 v []) forms → list_any is_large forms ≡ false → next + sum (map wanted forms) ≤ 16777216 → AreClausable next (norms_of forms)
all_clausable v next [] new within small room = tt
all_clausable v next (a ∷ forms) new within small room =
    let parts = neither (is_large a) (list_any is_large forms) small in
    let own : wanted a ≡ ex_count (norm_of true a) = wanted_small (is_large a) (ex_count (norm_of true a)) parts.0 in
    let whole = sum_cons (wanted a) (map wanted forms) in (
      one_clausable v next a (norm_of true a) new within.0 (not_large a parts.0) (omega arith) refl,
      all_clausable v (next + ex_count (norm_of true a)) forms (omega arith) within.1 parts.1 (omega arith),
    )

to_each : {X : Type 0} (P : X → Type 0) (xs : List X) → All P xs → AllByRecursion P xs
to_each P [] h = tt
to_each P (x ∷ xs) h = (h 0 x (omega arith), to_each P xs (λ k d lt. h (suc k) d (omega arith)))

sorted_forms : (v : Vocabulary) (parents : List Parent) (line : Form) → AllByRecursion (λ (p : Parent). SortedTo 1000000000 v [] p.form) parents → SortedTo 1000000000 v [] line → AllByRecursion (SortedTo 1000000000 v []) (step_forms (forms_of parents) line)
sorted_forms v [] line each own = (record { scope_fits = own.scope_fits; few_binders = rw binder_depth-Not own.few_binders; fits = rw is_sorted-Not own.fits }, tt)
sorted_forms v (p ∷ parents) line each own = (each.0, sorted_forms v parents line each.1 own)

pub are_clausable : (next : ℕ) (parents : List Parent) (line : Form) (norms : List Form) → AreBelow next parents line → list_any is_large (step_forms (forms_of parents) line) ≡ false → HasRoom next (forms_of parents) line → norms ≡ norms_of (step_forms (forms_of parents) line)
    → AreClausable next norms
are_clausable next parents line norms below small room is =
    subst (AreClausable next) (sym is) (all_clausable below.vocabulary next (step_forms (forms_of parents) line) below.new (sorted_forms below.vocabulary parents line (to_each (λ (p : Parent). SortedTo 1000000000 below.vocabulary [] p.form) parents below.parents) below.line) small room)

-- Depths.
pub shallow : (next : ℕ) (parents : List Parent) (line : Form) → AreBelow next parents line → All (λ (p : Parent). binder_depth p.form < 2 ^ 32) parents
shallow next parents line below k d lt = let few = (below.parents k d lt).few_binders in omega arith

pub line_shallow : (next : ℕ) (parents : List Parent) (line : Form) → AreBelow next parents line → binder_depth line < 2 ^ 32
line_shallow next parents line below = let few = below.line.few_binders in omega arith

-- Tests.
nat_less : (a b : ℕ) → a < b → nat_lt a b ≡ true
nat_less a b h = grind (arith, nat_tests)

nat_not_less : (a b : ℕ) → b ≤ a → nat_lt a b ≡ false
nat_not_less a b h = grind (arith, nat_tests)

or_false : (b : Bool) → (b || false) ≡ b
or_false true = refl
or_false false = refl

or_true : (b : Bool) → (b || true) ≡ true
or_true true = refl
or_true false = refl

either_side : (a b c : Bool) → (a || (b || c)) ≡ ((a || b) || c)
either_side true b c = refl
either_side false b c = refl

-- The formulas of a step.
pub step_large : (parents : List Parent) (line : Form) → list_any is_large (step_forms (forms_of parents) line) ≡ (list_any (λ (p : Parent). is_large p.form) parents || is_large line)
step_large [] line = or_false (is_large (Not line)) ∙ ap (λ (n : ℕ). nat_lt 100000 n) (norm_size_of-Not line)
step_large (p ∷ parents) line = ap (λ (b : Bool). is_large p.form || b) (step_large parents line) ∙ either_side (is_large p.form) (list_any (λ (q : Parent). is_large q.form) parents) (is_large line)

parent_norms : (parents : List Parent) (line : Form) → map (norm_of true) (step_forms (forms_of parents) line) ≡ map (λ (p : Parent). norm_of true p.form) parents ++ norm_of false line ∷ []
parent_norms [] line = ap (λ (a : Form). a ∷ []) (norm_of-Not true line)
parent_norms (p ∷ parents) line = ap (λ (l : List Form). norm_of true p.form ∷ l) (parent_norms parents line)

pub step_norms : (parents : List Parent) (line own : Form) (norms made : List Form) → norms ≡ map (λ (p : Parent). norm_of true p.form) parents → own ≡ norm_of false line → made ≡ norms ++ own ∷ [] → made ≡ map (norm_of true) (step_forms (forms_of parents) line)
step_norms parents line own norms made en eo em = em ∙ ap (λ (l : List Form). l ++ own ∷ []) en ∙ ap (λ (a : Form). map (λ (p : Parent). norm_of true p.form) parents ++ a ∷ []) eo ∙ sym (parent_norms parents line)

pub large_test : (n s : ℕ) → n ≡ min s (2 ^ 128 - 1) → nat_lt 100000 n ≡ nat_lt 100000 s
large_test n s e = elim (below_or_above 100000 s) [
  | inl h ↦ nat_less 100000 n (omega arith) ∙ sym (nat_less 100000 s h)
  | inr h ↦ nat_not_less 100000 n (omega arith) ∙ sym (nat_not_less 100000 s h)
]

-- Answers.
pub large_is_wide : (next : ℕ) (parents : List Form) (line : Form) → list_any is_large (step_forms parents line) ≡ true → is_wide next parents line ≡ true
large_is_wide next parents line e = rw e refl

module _ (next : ℕ) (parents : List Form) (line : Form) (small : list_any is_large (step_forms parents line) ≡ false) (norms : List Form) (is : norms ≡ norms_of (step_forms parents line)) (total : ℕ) (et : total ≡ min (sum (map clause_count_of norms)) (2 ^ 128 - 1)) where
  number : length (search_input next parents line) ≡ sum (map clause_count_of norms)
  number = clauses_total next (step_forms parents line) ∙ ap (λ (l : List Form). sum (map clause_count_of l)) (sym is)

  pub many_are_wide : 10000 < total → is_wide next parents line ≡ true
  many_are_wide h = rw (small, nat_less 10000 (length (search_input next parents line)) (omega (arith, number))) refl

  few : total ≤ 10000 → nat_lt 10000 (length (search_input next parents line)) ≡ false
  few h = nat_not_less 10000 (length (search_input next parents line)) (omega (arith, number))

  module _ (h : total ≤ 10000) (made : Clausal) (ec : made.clauses ≡ clauses_in_turn next norms) (es : made.skolems ≡ symbols_in_turn next norms) (heavy : Bool) (eh : heavy ≡ list_any is_heavy made.clauses) where
    clauses : made.clauses ≡ search_input next parents line
    clauses = ec ∙ ap (clauses_in_turn next) is ∙ same_clauses next (step_forms parents line)

    pub heavy_is_wide : heavy ≡ true → is_wide next parents line ≡ true
    heavy_is_wide e = let one : list_any is_heavy (search_input next parents line) ≡ true = ap (list_any is_heavy) (sym clauses) ∙ sym eh ∙ e in rw (small, few h, one) refl

    pub is_input : heavy ≡ false → IsInput next parents line (Some made)
    is_input e =
        let none : list_any is_heavy (search_input next parents line) ≡ false = ap (list_any is_heavy) (sym clauses) ∙ sym eh ∙ e in (
          rw (small, few h, none) refl,
          clauses,
          es ∙ ap (symbols_in_turn next) is ∙ same_symbols next (step_forms parents line),
        )

-- One normal form more.
pub record MadeSoFar (next : ℕ) (norms rest : List Form) (made : Clausal) : Type 0 where
  pub clauses : made.clauses ++ clauses_in_turn (next + length made.skolems) rest ≡ clauses_in_turn next norms
  pub skolems : made.skolems ++ symbols_in_turn (next + length made.skolems) rest ≡ symbols_in_turn next norms
  pub may : AreClausable (next + length made.skolems) rest

pub starts : (next : ℕ) (norms rest : List Form) (made : Clausal) → AreClausable next norms → rest ≡ norms → made.clauses ≡ [] → made.skolems ≡ [] → MadeSoFar next norms rest made
starts next norms rest made may er ec es =
    let same : next + length made.skolems ≡ next = rw es (omega arith) in
    record {
      clauses = rw (ec, same, er) refl;
      skolems = ap (λ (l : List Skolem). l ++ symbols_in_turn (next + length made.skolems) rest) es ∙ (rw (same, er) refl);
      may = rw (same, er) may;
    }

pub rest_is : (norms : List Form) (i : ℕ) (x : Form) → i < length norms → x ≡ get_or norms i x → drop i norms ≡ x ∷ drop (i + 1) norms
rest_is norms i x lt is = drop-cons norms i x lt ∙ (rw (sym is, add-one) refl)

pub next_one : (next : ℕ) (norms : List Form) (i : ℕ) (x : Form) (made : Clausal) (number : ℕ) → i < length norms → x ≡ get_or norms i x → MadeSoFar next norms (drop i norms) made → number ≡ next + length made.skolems → IsClausable number x
next_one next norms i x made number lt is so en =
    let whole : AreClausable (next + length made.skolems) (x ∷ drop (i + 1) norms) = subst (AreClausable (next + length made.skolems)) (rest_is norms i x lt is) so.may in
    rw en whole.0

pub one_made : (next : ℕ) (norms : List Form) (i : ℕ) (x : Form) (made new : Clausal) (number : ℕ) → i < length norms → x ≡ get_or norms i x → MadeSoFar next norms (drop i norms) made → number ≡ next + length made.skolems
    → new.clauses ≡ made.clauses ++ norm_clauses x number → new.skolems ≡ made.skolems ++ skolems_of x number → MadeSoFar next norms (drop (i + 1) norms) new
one_made next norms i x made new number lt is so en ec es =
    let whole : AreClausable (next + length made.skolems) (x ∷ drop (i + 1) norms) = subst (AreClausable (next + length made.skolems)) (rest_is norms i x lt is) so.may in
    let count : length (skolems_of x number) ≡ ex_count x = skolems_count number (existentials x) in
    let after : next + length new.skolems ≡ next + length made.skolems + ex_count x = rw (es, length-append) (omega arith) in
    let old_clauses = ap (λ (l : List Form). made.clauses ++ clauses_in_turn (next + length made.skolems) l) (rest_is norms i x lt is) in
    let old_skolems = ap (λ (l : List Form). made.skolems ++ symbols_in_turn (next + length made.skolems) l) (rest_is norms i x lt is) in
    record {
      clauses = rw (ec, after, en) (append_assoc made.clauses (norm_clauses x (next + length made.skolems)) (clauses_in_turn (next + length made.skolems + ex_count x) (drop (i + 1) norms)) ∙ sym old_clauses ∙ so.clauses);
      skolems = ap (λ (l : List Skolem). l ++ symbols_in_turn (next + length new.skolems) (drop (i + 1) norms)) es ∙ (rw (after, en) (append_assoc made.skolems (skolems_of x (next + length made.skolems)) (symbols_in_turn (next + length made.skolems + ex_count x) (drop (i + 1) norms)) ∙ sym old_skolems ∙ so.skolems));
      may = rw after whole.1;
    }

pub all_made : (next : ℕ) (norms rest : List Form) (made : Clausal) → rest ≡ [] → MadeSoFar next norms rest made → (made.clauses ≡ clauses_in_turn next norms) × (made.skolems ≡ symbols_in_turn next norms)
all_made next norms rest made er so =
    let clauses : made.clauses ++ [] ≡ clauses_in_turn next norms = rw er at so.clauses in
    let skolems : made.skolems ++ [] ≡ symbols_in_turn next norms = rw er at so.skolems in
    (sym (append-nil made.clauses) ∙ clauses, sym (append-nil made.skolems) ∙ skolems)
