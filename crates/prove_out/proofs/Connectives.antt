-- What is written of a formula denotes it, and its binders are numbered: atoms, equations and connectives.
use Rattle.std.proofs.Common.{◌≡◌, ℕ, ◌+◌, ◌≤◌, ◌<◌, Bool, true, cond, List, [], ◌∷◌, length, map, slice_get, Option, Some, None, Ok, Err, refl, sym, ◌∙◌, ap, subst, arith}
use Rattle.std.specs.Prelude.{◌&&◌, ◌==◌}
use Rattle.std.specs.List.{list_all, AllByRecursion}
use Rattle.std.proofs.lemmas.Bool.Decides.{nat_tests}
use Rattle.tptp_base.specs.Sizes.{Size, all_of, list_of}
use Rattle.tptp_base.specs.declared.surface.STerm.{STerm}
use Rattle.tptp_base.specs.declared.surface.Surface.{Surface}
use Rattle.tptp_base.specs.declared.surface.Surface.TheVariants as fm
use Rattle.tptp_base.specs.declared.surface.BinOp.{BinOp}
use Rattle.tptp_base.specs.declared.surface.BinOp.TheVariants as op
use Rattle.fof_terms.specs.Vocabulary.{Vocabulary}
use Rattle.fof_terms.specs.Sizes.{term_size, form_size}
use Rattle.fof_terms.specs.Sorts.{are_sorts, one_sort, holds_of, stated_by, sort_of_term, is_sorted}
use Rattle.fof_terms.specs.declared.signature.Symbol.{Symbol}
use Rattle.fof_terms.specs.declared.signature.Kind.{Kind}
use Rattle.fof_terms.specs.declared.signature.Kind.TheVariants.{Function, Predicate}
use Rattle.fof_terms.specs.declared.term.Term.{Term}
use Rattle.fof_terms.specs.declared.form.Form.{Form, Atom, Eq, Not, And, Or, Imp, Iff}
use Rattle.fof_terms.proofs.Induction.{term_induction}
use Rattle.fof_terms.proofs.LiftingLaws.{both}
use Rattle.fof_terms.proofs.SizeFacts.{term_size-Var, term_size-App, form_size-Atom, form_size-Eq, form_size-Not, form_size-And, form_size-Or, form_size-Imp, form_size-Iff}
use Rattle.fof_terms.proofs.SortsFacts.{is_sorted-Atom, is_sorted-Eq, is_sorted-Not, is_sorted-And, is_sorted-Or, is_sorted-Imp, is_sorted-Iff}
use Rattle.sort_check.specs.declared.fault.SortRule.{SortRule}
use Rattle.sort_check.specs.declared.fault.SortRule.TheVariants.{WrongSort}
use Rattle.sort_check.specs.declared.terms.Sorted.{Sorted}
use Rattle.sort_check.specs.Outcomes.{Outcome, and_then, mapped, each}
use Rattle.sort_check.specs.Symbols.{Text}
use Rattle.sort_check.specs.Denotation.{Setting, State, TermOutcome, FormOutcome, beside, equal, equation, joined, denoted_term, known_sort, denoted_form}
use Rattle.sort_check.proofs.Equations.{new_predicate, denoted_form-True, denoted_form-False, denoted_form-Atom, denoted_form-Eq, denoted_form-Neq, denoted_form-Not, denoted_form-And, denoted_form-Or, denoted_form-Binary}
use Rattle.sort_check.proofs.Parts.{atom_ok}
use Rattle.sort_check.proofs.TermSorts.{wanted_sort}
use Rattle.prove_out.specs.Unambiguous.{IsUnambiguous}
use Rattle.prove_out.specs.Denoting.{bound_count}
use Rattle.prove_out.specs.Variables.{has_some, is_numbered}
use Rattle.prove_out.specs.code.Named.{IsNameOf}
use Rattle.prove_out.specs.code.Written.{named_variables, state, WritesTerm, WritesForm, EachWritten}
use Rattle.prove_out.proofs.Finding.{head_found}
use Rattle.prove_out.proofs.NumberedFacts.{is_numbered-True, is_numbered-False, is_numbered-Atom, is_numbered-Eq, is_numbered-Neq, is_numbered-Not, is_numbered-And, is_numbered-Or, is_numbered-Binary}
use Rattle.prove_out.proofs.States.{counted, all_counted}
use Rattle.prove_out.proofs.Applications.{arguments_written, arity_written}

abbrev variables_in : Size → ℕ
variables_in z = z.variables

of_list : (parts : List Size) → (list_of parts).variables ≡ (all_of parts).variables
of_list parts = omega arith

-- what is written of a form is written of one that is equal to it
pub form_seen : (v : Vocabulary) (depth : ℕ) (a b : Form) (w : Surface) → b ≡ a → WritesForm v depth a w → WritesForm v depth b w
form_seen v depth a b w e h = subst (λ (x : Form). WritesForm v depth x w) (sym e) h

-- ---- atoms and equations bind nothing

none_in_each : (ts : List Term) → AllByRecursion (λ t. (term_size t).variables ≡ 0) ts → (all_of (map term_size ts)).variables ≡ 0
none_in_each [] all = refl
none_in_each (t ∷ ts) all = omega (arith, all.0, none_in_each ts all.1)

none_in_term : (t : Term) → (term_size t).variables ≡ 0
none_in_term = term_induction (λ t. (term_size t).variables ≡ 0) (record {
  var = λ k. rw term_size-Var refl;
  app = λ f ts all. rw term_size-App (omega (arith, none_in_each ts all));
})

none_in_terms : (ts : List Term) → AllByRecursion (λ t. (term_size t).variables ≡ 0) ts
none_in_terms [] = tt
none_in_terms (t ∷ ts) = (none_in_term t, none_in_terms ts)

atom_binds_none : (p : ℕ) (ts : List Term) → bound_count (Atom p ts) ≡ 0
atom_binds_none p ts = ap variables_in (form_size-Atom p ts) ∙ of_list (map term_size ts) ∙ none_in_each ts (none_in_terms ts)

equation_binds_none : (l r : Term) → bound_count (Eq l r) ≡ 0
equation_binds_none l r =
    let none : (term_size l).variables + (term_size r).variables ≡ 0 = omega (arith, none_in_term l, none_in_term r) in
    ap variables_in (form_size-Eq l r) ∙ none

-- ---- atoms

is_stated : (kind : Kind) (fits : Bool) → stated_by kind fits ≡ true → (kind ≡ Predicate) × (fits ≡ true)
is_stated Function fits e = absurd (cc)
is_stated Predicate fits e = (refl, e)

pub atom_written : (v : Vocabulary) (depth p : ℕ) (ts : List Term) (name : Text) (ws : List STerm) → IsNameOf (slice_get v.symbols p) name → EachWritten (WritesTerm v depth) ts ws → WritesForm v depth (Atom p ts) (fm.Atom name ws)
atom_written v depth p ts name ws named e = record { denotes = of_atom; numbered = is_numbered-Atom depth name ws }
  where
    of_symbol : IsUnambiguous v → (here : Setting) (sorts : List ℕ) (bound : ℕ) → length sorts ≡ depth → (o : Option Symbol) → slice_get v.symbols p ≡ o → IsNameOf o name
        → holds_of o (map (sort_of_term v sorts) ts) ≡ true → denoted_form here (fm.Atom name ws) (named_variables sorts) (state v bound) ≡ Ok (Atom p ts, state v bound)
    of_symbol u here sorts bound len None at is k = absurd (cc)
    of_symbol u here sorts bound len (Some symbol) at is k =
        let scope = named_variables sorts in
        let stated = is_stated symbol.kind (are_sorts (map (sort_of_term v sorts) ts) symbol.args) k in
        let arity = arity_written v depth sorts ts ws symbol.args e stated.1 in
        let found = head_found v u here.declared name Predicate (length ws) (new_predicate here scope v name ws) p symbol at is (sym stated.0) arity in
        let args = arguments_written v depth here sorts p symbol u len at ts ws 0 e stated.1 in
        denoted_form-Atom here scope (state v bound) name ws ∙ atom_ok here scope name ws v v p bound found ts v args

    of_atom : IsUnambiguous v → (here : Setting) (sorts : List ℕ) (bound : ℕ) → length sorts ≡ depth → is_sorted v sorts (Atom p ts) ≡ true → bound + bound_count (Atom p ts) ≤ 250
        → denoted_form here (fm.Atom name ws) (named_variables sorts) (state v bound) ≡ Ok (Atom p ts, state v (bound + bound_count (Atom p ts)))
    of_atom u here sorts bound len fits few =
        let none : bound ≡ bound + bound_count (Atom p ts) = omega (arith, atom_binds_none p ts) in
        of_symbol u here sorts bound len (slice_get v.symbols p) refl named (rw is_sorted-Atom at fits) ∙ counted v (Atom p ts) bound (bound + bound_count (Atom p ts)) none

-- ---- equations

-- the sort of both sides
sides_sort : (l r : Option ℕ) → one_sort l r ≡ true → (s : ℕ) × (l ≡ Some s) × (r ≡ Some s)
sides_sort l None e = absurd (cc)
sides_sort l (Some s) e = (s, wanted_sort l s e, refl)

own_sort : (s : ℕ) → s == s ≡ true
own_sort s = grind (arith, nat_tests)

equation_denotes : (v : Vocabulary) (depth : ℕ) (l r : Term) (wl wr : STerm) → WritesTerm v depth l wl → WritesTerm v depth r wr → IsUnambiguous v → (here : Setting) (sorts : List ℕ) → length sorts ≡ depth → is_sorted v sorts (Eq l r) ≡ true
    → equation here (named_variables sorts) wl wr v ≡ Ok (Eq l r, v)
equation_denotes v depth l r wl wr left right u here sorts len fits =
    let scope = named_variables sorts in
    let sides = sides_sort (sort_of_term v sorts l) (sort_of_term v sorts r) (rw is_sorted-Eq at fits) in
    let s = sides.0 in
    let second : Sorted → Vocabulary → Outcome SortRule Vocabulary Form = λ x w. and_then (denoted_term here scope wr (Some x.sort) w) (equal x) in
    let x : Sorted = record { term = l; sort = s } in
    let answer : Bool → Outcome SortRule Vocabulary Form = λ b. cond b (Ok (Eq l r, v)) (Err WrongSort) in
    ap (λ (o : TermOutcome). and_then o second) (left.denotes u here sorts s (known_sort scope v wr) len sides.1)
    ∙ ap (λ (o : TermOutcome). and_then o (equal x)) (right.denotes u here sorts s (Some s) len sides.2)
    ∙ ap answer (own_sort s)

module _ (v : Vocabulary) (depth : ℕ) (l r : Term) (wl wr : STerm) (left : WritesTerm v depth l wl) (right : WritesTerm v depth r wr) where
  plain : IsUnambiguous v → (here : Setting) (sorts : List ℕ) (bound : ℕ) → length sorts ≡ depth → is_sorted v sorts (Eq l r) ≡ true → beside bound (equation here (named_variables sorts) wl wr v) ≡ Ok (Eq l r, state v (bound + bound_count (Eq l r)))
  plain u here sorts bound len fits =
      let none : bound ≡ bound + bound_count (Eq l r) = omega (arith, equation_binds_none l r) in
      ap (beside bound) (equation_denotes v depth l r wl wr left right u here sorts len fits) ∙ counted v (Eq l r) bound (bound + bound_count (Eq l r)) none

  pub equation_written : WritesForm v depth (Eq l r) (fm.Eq wl wr)
  equation_written = record {
    denotes = λ u here sorts bound len fits few. denoted_form-Eq here (named_variables sorts) (state v bound) wl wr ∙ plain u here sorts bound len fits;
    numbered = is_numbered-Eq depth wl wr;
  }

  pub inequation_written : WritesForm v depth (Not (Eq l r)) (fm.Neq wl wr)
  inequation_written = record {
    denotes = λ u here sorts bound len fits few.
        denoted_form-Neq here (named_variables sorts) (state v bound) wl wr
        ∙ ap (mapped Not) (plain u here sorts bound len (rw is_sorted-Not at fits))
        ∙ counted v (Not (Eq l r)) (bound + bound_count (Eq l r)) (bound + bound_count (Not (Eq l r))) (ap (λ n. bound + n) (sym (ap variables_in (form_size-Not (Eq l r)))));
    numbered = is_numbered-Neq depth wl wr;
  }

-- ---- negations

pub negation_written : (v : Vocabulary) (depth : ℕ) (a : Form) (w : Surface) → WritesForm v depth a w → WritesForm v depth (Not a) (fm.Not w)
negation_written v depth a w part = record {
  denotes = λ u here sorts bound len fits few.
      let same : bound_count (Not a) ≡ bound_count a = ap variables_in (form_size-Not a) in
      denoted_form-Not here (named_variables sorts) (state v bound) w
      ∙ ap (mapped Not) (part.denotes u here sorts bound len (rw is_sorted-Not at fits) (omega (arith, few, same)))
      ∙ counted v (Not a) (bound + bound_count a) (bound + bound_count (Not a)) (omega (arith, same));
  numbered = is_numbered-Not depth w ∙ part.numbered;
}

-- ---- conjunctions and disjunctions

abbrev total : List Form → ℕ
total as_ = (all_of (map form_size as_)).variables

and_total : (as_ : List Form) → bound_count (And as_) ≡ total as_
and_total as_ = ap variables_in (form_size-And as_) ∙ of_list (map form_size as_)

or_total : (as_ : List Form) → bound_count (Or as_) ≡ total as_
or_total as_ = ap variables_in (form_size-Or as_) ∙ of_list (map form_size as_)

module _ (v : Vocabulary) (depth : ℕ) where
  members_denote : (as_ : List Form) (ws : List Surface) → EachWritten (WritesForm v depth) as_ ws → IsUnambiguous v → (here : Setting) (sorts : List ℕ) (bound place : ℕ) → length sorts ≡ depth → list_all (is_sorted v sorts) as_ ≡ true → bound + total as_ ≤ 250
      → each (λ p w. denoted_form here w (named_variables sorts)) place ws (state v bound) ≡ Ok (as_, state v (bound + total as_))
  members_denote [] [] e u here sorts bound place len fits few = all_counted v [] bound (bound + 0) (omega arith)
  members_denote [] (w ∷ ws) e u here sorts bound place len fits few = absurd e
  members_denote (a ∷ as_) [] e u here sorts bound place len fits few = absurd e
  members_denote (a ∷ as_) (w ∷ ws) e u here sorts bound place len fits few =
      let parts = both (is_sorted v sorts a) (list_all (is_sorted v sorts) as_) fits in
      let rest : State → Outcome SortRule State (List Form) = λ s. each (λ p x. denoted_form here x (named_variables sorts)) (place + 1) ws s in
      let sum : bound + bound_count a + total as_ ≡ bound + (bound_count a + total as_) = omega arith in
      ap (λ (o : FormOutcome). and_then o (λ y s. mapped (λ ys. y ∷ ys) (rest s))) (e.0.denotes u here sorts bound len parts.0 (omega (arith, few)))
      ∙ ap (mapped (λ ys. a ∷ ys)) (members_denote as_ ws e.1 u here sorts (bound + bound_count a) (place + 1) len parts.1 (omega (arith, few)))
      ∙ all_counted v (a ∷ as_) (bound + bound_count a + total as_) (bound + (bound_count a + total as_)) sum

  members_numbered : (as_ : List Form) (ws : List Surface) → EachWritten (WritesForm v depth) as_ ws → list_all (is_numbered depth) ws ≡ true
  members_numbered [] [] e = refl
  members_numbered [] (w ∷ ws) e = absurd e
  members_numbered (a ∷ as_) [] e = absurd e
  members_numbered (a ∷ as_) (w ∷ ws) e = rw (e.0.numbered, members_numbered as_ ws e.1) refl

  some_numbered : (as_ : List Form) (ws : List Surface) → 0 < length as_ → EachWritten (WritesForm v depth) as_ ws → (has_some ws && list_all (is_numbered depth) ws) ≡ true
  some_numbered [] ws some e = absurd (omega arith)
  some_numbered (a ∷ as_) [] some e = absurd e
  some_numbered (a ∷ as_) (w ∷ ws) some e = members_numbered (a ∷ as_) (w ∷ ws) e

  pub conjunction_written : (as_ : List Form) (ws : List Surface) → 0 < length as_ → EachWritten (WritesForm v depth) as_ ws → WritesForm v depth (And as_) (fm.And ws)
  conjunction_written as_ ws some e = record {
    denotes = λ u here sorts bound len fits few.
        denoted_form-And here (named_variables sorts) (state v bound) ws
        ∙ ap (mapped And) (members_denote as_ ws e u here sorts bound 0 len (rw is_sorted-And at fits) (omega (arith, few, and_total as_)))
        ∙ counted v (And as_) (bound + total as_) (bound + bound_count (And as_)) (omega (arith, and_total as_));
    numbered = is_numbered-And depth ws ∙ some_numbered as_ ws some e;
  }

  pub disjunction_written : (as_ : List Form) (ws : List Surface) → 0 < length as_ → EachWritten (WritesForm v depth) as_ ws → WritesForm v depth (Or as_) (fm.Or ws)
  disjunction_written as_ ws some e = record {
    denotes = λ u here sorts bound len fits few.
        denoted_form-Or here (named_variables sorts) (state v bound) ws
        ∙ ap (mapped Or) (members_denote as_ ws e u here sorts bound 0 len (rw is_sorted-Or at fits) (omega (arith, few, or_total as_)))
        ∙ counted v (Or as_) (bound + total as_) (bound + bound_count (Or as_)) (omega (arith, or_total as_));
    numbered = is_numbered-Or depth ws ∙ some_numbered as_ ws some e;
  }

  truth_written : WritesForm v depth (And []) fm.True
  truth_written = record {
    denotes = λ u here sorts bound len fits few. denoted_form-True here (named_variables sorts) (state v bound) ∙ counted v (And []) bound (bound + bound_count (And [])) (omega (arith, and_total []));
    numbered = is_numbered-True depth;
  }

  falsehood_written : WritesForm v depth (Or []) fm.False
  falsehood_written = record {
    denotes = λ u here sorts bound len fits few. denoted_form-False here (named_variables sorts) (state v bound) ∙ counted v (Or []) bound (bound + bound_count (Or [])) (omega (arith, or_total []));
    numbered = is_numbered-False depth;
  }

  pub no_conjunct : (as_ : List Form) → length as_ ≡ 0 → WritesForm v depth (And as_) fm.True
  no_conjunct [] e = truth_written
  no_conjunct (a ∷ as_) e = absurd (omega (arith, e))

  pub no_disjunct : (as_ : List Form) → length as_ ≡ 0 → WritesForm v depth (Or as_) fm.False
  no_disjunct [] e = falsehood_written
  no_disjunct (a ∷ as_) e = absurd (omega (arith, e))

  -- ---- implications and equivalences

  sides_denote : (operator : BinOp) (a b : Form) (x y : Surface) → WritesForm v depth a x → WritesForm v depth b y → IsUnambiguous v → (here : Setting) (sorts : List ℕ) (bound : ℕ) → length sorts ≡ depth → (is_sorted v sorts a && is_sorted v sorts b) ≡ true → bound + bound_count a + bound_count b ≤ 250
      → denoted_form here (fm.Binary operator x y) (named_variables sorts) (state v bound) ≡ Ok (joined operator a b, state v (bound + bound_count a + bound_count b))
  sides_denote operator a b x y left right u here sorts bound len fits few =
      let parts = both (is_sorted v sorts a) (is_sorted v sorts b) fits in
      let scope = named_variables sorts in
      denoted_form-Binary here scope (state v bound) operator x y
      ∙ ap (λ (o : FormOutcome). and_then o (λ c s. mapped (joined operator c) (denoted_form here y scope s))) (left.denotes u here sorts bound len parts.0 (omega (arith, few)))
      ∙ ap (mapped (joined operator a)) (right.denotes u here sorts (bound + bound_count a) len parts.1 few)

  sides_numbered : (operator : BinOp) (a b : Form) (x y : Surface) → WritesForm v depth a x → WritesForm v depth b y → is_numbered depth (fm.Binary operator x y) ≡ true
  sides_numbered operator a b x y left right = is_numbered-Binary depth operator x y ∙ rw (left.numbered, right.numbered) refl

  pub implication_written : (a b : Form) (x y : Surface) → WritesForm v depth a x → WritesForm v depth b y → WritesForm v depth (Imp a b) (fm.Binary op.Imp x y)
  implication_written a b x y left right = record {
    denotes = λ u here sorts bound len fits few.
        let both_sides : bound_count (Imp a b) ≡ bound_count a + bound_count b = ap variables_in (form_size-Imp a b) in
        sides_denote op.Imp a b x y left right u here sorts bound len (rw is_sorted-Imp at fits) (omega (arith, few, both_sides))
        ∙ counted v (Imp a b) (bound + bound_count a + bound_count b) (bound + bound_count (Imp a b)) (omega (arith, both_sides));
    numbered = sides_numbered op.Imp a b x y left right;
  }

  pub equivalence_written : (a b : Form) (x y : Surface) → WritesForm v depth a x → WritesForm v depth b y → WritesForm v depth (Iff a b) (fm.Binary op.Iff x y)
  equivalence_written a b x y left right = record {
    denotes = λ u here sorts bound len fits few.
        let both_sides : bound_count (Iff a b) ≡ bound_count a + bound_count b = ap variables_in (form_size-Iff a b) in
        sides_denote op.Iff a b x y left right u here sorts bound len (rw is_sorted-Iff at fits) (omega (arith, few, both_sides))
        ∙ counted v (Iff a b) (bound + bound_count a + bound_count b) (bound + bound_count (Iff a b)) (omega (arith, both_sides));
    numbered = sides_numbered op.Iff a b x y left right;
  }
