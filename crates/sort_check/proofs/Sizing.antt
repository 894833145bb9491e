-- What terms and formulas denote is no larger than they are.
use Rattle.std.proofs.Common.{◌≡◌, ◌≤◌, ℕ, suc, ◌+◌, ◌==◌, ◌||◌, Bool, true, false, cond, if◌then◌else◌, List, [], ◌∷◌, ◌++◌, length, map, Option, Some, None, Ok, Err, refl, subst, arith, length-append}
use Rattle.std.specs.Prelude.{max}
use Rattle.std.specs.List.{AllByRecursion, list_any}
use Rattle.std.specs.Str.{bytes_eq}
use Rattle.tptp_base.specs.declared.surface.STerm.{STerm}
use Rattle.tptp_base.specs.declared.surface.STerm.TheVariants as tm
use Rattle.tptp_base.specs.declared.surface.Surface.{Surface}
use Rattle.tptp_base.specs.declared.surface.Surface.TheVariants as fm
use Rattle.tptp_base.specs.declared.surface.BoundVar.{BoundVar}
use Rattle.tptp_base.specs.declared.surface.BinOp.{BinOp}
use Rattle.tptp_base.specs.declared.surface.BinOp.TheVariants as op
use Rattle.tptp_base.specs.declared.surface.Quant.{Quant}
use Rattle.tptp_base.specs.declared.surface.Quant.TheVariants as q
use Rattle.tptp_base.specs.Sizes.{Size, one_variable, both, all_of, list_of, size_of_term, size_of_form}
use Rattle.tptp_base.proofs.Sizing.{size-Var, size-App, size-True, size-False, size-Atom, size-Eq, size-Neq, size-Not, size-And, size-Or, size-Binary, size-Bind}
use Rattle.fof_terms.specs.Vocabulary.{Vocabulary}
use Rattle.fof_terms.specs.Sorts.{is_sort}
use Rattle.fof_terms.specs.Sizes.{term_size, form_size}
use Rattle.fof_terms.specs.declared.signature.Kind.TheVariants.{Function, Predicate}
use Rattle.fof_terms.specs.declared.term.Term.{Term, Var}
use Rattle.fof_terms.specs.declared.form.Form.{Form, Atom, Eq, Not, And, Or}
use Rattle.fof_terms.proofs.SizeFacts.{term_size-Var, term_size-App, form_size-Atom, form_size-Eq, form_size-Not, form_size-And, form_size-Or, form_size-Imp, form_size-Iff, form_size-All, form_size-Ex}
use Rattle.sort_check.specs.declared.fault.SortRule.{SortRule}
use Rattle.sort_check.specs.declared.fault.SortRule.TheVariants.{WrongSort}
use Rattle.sort_check.specs.declared.scope.Variable.{Variable}
use Rattle.sort_check.specs.declared.terms.Sorted.{Sorted}
use Rattle.sort_check.specs.Outcomes.{Outcome, and_then, mapped, each}
use Rattle.sort_check.specs.Symbols.{Text, head, argument_sort, result_sort}
use Rattle.sort_check.specs.Denotation.{Setting, State, nearest, variable_at, fitting, argument, made, denoted_term, known_sort, beside, atom, equal, equation, joined, bound_variable, closed, denoted_form}
use Rattle.sort_check.specs.code.Variables.{noted, in_turn, variables_of_term, variables_of}
use Rattle.sort_check.specs.code.Denotation.{bound}
use Rattle.sort_check.proofs.Equations.{new_function, new_predicate, denoted_term-Var, denoted_term-App, denoted_form-True, denoted_form-False, denoted_form-Atom, denoted_form-Eq, denoted_form-Neq, denoted_form-Not, denoted_form-And, denoted_form-Or, denoted_form-Binary, denoted_form-Bind}
use Rattle.sort_check.proofs.VariableEquations.{of_term-Var, of_term-App, of-True, of-False, of-Atom, of-Eq, of-Neq, of-Not, of-And, of-Or, of-Binary, of-Bind}
use Rattle.sort_check.proofs.Inducing.{term_induction, form_induction}
use Rattle.sort_check.proofs.Stepping.{at_ok, then_ok, mapped_ok}

-- ---- the variables that are noted

-- no more are noted than a part has
abbrev NotesFew : Size → (List Variable → List Variable) → Type 0
NotesFew size noting = (found : List Variable) → length (noting found) ≤ size.variables + length found

one_noted : (name : Text) (found : List Variable) → length (noted name found) ≤ 1 + length found
one_noted name found = by (list_any (λ x. bytes_eq x.name name) found || (length found == 250))
  where
    by : (b : Bool) → length (if b then found else found ++ record { name = name; sort = 0 } ∷ []) ≤ 1 + length found
    by true = omega arith
    by false = let more = length-append {A = Variable} found (record { name = name; sort = 0 } ∷ []) in omega (arith, more)

module _ {X : Type 0} (size : X → Size) (noting : X → List Variable → List Variable) where
  all_noted : (xs : List X) → AllByRecursion (λ x. NotesFew (size x) (noting x)) xs → NotesFew (all_of (map size xs)) (in_turn (map noting xs))
  all_noted [] all found = omega arith
  all_noted (x ∷ xs) all found =
      let first = all.0 found in
      let others = all_noted xs all.1 (noting x found) in
      omega (arith, first, others)

abbrev TermNotes : STerm → Type 0
TermNotes t = NotesFew (size_of_term t) (variables_of_term t)

term_noted : (t : STerm) → TermNotes t
term_noted = term_induction TermNotes (record {
  var = λ x found. rw size-Var (rw of_term-Var (one_noted x found));
  app = λ f ts all found. rw size-App (rw of_term-App (let few = all_noted size_of_term variables_of_term ts all found in omega (arith, few)));
})

terms_noted : (ts : List STerm) → AllByRecursion TermNotes ts
terms_noted [] = tt
terms_noted (t ∷ ts) = (term_noted t, terms_noted ts)

both_noted : (l r : STerm) (found : List Variable) → length (variables_of_term r (variables_of_term l found)) ≤ (size_of_term l).variables + (size_of_term r).variables + length found
both_noted l r found = (let first = term_noted l found in let second = term_noted r (variables_of_term l found) in omega (arith, first, second))

-- ---- terms

-- a term with no longer list, which binds nothing
record IsPlain (size : Size) (term : Size) : Type 0 where
  longest : term.longest ≤ size.longest
  variables : term.variables ≡ 0

-- the same of lists
record ArePlain (sizes terms : List Size) : Type 0 where
  count : length terms ≡ length sizes
  all : IsPlain (all_of sizes) (all_of terms)

listed : (sizes terms : List Size) → ArePlain sizes terms → IsPlain (list_of sizes) (list_of terms)
listed sizes terms h = record { longest = omega (arith, h.count, h.all.longest); variables = omega (arith, h.all.variables) }

abbrev TermFits : STerm → Type 0
TermFits t = (here : Setting) (scope : List Variable) (asked : Option ℕ) (v w : Vocabulary) (x : Sorted) → denoted_term here scope t asked v ≡ Ok (x, w) → IsPlain (size_of_term t) (term_size x.term)

module _ (here : Setting) (scope : List Variable) (number : ℕ) where
  one_argument : (place : ℕ) (t : STerm) (v w : Vocabulary) (y : Term) → TermFits t → argument number place (denoted_term here scope t) v ≡ Ok (y, w) → IsPlain (size_of_term t) (term_size y)
  one_argument place t v w y fits e =
      let asked = argument_sort v number place in
      let parts = then_ok (denoted_term here scope t asked v) (fitting number place) y w e in
      by parts.0 parts.1 (fits here scope asked v parts.1 parts.0 parts.2) (is_sort (argument_sort parts.1 number place) parts.0.sort) parts.3
    where
      by : (x : Sorted) (u : Vocabulary) → IsPlain (size_of_term t) (term_size x.term) → (b : Bool) → ◌≡◌ {A = Outcome SortRule Vocabulary Term} (cond b (Ok (x.term, u)) (Err WrongSort)) (Ok (y, w)) → IsPlain (size_of_term t) (term_size y)
      by x u plain false k = absurd (cc)
      by x u plain true k = at_ok {E = SortRule} (λ (z : Term) (o : Vocabulary). IsPlain (size_of_term t) (term_size z)) x.term y u w k plain

  arguments_fit : (ts : List STerm) (place : ℕ) (v w : Vocabulary) (xs : List Term) → AllByRecursion TermFits ts → each (λ p t. argument number p (denoted_term here scope t)) place ts v ≡ Ok (xs, w) → ArePlain (map size_of_term ts) (map term_size xs)
  arguments_fit [] place v w xs all e = at_ok {E = SortRule} (λ (ys : List Term) (u : Vocabulary). ArePlain [] (map term_size ys)) [] xs v w e (record { count = refl; all = record { longest = omega arith; variables = refl } })
  arguments_fit (t ∷ ts) place v w xs all e =
      let parts = then_ok (argument number place (denoted_term here scope t) v) (λ y u. mapped (λ ys. y ∷ ys) (each (λ p s. argument number p (denoted_term here scope s)) (place + 1) ts u)) xs w e in
      let more = mapped_ok (λ (ys : List Term). parts.0 ∷ ys) (each (λ p s. argument number p (denoted_term here scope s)) (place + 1) ts parts.1) xs w parts.3 in
      let first = one_argument place t v parts.1 parts.0 all.0 parts.2 in
      let others = arguments_fit ts (place + 1) parts.1 w more.0 all.1 more.1 in
      subst (λ (ys : List Term). ArePlain (map size_of_term (t ∷ ts)) (map term_size ys)) more.2 (record {
        count = omega (arith, others.count);
        all = record { longest = omega (arith, first.longest, others.all.longest); variables = omega (arith, first.variables, others.all.variables) };
      })

terms_fit : (t : STerm) → TermFits t
terms_fit = term_induction TermFits (record { var = of_variable; app = of_application })
  where
    of_variable : (name : Text) → TermFits (tm.Var name)
    of_variable name here scope asked v w x e = by (nearest scope name) (rw denoted_term-Var at e)
      where
        by : (o : Option (ℕ × ℕ)) → variable_at here.outside o v ≡ Ok (x, w) → IsPlain (size_of_term (tm.Var name)) (term_size x.term)
        by None k = absurd (cc)
        by (Some p) k = at_ok {E = SortRule} (λ (y : Sorted) (u : Vocabulary). IsPlain (size_of_term (tm.Var name)) (term_size y.term)) (record { term = Var p.0; sort = p.1 }) x v w k
            (rw term_size-Var (record { longest = omega arith; variables = refl }))

    of_application : (f : Text) (ts : List STerm) → AllByRecursion TermFits ts → TermFits (tm.App f ts)
    of_application f ts all here scope asked v w x e =
        let parts = then_ok (head here.declared f Function (length ts) (new_function here scope v f ts asked) v) (λ g u. mapped (made g (result_sort u g)) (each (λ place t. argument g place (denoted_term here scope t)) 0 ts u)) x w (rw denoted_term-App at e) in
        let made_of = mapped_ok (made parts.0 (result_sort parts.1 parts.0)) (each (λ place t. argument parts.0 place (denoted_term here scope t)) 0 ts parts.1) x w parts.3 in
        subst (λ (y : Sorted). IsPlain (size_of_term (tm.App f ts)) (term_size y.term)) made_of.2
        (rw size-App (rw term_size-App (listed (map size_of_term ts) (map term_size made_of.0) (arguments_fit here scope parts.0 ts 0 parts.1 w made_of.0 all made_of.1))))

each_fits : (ts : List STerm) → AllByRecursion TermFits ts
each_fits [] = tt
each_fits (t ∷ ts) = (terms_fit t, each_fits ts)

-- ---- forms

-- A formula that a part denotes, and the variables that are noted of the part. A connective may make a list of two.
pub record Fits (size : Size) (noting : List Variable → List Variable) (form : Size) : Type 0 where
  pub longest : form.longest ≤ max 2 size.longest
  pub variables : (found : List Variable) → form.variables + length (noting found) ≤ size.variables + length found

-- one that binds nothing
plain_fits : (size form : Size) (noting : List Variable → List Variable) → IsPlain size form → NotesFew size noting → Fits size noting form
plain_fits size form noting h few = record {
  longest = omega (arith, h.longest);
  variables = λ found. (let noted_few = few found in omega (arith, h.variables, noted_few));
}

atom_fits : (here : Setting) (scope : List Variable) (p : Text) (ts : List STerm) (v w : Vocabulary) (a : Form) → atom here scope p ts v ≡ Ok (a, w) → IsPlain (list_of (map size_of_term ts)) (form_size a)
atom_fits here scope p ts v w a e =
    let parts = then_ok (head here.declared p Predicate (length ts) (new_predicate here scope v p ts) v) (λ g u. mapped (Atom g) (each (λ place t. argument g place (denoted_term here scope t)) 0 ts u)) a w e in
    let made_of = mapped_ok (Atom parts.0) (each (λ place t. argument parts.0 place (denoted_term here scope t)) 0 ts parts.1) a w parts.3 in
    subst (λ (b : Form). IsPlain (list_of (map size_of_term ts)) (form_size b)) made_of.2
    (rw form_size-Atom (listed (map size_of_term ts) (map term_size made_of.0) (arguments_fit here scope parts.0 ts 0 parts.1 w made_of.0 (each_fits ts) made_of.1)))

equation_fits : (here : Setting) (scope : List Variable) (l r : STerm) (v w : Vocabulary) (a : Form) → equation here scope l r v ≡ Ok (a, w) → IsPlain (both (size_of_term l) (size_of_term r)) (form_size a)
equation_fits here scope l r v w a e =
    let known = known_sort scope v r in
    let left = then_ok (denoted_term here scope l known v) (λ x u. and_then (denoted_term here scope r (Some x.sort) u) (equal x)) a w e in
    let right = then_ok (denoted_term here scope r (Some left.0.sort) left.1) (equal left.0) a w left.3 in
    by left.0 right.0 right.1 (terms_fit l here scope known v left.1 left.0 left.2) (terms_fit r here scope (Some left.0.sort) left.1 right.1 right.0 right.2) (left.0.sort == right.0.sort) right.3
  where
    by : (x y : Sorted) (u : Vocabulary) → IsPlain (size_of_term l) (term_size x.term) → IsPlain (size_of_term r) (term_size y.term) → (b : Bool) → ◌≡◌ {A = Outcome SortRule Vocabulary Form} (cond b (Ok (Eq x.term y.term, u)) (Err WrongSort)) (Ok (a, w))
        → IsPlain (both (size_of_term l) (size_of_term r)) (form_size a)
    by x y u one two false k = absurd (cc)
    by x y u one two true k = at_ok {E = SortRule} (λ (b : Form) (o : Vocabulary). IsPlain (both (size_of_term l) (size_of_term r)) (form_size b)) (Eq x.term y.term) a u w k
        (rw form_size-Eq (record { longest = omega (arith, one.longest, two.longest); variables = omega (arith, one.variables, two.variables) }))

beside_fits : (P : Form → Type 0) (n : ℕ) (o : Outcome SortRule Vocabulary Form) (a : Form) (t : State) → ((w : Vocabulary) (b : Form) → o ≡ Ok (b, w) → P b) → beside n o ≡ Ok (a, t) → P a
beside_fits P n (Err x) a t plain e = absurd (cc)
beside_fits P n (Ok p) a t plain e = at_ok {E = SortRule} (λ (b : Form) (u : State). P b) p.0 a (record { vocabulary = p.1; bound = n }) t e (plain p.1 p.0 refl)

-- ---- binders

variables_are : (xs : List BoundVar) (place : ℕ) (s t : State) (vs : List Variable) → each (λ p. bound_variable) place xs s ≡ Ok (vs, t) → length vs ≡ length xs
variables_are [] place s t vs e = at_ok {E = SortRule} (λ (ys : List Variable) (u : State). length ys ≡ 0) [] vs s t e refl
variables_are (x ∷ xs) place s t vs e =
    let parts = then_ok (bound_variable x s) (λ y u. mapped (λ ys. y ∷ ys) (each (λ p. bound_variable) (place + 1) xs u)) vs t e in
    let more = mapped_ok (λ (ys : List Variable). parts.0 ∷ ys) (each (λ p. bound_variable) (place + 1) xs parts.1) vs t parts.3 in
    let others = variables_are xs (place + 1) parts.1 t more.0 more.1 in
    subst (λ (ys : List Variable). length ys ≡ suc (length xs)) more.2 (omega (arith, others))

-- under binders
pub record Under (count : ℕ) (inner outer : Size) : Type 0 where
  pub longest : outer.longest ≤ inner.longest
  pub variables : outer.variables ≡ inner.variables + count

pub closed_size : (quant : Quant) (vs : List Variable) (a : Form) → Under (length vs) (form_size a) (form_size (closed quant vs a))
closed_size quant [] a = record { longest = omega arith; variables = omega arith }
closed_size q.All (x ∷ xs) a = (let h = closed_size q.All xs a in rw form_size-All (record { longest = omega (arith, h.longest); variables = omega (arith, h.variables) }))
closed_size q.Ex (x ∷ xs) a = (let h = closed_size q.Ex xs a in rw form_size-Ex (record { longest = omega (arith, h.longest); variables = omega (arith, h.variables) }))

binders : (xs : List BoundVar) → (all_of (map (λ x. one_variable) xs)).variables ≡ length xs
binders [] = refl
binders (x ∷ xs) = let rest = binders xs in omega (arith, rest)

-- ---- formulas

abbrev pub FormFits : Surface → Type 0
FormFits a = (here : Setting) (scope : List Variable) (s t : State) (form : Form) → denoted_form here a scope s ≡ Ok (form, t) → Fits (size_of_form a) (variables_of a) (form_size form)

-- lists of them
record AllFit (sizes : List Size) (noting : List Variable → List Variable) (forms : List Size) : Type 0 where
  count : length forms ≡ length sizes
  all : Fits (all_of sizes) noting (all_of forms)

members_fit : (here : Setting) (scope : List Variable) (as_ : List Surface) (place : ℕ) (s t : State) (forms : List Form) → AllByRecursion FormFits as_
    → each (λ p a. denoted_form here a scope) place as_ s ≡ Ok (forms, t) → AllFit (map size_of_form as_) (in_turn (map variables_of as_)) (map form_size forms)
members_fit here scope [] place s t forms all e = at_ok {E = SortRule} (λ (fs : List Form) (u : State). AllFit [] (in_turn []) (map form_size fs)) [] forms s t e (record { count = refl; all = record { longest = omega arith; variables = λ found. omega arith } })
members_fit here scope (a ∷ as_) place s t forms all e =
    let parts = then_ok (denoted_form here a scope s) (λ y u. mapped (λ ys. y ∷ ys) (each (λ p b. denoted_form here b scope) (place + 1) as_ u)) forms t e in
    let more = mapped_ok (λ (ys : List Form). parts.0 ∷ ys) (each (λ p b. denoted_form here b scope) (place + 1) as_ parts.1) forms t parts.3 in
    let first = all.0 here scope s parts.1 parts.0 parts.2 in
    let others = members_fit here scope as_ (place + 1) parts.1 t more.0 all.1 more.1 in
    subst (λ (fs : List Form). AllFit (map size_of_form (a ∷ as_)) (in_turn (map variables_of (a ∷ as_))) (map form_size fs)) more.2 (record {
      count = omega (arith, others.count);
      all = record {
        longest = omega (arith, first.longest, others.all.longest);
        variables = λ found. (let one = first.variables found in let rest = others.all.variables (variables_of a found) in omega (arith, one, rest));
      };
    })

list_fits : (sizes forms : List Size) (noting : List Variable → List Variable) → AllFit sizes noting forms → Fits (list_of sizes) noting (list_of forms)
list_fits sizes forms noting h = record {
  longest = omega (arith, h.count, h.all.longest);
  variables = λ found. (let few = h.all.variables found in omega (arith, few));
}

-- a connective
joined_size : (o : BinOp) (a b : Form) → ((form_size (joined o a b)).longest ≤ max 2 (max (form_size a).longest (form_size b).longest)) × ((form_size (joined o a b)).variables ≡ (form_size a).variables + (form_size b).variables)
joined_size op.Imp a b = rw form_size-Imp (omega arith, omega arith)
joined_size op.RevImp a b = rw form_size-Imp (omega arith, omega arith)
joined_size op.Iff a b = rw form_size-Iff (omega arith, omega arith)
joined_size op.Xor a b = rw (form_size-Not, form_size-Iff) (omega arith, omega arith)
joined_size op.Nor a b = rw (form_size-Not, form_size-Or) (omega arith, omega arith)
joined_size op.Nand a b = rw (form_size-Not, form_size-And) (omega arith, omega arith)

bind_fits : (here : Setting) (quant : Quant) (xs : List BoundVar) (a : Surface) → FormFits a → (scope : List Variable) (s t : State) (form : Form) → bound here quant xs a scope s ≡ Ok (form, t)
    → Fits (both (list_of (map (λ x. one_variable) xs)) (size_of_form a)) (variables_of a) (form_size form)
bind_fits here quant xs a fits scope s t form e =
    let parts = then_ok (each (λ p. bound_variable) 0 xs s) (λ vs u. mapped (closed quant vs) (denoted_form here a (scope ++ vs) u)) form t e in
    let inner = mapped_ok (closed quant parts.0) (denoted_form here a (scope ++ parts.0) parts.1) form t parts.3 in
    let count = variables_are xs 0 s parts.1 parts.0 parts.2 in
    let own = fits here (scope ++ parts.0) parts.1 t inner.0 inner.1 in
    let whole = closed_size quant parts.0 inner.0 in
    subst (λ (b : Form). Fits (both (list_of (map (λ x. one_variable) xs)) (size_of_form a)) (variables_of a) (form_size b)) inner.2 (record {
      longest = omega (arith, whole.longest, own.longest);
      variables = λ found. (let few = own.variables found in omega (arith, few, whole.variables, count, binders xs));
    })

pub forms_fit : (a : Surface) → FormFits a
forms_fit = form_induction FormFits (record {
  truth = λ here scope s t form e. at_ok {E = SortRule} (λ (b : Form) (u : State). Fits (size_of_form fm.True) (variables_of fm.True) (form_size b)) (And []) form s t (rw denoted_form-True at e)
      (rw (form_size-And, size-True) (record { longest = omega arith; variables = λ found. rw of-True (omega arith) }));
  falsity = λ here scope s t form e. at_ok {E = SortRule} (λ (b : Form) (u : State). Fits (size_of_form fm.False) (variables_of fm.False) (form_size b)) (Or []) form s t (rw denoted_form-False at e)
      (rw (form_size-Or, size-False) (record { longest = omega arith; variables = λ found. rw of-False (omega arith) }));
  atom = λ p ts here scope s t form e.
      let plain = beside_fits (λ b. IsPlain (list_of (map size_of_term ts)) (form_size b)) s.bound (atom here scope p ts s.vocabulary) form t (λ w b k. atom_fits here scope p ts s.vocabulary w b k) (rw denoted_form-Atom at e) in
      rw size-Atom (plain_fits (list_of (map size_of_term ts)) (form_size form) (variables_of (fm.Atom p ts)) plain
      (λ found. rw of-Atom (let few = all_noted size_of_term variables_of_term ts (terms_noted ts) found in omega (arith, few))));
  eq = λ l r here scope s t form e.
      let plain = beside_fits (λ b. IsPlain (both (size_of_term l) (size_of_term r)) (form_size b)) s.bound (equation here scope l r s.vocabulary) form t (λ w b k. equation_fits here scope l r s.vocabulary w b k) (rw denoted_form-Eq at e) in
      rw size-Eq (plain_fits (both (size_of_term l) (size_of_term r)) (form_size form) (variables_of (fm.Eq l r)) plain (λ found. rw of-Eq (both_noted l r found)));
  neq = λ l r here scope s t form e.
      let inner = mapped_ok Not (beside s.bound (equation here scope l r s.vocabulary)) form t (rw denoted_form-Neq at e) in
      let plain = beside_fits (λ b. IsPlain (both (size_of_term l) (size_of_term r)) (form_size b)) s.bound (equation here scope l r s.vocabulary) inner.0 t (λ w b k. equation_fits here scope l r s.vocabulary w b k) inner.1 in
      subst (λ (b : Form). Fits (size_of_form (fm.Neq l r)) (variables_of (fm.Neq l r)) (form_size b)) inner.2
      (rw (form_size-Not, size-Neq) (plain_fits (both (size_of_term l) (size_of_term r)) (form_size inner.0) (variables_of (fm.Neq l r)) plain (λ found. rw of-Neq (both_noted l r found))));
  not = λ a fits here scope s t form e.
      let inner = mapped_ok Not (denoted_form here a scope s) form t (rw denoted_form-Not at e) in
      let own = fits here scope s t inner.0 inner.1 in
      subst (λ (b : Form). Fits (size_of_form (fm.Not a)) (variables_of (fm.Not a)) (form_size b)) inner.2
      (rw (form_size-Not, size-Not) (record { longest = own.longest; variables = λ found. rw of-Not (own.variables found) }));
  and = λ as_ all here scope s t form e.
      let inner = mapped_ok And (each (λ p a. denoted_form here a scope) 0 as_ s) form t (rw denoted_form-And at e) in
      let own = list_fits (map size_of_form as_) (map form_size inner.0) (in_turn (map variables_of as_)) (members_fit here scope as_ 0 s t inner.0 all inner.1) in
      subst (λ (b : Form). Fits (size_of_form (fm.And as_)) (variables_of (fm.And as_)) (form_size b)) inner.2
      (rw (form_size-And, size-And) (record { longest = own.longest; variables = λ found. rw of-And (own.variables found) }));
  or = λ as_ all here scope s t form e.
      let inner = mapped_ok Or (each (λ p a. denoted_form here a scope) 0 as_ s) form t (rw denoted_form-Or at e) in
      let own = list_fits (map size_of_form as_) (map form_size inner.0) (in_turn (map variables_of as_)) (members_fit here scope as_ 0 s t inner.0 all inner.1) in
      subst (λ (b : Form). Fits (size_of_form (fm.Or as_)) (variables_of (fm.Or as_)) (form_size b)) inner.2
      (rw (form_size-Or, size-Or) (record { longest = own.longest; variables = λ found. rw of-Or (own.variables found) }));
  binary = λ o a b one two here scope s t form e.
      let parts = then_ok (denoted_form here a scope s) (λ x u. mapped (joined o x) (denoted_form here b scope u)) form t (rw denoted_form-Binary at e) in
      let inner = mapped_ok (joined o parts.0) (denoted_form here b scope parts.1) form t parts.3 in
      let left = one here scope s parts.1 parts.0 parts.2 in
      let right = two here scope parts.1 t inner.0 inner.1 in
      let whole = joined_size o parts.0 inner.0 in
      subst (λ (c : Form). Fits (size_of_form (fm.Binary o a b)) (variables_of (fm.Binary o a b)) (form_size c)) inner.2 (rw size-Binary (record {
        longest = omega (arith, whole.0, left.longest, right.longest);
        variables = λ found. rw of-Binary (let first = left.variables found in let second = right.variables (variables_of a found) in omega (arith, whole.1, first, second));
      }));
  bind = λ quant xs a fits here scope s t form e.
      let own = bind_fits here quant xs a fits scope s t form (rw denoted_form-Bind at e) in
      rw size-Bind (record { longest = own.longest; variables = λ found. rw of-Bind (own.variables found) });
})
