-- How many variables a formula binds, by its parts.
use Rattle.std.specs.Prelude.{ℕ, ◌≡◌, ◌+◌, List, [], ◌∷◌, map, sum}
use Rattle.std.specs.List.{AllByRecursion}
use Rattle.std.proofs.Common.{ap, ◌∙◌, arith, refl}
use Rattle.tptp_base.specs.Sizes.{Size, all_of, list_of}
use Rattle.fof_terms.specs.Sizes.{form_size, term_size}
use Rattle.fof_terms.specs.declared.term.Term.{Term}
use Rattle.fof_terms.specs.declared.form.Form.{Form, Atom, Eq, Not, And, Or, Imp, Iff, All, Ex}
use Rattle.fof_terms.proofs.Induction.{term_induction}
use Rattle.fof_terms.proofs.SizeFacts.{term_size-Var, term_size-App, form_size-Atom, form_size-Eq, form_size-Not, form_size-And, form_size-Or, form_size-Imp, form_size-Iff, form_size-All, form_size-Ex}
use Rattle.clause_form.proofs.SizeLaws.{sum_cons}

abbrev variables_in : Size → ℕ
variables_in z = z.variables

abbrev bound : Form → ℕ
bound a = (form_size a).variables

-- ---- terms bind none

none_in_each : (ts : List Term) → AllByRecursion (λ t. (term_size t).variables ≡ 0) ts → (all_of (map term_size ts)).variables ≡ 0
none_in_each [] all = refl
none_in_each (t ∷ ts) all = omega (arith, all.0, none_in_each ts all.1)

none_in_term : (t : Term) → (term_size t).variables ≡ 0
none_in_term = term_induction (λ t. (term_size t).variables ≡ 0) (record {
  var = λ k. rw term_size-Var refl;
  app = λ f ts all. rw term_size-App (omega (arith, none_in_each ts all));
})

none_in_terms : (ts : List Term) → AllByRecursion (λ t. (term_size t).variables ≡ 0) ts
none_in_terms [] = tt
none_in_terms (t ∷ ts) = (none_in_term t, none_in_terms ts)

-- ---- lists

of_list : (parts : List Size) → (list_of parts).variables ≡ (all_of parts).variables
of_list parts = omega arith

of_all : (as_ : List Form) → (all_of (map form_size as_)).variables ≡ sum (map bound as_)
of_all [] = refl
of_all (a ∷ as_) = rw (sum_cons (bound a) (map bound as_)) (omega (arith, of_all as_))

-- ---- formulas

pub variables-Atom : (p : ℕ) (ts : List Term) → bound (Atom p ts) ≡ 0
variables-Atom p ts = ap variables_in (form_size-Atom p ts) ∙ of_list (map term_size ts) ∙ none_in_each ts (none_in_terms ts)

pub variables-Eq : (l r : Term) → bound (Eq l r) ≡ 0
variables-Eq l r =
    let none : (term_size l).variables + (term_size r).variables ≡ 0 = omega (arith, none_in_term l, none_in_term r) in
    ap variables_in (form_size-Eq l r) ∙ none

pub variables-Not : (a : Form) → bound (Not a) ≡ bound a
variables-Not a = ap variables_in (form_size-Not a)

pub variables-And : (as_ : List Form) → bound (And as_) ≡ sum (map bound as_)
variables-And as_ = ap variables_in (form_size-And as_) ∙ of_list (map form_size as_) ∙ of_all as_

pub variables-Or : (as_ : List Form) → bound (Or as_) ≡ sum (map bound as_)
variables-Or as_ = ap variables_in (form_size-Or as_) ∙ of_list (map form_size as_) ∙ of_all as_

pub variables-Imp : (a b : Form) → bound (Imp a b) ≡ bound a + bound b
variables-Imp a b = ap variables_in (form_size-Imp a b)

pub variables-Iff : (a b : Form) → bound (Iff a b) ≡ bound a + bound b
variables-Iff a b = ap variables_in (form_size-Iff a b)

pub variables-All : (s : ℕ) (a : Form) → bound (All s a) ≡ 1 + bound a
variables-All s a = ap variables_in (form_size-All s a)

pub variables-Ex : (s : ℕ) (a : Form) → bound (Ex s a) ≡ 1 + bound a
variables-Ex s a = ap variables_in (form_size-Ex s a)

pub ruleset variables_equations = (variables-Atom, variables-Eq, variables-Not, variables-And, variables-Or, variables-Imp, variables-Iff, variables-All, variables-Ex)
