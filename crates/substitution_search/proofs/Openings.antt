-- What the search for a covered path knows of formulas: their views, and which of them are no more than a leaf.
use Rattle.std.specs.Prelude.{ℕ, ◌≡◌, List, [], ◌∷◌, map, Option, None, refl}
use Rattle.std.specs.List.{AllByRecursion}
use Rattle.std.proofs.Common.{ap, sym, subst, ◌∙◌, inl, inr, ◌⊎◌}
use Rattle.fof_terms.specs.declared.term.Term.{Term}
use Rattle.fof_terms.proofs.Induction.{form_induction}
use Rattle.fof_terms.specs.declared.form.Form.{Form, Atom, Eq, Not, And, Or, Imp, Iff, All, Ex}
use Rattle.fof_terms.specs.declared.form.Form.TheViews.{out-Form, outs-Atom, outs-Eq, outs-Not, outs-Imp, outs-Iff, outs-Ex}
use Rattle.clause_form.specs.declared.clause.Lit.{Lit}
use Rattle.clause_form.specs.declared.clause.Clause.{Clause}
use Rattle.clause_form.specs.ClauseView.{View, view_of, view_step}
use Rattle.clause_form.proofs.ClauseViewFacts.{view_of-Atom, view_of-Eq, view_of-Not, view_of-And, view_of-Or, view_of-Imp, view_of-Iff, view_of-All, view_of-Ex}
use Rattle.clause_form.specs.Paths.{plain, pick_in, each_in, under_in}
use Rattle.substitution_search.specs.CoverSearch.{views, opened_leaf, opening}
use Rattle.substitution_search.proofs.CoverSearchFacts.{opening-Atom, opening-Eq, opening-Not, opening-And, opening-Or, opening-Imp, opening-Iff, opening-All, opening-Ex}
use Rattle.fof_terms.specs.declared.form.Form.TheOpen as form

module _ (line : List Lit) where
  same_views : (as_ : List Form) → AllByRecursion (λ a. (opening line a).view ≡ view_of a) as_ → views (map (opening line) as_) ≡ map view_of as_
  same_views [] h = refl
  same_views (a ∷ as_) h = rw (h.0, same_views as_ h.1) refl

  pub view_is : (a : Form) → (opening line a).view ≡ view_of a
  view_is = form_induction _ (record {
    atom = λ p ts. rw (opening-Atom, view_of-Atom) refl;
    eq = λ l r. rw (opening-Eq, view_of-Eq) refl;
    not = λ a ih. rw (opening-Not, view_of-Not, ih) refl;
    and = λ as_ all. rw (opening-And, view_of-And) (ap (λ vs. view_step (form.And vs)) (same_views as_ all));
    or = λ as_ all. rw (opening-Or, view_of-Or) (ap (λ vs. view_step (form.Or vs)) (same_views as_ all));
    imp = λ a b ih jh. rw (opening-Imp, view_of-Imp) refl;
    iff = λ a b ih jh. rw (opening-Iff, view_of-Iff) refl;
    all = λ s a ih. rw (opening-All, view_of-All, ih) refl;
    ex = λ s a ih. rw (opening-Ex, view_of-Ex) refl;
  })

-- the formula is no conjunction, disjunction or universal formula
abbrev pub IsLeafLayer : form.Form-F Form → Type 0
IsLeafLayer (form.Atom p ts) = Unit {0}
IsLeafLayer (form.Eq l r) = Unit {0}
IsLeafLayer (form.Not a) = Unit {0}
IsLeafLayer (form.And as_) = ⊥
IsLeafLayer (form.Or as_) = ⊥
IsLeafLayer (form.Imp a b) = Unit {0}
IsLeafLayer (form.Iff a b) = Unit {0}
IsLeafLayer (form.All s a) = ⊥
IsLeafLayer (form.Ex s a) = Unit {0}

abbrev Way : Type 0
Way = Form → Option Clause

pub no_pick : (k : ℕ) (w : Way) (y : form.Form-F Form) → IsLeafLayer y → pick_in k w y ≡ None
no_pick k w (form.Atom p ts) h = refl
no_pick k w (form.Eq l r) h = refl
no_pick k w (form.Not a) h = refl
no_pick k w (form.And as_) h = absurd h
no_pick k w (form.Or as_) h = absurd h
no_pick k w (form.Imp a b) h = refl
no_pick k w (form.Iff a b) h = refl
no_pick k w (form.All s a) h = absurd h
no_pick k w (form.Ex s a) h = refl

pub no_each : (ws : List Way) (y : form.Form-F Form) → IsLeafLayer y → each_in ws y ≡ None
no_each ws (form.Atom p ts) h = refl
no_each ws (form.Eq l r) h = refl
no_each ws (form.Not a) h = refl
no_each ws (form.And as_) h = absurd h
no_each ws (form.Or as_) h = absurd h
no_each ws (form.Imp a b) h = refl
no_each ws (form.Iff a b) h = refl
no_each ws (form.All s a) h = absurd h
no_each ws (form.Ex s a) h = refl

pub no_under : (w : Way) (y : form.Form-F Form) → IsLeafLayer y → under_in w y ≡ None
no_under w (form.Atom p ts) h = refl
no_under w (form.Eq l r) h = refl
no_under w (form.Not a) h = refl
no_under w (form.And as_) h = absurd h
no_under w (form.Or as_) h = absurd h
no_under w (form.Imp a b) h = refl
no_under w (form.Iff a b) h = refl
no_under w (form.All s a) h = absurd h
no_under w (form.Ex s a) h = refl

-- of a conjunction, a disjunction or a universal formula no literal is reached
pub and_no_lit : (as_ : List Form) → plain (view_of (And as_)).lit ≡ None
and_no_lit [] = rw view_of-And refl
and_no_lit (a ∷ as_) = rw view_of-And refl

pub or_no_lit : (as_ : List Form) → plain (view_of (Or as_)).lit ≡ None
or_no_lit [] = rw view_of-Or refl
or_no_lit (a ∷ as_) = rw view_of-Or refl

pub all_no_lit : (s : ℕ) (a : Form) → plain (view_of (All s a)).lit ≡ None
all_no_lit s a = rw view_of-All refl

-- a formula that is opened as a leaf
pub record IsLeaf (line : List Lit) (a : Form) : Type 0 where
  pub opened : opening line a ≡ opened_leaf line (view_of a)
  pub layer : IsLeafLayer (out-Form a)

module _ (line : List Lit) where
  pub atom_leaf : (p : ℕ) (ts : List Term) → IsLeaf line (Atom p ts)
  atom_leaf p ts = record { opened = rw (opening-Atom, view_of-Atom) refl; layer = subst IsLeafLayer (sym (outs-Atom p ts)) tt }

  pub eq_leaf : (l r : Term) → IsLeaf line (Eq l r)
  eq_leaf l r = record { opened = rw (opening-Eq, view_of-Eq) refl; layer = subst IsLeafLayer (sym (outs-Eq l r)) tt }

  pub not_leaf : (a : Form) → IsLeaf line (Not a)
  not_leaf a = record {
    opened = opening-Not line a ∙ ap (λ (u : View). opened_leaf line (view_step (form.Not u))) (view_is line a) ∙ ap (opened_leaf line) (sym (view_of-Not a));
    layer = subst IsLeafLayer (sym (outs-Not a)) tt;
  }

  pub imp_leaf : (a b : Form) → IsLeaf line (Imp a b)
  imp_leaf a b = record { opened = rw (opening-Imp, view_of-Imp) refl; layer = subst IsLeafLayer (sym (outs-Imp a b)) tt }

  pub iff_leaf : (a b : Form) → IsLeaf line (Iff a b)
  iff_leaf a b = record { opened = rw (opening-Iff, view_of-Iff) refl; layer = subst IsLeafLayer (sym (outs-Iff a b)) tt }

  pub ex_leaf : (s : ℕ) (a : Form) → IsLeaf line (Ex s a)
  ex_leaf s a = record { opened = rw (opening-Ex, view_of-Ex) refl; layer = subst IsLeafLayer (sym (outs-Ex s a)) tt }

-- the formulas that are opened as leaves, as code meets them
abbrev pub IsLeafForm : Form → Type 0
IsLeafForm a =
    ((p : ℕ) × (ts : List Term) × (a ≡ Atom p ts)) ⊎ (((l : Term) × (r : Term) × (a ≡ Eq l r)) ⊎ (((b : Form) × (a ≡ Not b)) ⊎ (((b : Form) × (c : Form) × (a ≡ Imp b c)) ⊎ (((b : Form) × (c : Form) × (a ≡ Iff b c)) ⊎ ((s : ℕ) × (b : Form) × (a ≡ Ex s b))))))

pub leaf_form : (line : List Lit) (a : Form) → IsLeafForm a → IsLeaf line a
leaf_form line a h = elim h [
  | inl e ↦ subst (IsLeaf line) (sym e.2) (atom_leaf line e.0 e.1)
  | inr h ↦ elim h [
    | inl e ↦ subst (IsLeaf line) (sym e.2) (eq_leaf line e.0 e.1)
    | inr h ↦ elim h [
      | inl e ↦ subst (IsLeaf line) (sym e.1) (not_leaf line e.0)
      | inr h ↦ elim h [
        | inl e ↦ subst (IsLeaf line) (sym e.2) (imp_leaf line e.0 e.1)
        | inr h ↦ elim h [
          | inl e ↦ subst (IsLeaf line) (sym e.2) (iff_leaf line e.0 e.1)
          | inr e ↦ subst (IsLeaf line) (sym e.2) (ex_leaf line e.0 e.1)
        ]
      ]
    ]
  ]
]
