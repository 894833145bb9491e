-- The equations of propositional formulas, and tests of them.
use Rattle.std.specs.Prelude.{ℕ, ◌≡◌, ◌+◌, ◌&&◌, ◌<◌, ◌^◌, ◌++◌, ◌∷◌, [], ◌↔◌, Bool, true, false, List, map, take, length, get_or, IsTrue, refl}
use Rattle.std.specs.List.{All as Each, AllByRecursion, Contains, list_all}
use Rattle.std.proofs.Common.{ap, sym, subst, ◌∙◌, arith, inl, inr}
use Rattle.std.proofs.lemmas.List.{take_more}
use Rattle.std.proofs.lemmas.List.Elements.{All-weaker, Contains-append_cases, Contains-append_left, Contains-append_right, Contains-push, Contains-push_cases}
use Rattle.fof_terms.specs.Sorts.{binder_depth}
use Rattle.fof_terms.specs.Vocabulary.{Vocabulary}
use Rattle.fof_terms.specs.declared.term.Term.{Term}
use Rattle.fof_terms.specs.declared.form.Form.{Form, Atom, Eq, Not, And, Or, Imp, Iff, All, Ex}
use Rattle.fof_terms.proofs.Trees.{fold-Atom, fold-Eq, fold-Not, fold-And, fold-Or, fold-Imp, fold-Iff, fold-All, fold-Ex}
use Rattle.clause_form.specs.Norm.{norm_of}
use Rattle.clause_form.specs.Paths.{forms_of}
use Rattle.clause_form.specs.declared.path.Parent.{Parent}
use Rattle.clause_rules.specs.Steps.{AreReady, IsReady}
use Rattle.sat_step.specs.Propositional.{IsPropositionalStep, is_propositional, propositional_step, step_norms}
use Rattle.sat_step.proofs.Renaming.{in_map, map_in}

all_of : (f : Form → Bool) (as_ : List Form) → list_all (λ b. b) (map f as_) ≡ list_all f as_
all_of f [] = refl
all_of f (a ∷ as_) = ap (λ b. f a && b) (all_of f as_)

pub propositional-Atom : (p : ℕ) (ts : List Term) → is_propositional (Atom p ts) ≡ true
unfolding is_propositional
propositional-Atom p ts = fold-Atom Bool propositional_step p ts

pub propositional-Eq : (l r : Term) → is_propositional (Eq l r) ≡ false
unfolding is_propositional
propositional-Eq l r = fold-Eq Bool propositional_step l r

pub propositional-Not : (a : Form) → is_propositional (Not a) ≡ is_propositional a
unfolding is_propositional
propositional-Not a = fold-Not Bool propositional_step a

pub propositional-And : (as_ : List Form) → is_propositional (And as_) ≡ list_all is_propositional as_
unfolding is_propositional
propositional-And as_ = fold-And Bool propositional_step as_ ∙ all_of is_propositional as_

pub propositional-Or : (as_ : List Form) → is_propositional (Or as_) ≡ list_all is_propositional as_
unfolding is_propositional
propositional-Or as_ = fold-Or Bool propositional_step as_ ∙ all_of is_propositional as_

pub propositional-Imp : (a b : Form) → is_propositional (Imp a b) ≡ (is_propositional a && is_propositional b)
unfolding is_propositional
propositional-Imp a b = fold-Imp Bool propositional_step a b

pub propositional-Iff : (a b : Form) → is_propositional (Iff a b) ≡ (is_propositional a && is_propositional b)
unfolding is_propositional
propositional-Iff a b = fold-Iff Bool propositional_step a b

pub propositional-All : (s : ℕ) (a : Form) → is_propositional (All s a) ≡ false
unfolding is_propositional
propositional-All s a = fold-All Bool propositional_step s a

pub propositional-Ex : (s : ℕ) (a : Form) → is_propositional (Ex s a) ≡ false
unfolding is_propositional
propositional-Ex s a = fold-Ex Bool propositional_step s a

pub ruleset propositional_equations =
    (propositional-Atom, propositional-Eq, propositional-Not, propositional-And, propositional-Or, propositional-Imp, propositional-Iff, propositional-All, propositional-Ex)

-- the norms of the first parents are propositional
abbrev pub ArePropositional : List Parent → Type 0
ArePropositional parents = (p : Parent) → Contains parents p → is_propositional (norm_of true p.form) ≡ true

pub no_parent : ArePropositional []
no_parent p there = absurd (let lt = there.1 in omega arith)

pub parent_more : (parents : List Parent) (i : ℕ) (p : Parent) (b : Bool) → i < length parents → p ≡ get_or parents i p → b ≡ is_propositional (norm_of true p.form) → b ≡ true → ArePropositional (take i parents) → ArePropositional (take (i + 1) parents)
parent_more parents i p b lt is own on all q there =
    let longer : take (i + 1) parents ≡ take i parents ++ p ∷ [] = take_more parents i p lt ∙ ap (λ (d : Parent). take i parents ++ d ∷ []) (sym is) in
    elim (Contains-push_cases (take i parents) p q (subst (λ (ps : List Parent). Contains ps q) longer there)) [
      | inl before ↦ all q before
      | inr same ↦ subst (λ (r : Parent). is_propositional (norm_of true r.form) ≡ true) same (sym own ∙ on)
    ]

module _ (parents : List Parent) (line : Form) where
  abbrev norms : List Form
  norms = map (norm_of true) (forms_of parents)

  -- a parent whose norm is not propositional
  pub not_step : (p : Parent) → Contains parents p → is_propositional (norm_of true p.form) ≡ false → IsPropositionalStep (forms_of parents) line → ⊥
  not_step p there off step =
      let in_forms = map_in (λ (q : Parent). q.form) parents p there in
      let in_norms = map_in (norm_of true) (forms_of parents) p.form in_forms in
      let on = step (norm_of true p.form) (Contains-append_left norms (norm_of false line ∷ []) (norm_of true p.form) in_norms) in
      let both : false ≡ true = sym off ∙ on in
      cc

  pub line_of_step : IsPropositionalStep (forms_of parents) line → is_propositional (norm_of false line) ≡ true
  line_of_step step = step (norm_of false line) (Contains-append_right norms (norm_of false line ∷ []) (norm_of false line) (Contains-push [] (norm_of false line)))

  pub is_step : ArePropositional parents → is_propositional (norm_of false line) ≡ true → IsPropositionalStep (forms_of parents) line
  is_step all own a there =
      elim (Contains-append_cases norms (norm_of false line ∷ []) a there) [
        | inl front ↦
            let norm = in_map (norm_of true) (forms_of parents) a front in
            let form = in_map (λ (q : Parent). q.form) parents norm.0 norm.1 in
            subst (λ (b : Form). is_propositional b ≡ true) (ap (norm_of true) form.2 ∙ norm.2) (all form.0 form.1)
        | inr last ↦ elim (Contains-push_cases [] (norm_of false line) a last) [
          | inl none ↦ absurd (let lt = none.1 in omega arith)
          | inr same ↦ subst (λ (b : Form). is_propositional b ≡ true) same own
        ]
      ]

-- formulas that are ready have few quantifiers inside each other
pub few_in_parents : (v : Vocabulary) (parents : List Parent) → AreReady v parents → Each (λ (p : Parent). binder_depth p.form < 2 ^ 32) parents
few_in_parents v parents ready = All-weaker (λ (p : Parent). IsReady v p.form) (λ (p : Parent). binder_depth p.form < 2 ^ 32) (λ p r. let few = r.few_binders in omega arith) parents ready

pub few_in_line : (v : Vocabulary) (line : Form) → IsReady v line → binder_depth line < 2 ^ 32
few_in_line v line r = let few = r.few_binders in omega arith
