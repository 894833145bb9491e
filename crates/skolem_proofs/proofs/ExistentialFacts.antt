-- A normal form without existential quantifiers, and the equations of that word.
use Rattle.std.specs.Prelude.{ℕ, ◌≡◌, Bool, true, false, List, [], ◌∷◌, ◌++◌, refl}
use Rattle.std.specs.List.{list_any}
use Rattle.std.proofs.Common.{ap, sym, ◌∙◌}
use Rattle.fof_terms.proofs.OccursFacts.{list_any-map}
use Rattle.fof_terms.proofs.Trees.{fold-Atom, fold-Eq, fold-Not, fold-And, fold-Or, fold-Imp, fold-Iff, fold-All, fold-Ex}
use Rattle.fof_terms.specs.declared.term.Term.{Term}
use Rattle.fof_terms.specs.declared.form.Form.{Form, Atom, Eq, Not, And, Or, Imp, Iff, All, Ex}
use Rattle.fof_terms.specs.Vocabulary.{Vocabulary}
use Rattle.skolem_fresh.specs.declared.just.Use.{Use}
use Rattle.skolem_fresh.proofs.Entering.{neither}
use Rattle.skolem_fresh.specs.SkolemRule.{IsSkolemized, AreSkolemized, an_atom, an_equation, a_negation, a_conjunction, a_disjunction, for_each, for_some, none, more}
use Rattle.skolem_proofs.specs.code.Existentials.{existential_step, has_existential}

pub has_existential-Atom : (p : ℕ) (ts : List Term) → has_existential (Atom p ts) ≡ false
unfolding has_existential
has_existential-Atom p ts = fold-Atom Bool existential_step p ts

pub has_existential-Eq : (l r : Term) → has_existential (Eq l r) ≡ false
unfolding has_existential
has_existential-Eq l r = fold-Eq Bool existential_step l r

pub has_existential-Not : (a : Form) → has_existential (Not a) ≡ false
unfolding has_existential
has_existential-Not a = fold-Not Bool existential_step a

pub has_existential-And : (as_ : List Form) → has_existential (And as_) ≡ list_any has_existential as_
unfolding has_existential
has_existential-And as_ = fold-And Bool existential_step as_ ∙ list_any-map (λ b. b) _ as_

pub has_existential-Or : (as_ : List Form) → has_existential (Or as_) ≡ list_any has_existential as_
unfolding has_existential
has_existential-Or as_ = fold-Or Bool existential_step as_ ∙ list_any-map (λ b. b) _ as_

pub has_existential-Imp : (a b : Form) → has_existential (Imp a b) ≡ false
unfolding has_existential
has_existential-Imp a b = fold-Imp Bool existential_step a b

pub has_existential-Iff : (a b : Form) → has_existential (Iff a b) ≡ false
unfolding has_existential
has_existential-Iff a b = fold-Iff Bool existential_step a b

pub has_existential-All : (s : ℕ) (a : Form) → has_existential (All s a) ≡ has_existential a
unfolding has_existential
has_existential-All s a = fold-All Bool existential_step s a

pub has_existential-Ex : (s : ℕ) (a : Form) → has_existential (Ex s a) ≡ true
unfolding has_existential
has_existential-Ex s a = fold-Ex Bool existential_step s a

pub ruleset existential_equations = (has_existential-Atom, has_existential-Eq, has_existential-Not, has_existential-And, has_existential-Or, has_existential-Imp, has_existential-Iff, has_existential-All, has_existential-Ex)

-- a formula with existential quantifiers is not one that has none
pub not_here : (a b : Form) (found : Bool) → found ≡ has_existential a → found ≡ true → a ≡ b → has_existential b ≡ false → ⊥
not_here a b found f t e off = let both : true ≡ false = sym t ∙ f ∙ ap has_existential e ∙ off in cc

-- Without existential quantifiers no function takes a place, and the formula stays what it is.
module _ (v : Vocabulary) where
  mutual
    pub stays : (scope : List ℕ) (uses : List Use) (a b : Form) → IsSkolemized v scope uses a b → has_existential a ≡ false → (uses ≡ []) × (b ≡ a)
    stays scope uses a b (an_atom sc p ts) e = (refl, refl)
    stays scope uses a b (an_equation sc l r) e = (refl, refl)
    stays scope uses a b (a_negation sc c) e = (refl, refl)
    stays scope uses a b (a_conjunction sc us as_ bs h) e = let all = all_stay scope us as_ bs h (sym (has_existential-And as_) ∙ e) in (all.0, ap And all.1)
    stays scope uses a b (a_disjunction sc us as_ bs h) e = let all = all_stay scope us as_ bs h (sym (has_existential-Or as_) ∙ e) in (all.0, ap Or all.1)
    stays scope uses a b (for_each sc us s c d h) e = let inner = stays (s ∷ scope) us c d h (sym (has_existential-All s c) ∙ e) in (inner.0, ap (All s) inner.1)
    stays scope uses a b (for_some sc u rest s c d m h) e = let both : true ≡ false = sym (has_existential-Ex s c) ∙ e in cc

    all_stay : (scope : List ℕ) (uses : List Use) (as_ bs : List Form) → AreSkolemized v scope uses as_ bs → list_any has_existential as_ ≡ false → (uses ≡ []) × (bs ≡ as_)
    all_stay scope uses as_ bs (none sc) e = (refl, refl)
    all_stay scope uses as_ bs (more sc first rest a b cs ds h g) e =
        let parts = neither (has_existential a) (list_any has_existential cs) e in
        let one = stays scope first a b h parts.0 in
        let others = all_stay scope rest cs ds g parts.1 in
        (ap (λ (us : List Use). us ++ rest) one.0 ∙ others.0, ap (λ (c : Form). c ∷ ds) one.1 ∙ ap (λ (xs : List Form). a ∷ xs) others.1)
