-- A formula without existential quantifiers stays as it is where functions take their places.
use Rattle.std.specs.Prelude.{ℕ, ◌≡◌, ◌+◌, List, [], ◌∷◌, ◌++◌, map, refl}
use Rattle.std.specs.List.{AllByRecursion}
use Rattle.std.proofs.Common.{ap, sym, ◌∙◌, arith, zero, suc}
use Rattle.fof_terms.specs.declared.term.Term.{Term, Var}
use Rattle.fof_terms.specs.declared.form.Form.{Form, Atom, Not, And, Or, All}
use Rattle.fof_terms.specs.Lift.{lifted_term}
use Rattle.fof_terms.proofs.Induction.{form_induction}
use Rattle.fof_terms.proofs.LiftingLaws.{moves}
use Rattle.fof_terms.proofs.Walks.{same_terms, staying_term}
use Rattle.clause_form.specs.Clauses.{in_turn, joined_lists, skolem_made, skolemized, under_all}
use Rattle.clause_form.specs.Images.{image}
use Rattle.clause_form.proofs.ImagesFacts.{image-Var}
use Rattle.clause_form.proofs.ClausesFacts.{skolem_made-Atom, skolem_made-Eq, skolem_made-Not, skolem_made-And, skolem_made-Or, skolem_made-Imp, skolem_made-Iff, skolem_made-All}
use Rattle.clause_rules.proofs.LitImages.{imaging}
use Rattle.step_clauses.specs.Existentials.{existentials, existentials_within}
use Rattle.step_clauses.proofs.ExistentialsFacts.{existentials_within-Not, existentials_within-And, existentials_within-Or, existentials_within-Imp, existentials_within-Iff, existentials_within-All, existentials_within-Ex}

both_empty : {X : Type 0} (xs ys : List X) → xs ++ ys ≡ [] → (xs ≡ []) × (ys ≡ [])
both_empty [] ys e = (refl, e)
both_empty (x ∷ xs) ys e = cc

-- each variable stands for itself
abbrev Stay : (ℕ → Term) → Type 0
Stay s = (k : ℕ) → s k ≡ Var k

term_stays : (s : ℕ → Term) → Stay s → (t : Term) → image s t ≡ t
term_stays s e = same_terms (image s) (λ t. t) (imaging s) staying_term (λ k. image-Var s k ∙ e k)

terms_stay : (s : ℕ → Term) → Stay s → (ts : List Term) → map (image s) ts ≡ ts
terms_stay s e [] = refl
terms_stay s e (t ∷ ts) = rw (term_stays s e t, terms_stay s e ts) refl

under_stays : (s : ℕ → Term) → Stay s → Stay (under_all s)
under_stays s e zero = refl
under_stays s e (suc k) = ap (lifted_term 1 0) (e k) ∙ moves 1 0 k (omega arith) ∙ ap Var (omega arith)

abbrev IsPlain : Form → Type 0
IsPlain a = (around : List ℕ) → existentials_within a around ≡ [] → (next n : ℕ) (s : ℕ → Term) → Stay s → skolem_made a next n s ≡ (a, next)

in_turn_stay : (as_ : List Form) → AllByRecursion IsPlain as_ → (around : List ℕ) → joined_lists (map (λ (a : Form). existentials_within a around) as_) ≡ [] → (next n : ℕ) (s : ℕ → Term) → Stay s
    → in_turn (map skolem_made as_) next n s ≡ (as_, next)
in_turn_stay [] all around none next n s e = refl
in_turn_stay (a ∷ as_) all around none next n s e =
    let parts = both_empty (existentials_within a around) (joined_lists (map (λ (b : Form). existentials_within b around) as_)) none in
    rw (all.0 around parts.0 next n s e, in_turn_stay as_ all.1 around parts.1 next n s e) refl

plain_stays : (a : Form) → IsPlain a
plain_stays = form_induction IsPlain (record {
  atom = λ p ts around none next n s e. ap (λ m. m next n s) (skolem_made-Atom p ts) ∙ ap (λ (us : List Term). (Atom p us, next)) (terms_stay s e ts);
  eq = λ l r around none next n s e. ap (λ m. m next n s) (skolem_made-Eq l r) ∙ rw (term_stays s e l, term_stays s e r) refl;
  not = λ a ih around none next n s e. ap (λ m. m next n s) (skolem_made-Not a) ∙ ap (λ (x : Form × ℕ). (Not x.0, x.1)) (ih around (sym (existentials_within-Not a around) ∙ none) next n s e);
  and = λ as_ all around none next n s e.
      ap (λ m. m next n s) (skolem_made-And as_) ∙ ap (λ (x : List Form × ℕ). (And x.0, x.1)) (in_turn_stay as_ all around (sym (existentials_within-And as_ around) ∙ none) next n s e);
  or = λ as_ all around none next n s e.
      ap (λ m. m next n s) (skolem_made-Or as_) ∙ ap (λ (x : List Form × ℕ). (Or x.0, x.1)) (in_turn_stay as_ all around (sym (existentials_within-Or as_ around) ∙ none) next n s e);
  imp = λ a b ih jh around none next n s e.
      let parts = both_empty (existentials_within a around) (existentials_within b around) (sym (existentials_within-Imp a b around) ∙ none) in
      ap (λ m. m next n s) (skolem_made-Imp a b) ∙ rw (ih around parts.0 next n s e, jh around parts.1 next n s e) refl;
  iff = λ a b ih jh around none next n s e.
      let parts = both_empty (existentials_within a around) (existentials_within b around) (sym (existentials_within-Iff a b around) ∙ none) in
      ap (λ m. m next n s) (skolem_made-Iff a b) ∙ rw (ih around parts.0 next n s e, jh around parts.1 next n s e) refl;
  all = λ q a ih around none next n s e.
      ap (λ m. m next n s) (skolem_made-All q a) ∙ ap (λ (x : Form × ℕ). (All q x.0, x.1)) (ih (around ++ q ∷ []) (sym (existentials_within-All q a around) ∙ none) next (n + 1) (under_all s) (under_stays s e));
  ex = λ q a ih around none next n s e. absurd (let clash : record { around = around; sort = q } ∷ existentials_within a around ≡ [] = sym (existentials_within-Ex q a around) ∙ none in cc);
})

pub plain_skolemized : (a : Form) (next : ℕ) → existentials a ≡ [] → skolemized a next ≡ a
plain_skolemized a next none = ap (λ (x : Form × ℕ). x.0) (plain_stays a [] none next 0 Var (λ k. refl))
