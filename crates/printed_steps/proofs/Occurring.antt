-- Each variable of a trimmed clause occurs in it.
use Rattle.std.specs.Prelude.{ℕ, zero, suc, ◌≡◌, ◌<◌, ◌||◌, Bool, true, false, if◌then◌else◌, List, [], ◌∷◌, ◌++◌, length, map, get_or, Some, slice_get, refl}
use Rattle.std.specs.List.{AllByRecursion, list_any}
use Rattle.std.proofs.Common.{ap, sym, ◌∙◌, arith, append-nil, eq-eqb, inl, inr}
use Rattle.std.proofs.lemmas.Bool.{eqb-true}
use Rattle.std.proofs.lemmas.List.{length-reverse}
use Rattle.std.proofs.lemmas.Option.{slice_get-get_or}
use Rattle.fof_terms.specs.declared.term.Term.{Term, Var}
use Rattle.fof_terms.specs.Variables.{has_in_term}
use Rattle.fof_terms.proofs.Induction.{term_induction}
use Rattle.fof_terms.proofs.VariablesFacts.{has_in_term-Var, has_in_term-App}
use Rattle.clause_form.specs.declared.clause.AtomOf.{AtomOf}
use Rattle.clause_form.specs.declared.clause.AtomOf.TheVariants.{Pred, Eq, True, False}
use Rattle.clause_form.specs.declared.clause.Lit.{Lit}
use Rattle.clause_form.specs.declared.clause.Clause.{Clause}
use Rattle.clause_form.specs.Covers.{at_terms, in_lit}
use Rattle.unify_terms.specs.Substitution.{applied, image_at}
use Rattle.unify_terms.proofs.SubstitutionFacts.{applied-Var, applied-App}
use Rattle.printed_clauses.specs.Trimmed.{count_below, has_in_atom, kept_sorts, occurs_in, trimmed}
use Rattle.printed_steps.specs.Carried.{HasItsVariables}
use Rattle.printed_steps.proofs.Kept.{kept_variables, sorts_counted, variables_counted}
use Rattle.printed_steps.proofs.ListEnds.{place_or_last}
use Rattle.printed_steps.proofs.Terms.{either, or_true}
use Rattle.printed_steps.proofs.Trimming.{number_at, numbers}

module _ (occurs : ℕ → Bool) where
  -- the variable at a place occurs, and the place is its new number
  abbrev IsAt : ℕ → ℕ → Type 0
  IsAt m k = (occurs k ≡ true) × (count_below occurs k ≡ m)

  kept_step : (b : Bool) (n m k : ℕ) → occurs n ≡ b → ((m k : ℕ) → slice_get (kept_variables occurs n) m ≡ Some k → IsAt m k)
      → slice_get (kept_variables occurs n ++ (if b then n ∷ [] else [])) m ≡ Some k → IsAt m k
  kept_step true n m k is deeper e = elim (place_or_last (kept_variables occurs n) n m k e) [
    | inl h ↦ deeper m k h
    | inr h ↦ (ap occurs (sym h.1) ∙ is, ap (count_below occurs) (sym h.1) ∙ sym (variables_counted occurs n) ∙ sym h.0)
  ]
  kept_step false n m k is deeper e = deeper m k (ap (λ (xs : List ℕ). slice_get xs m) (sym (append-nil (kept_variables occurs n))) ∙ e)

  kept_at : (n m k : ℕ) → slice_get (kept_variables occurs n) m ≡ Some k → IsAt m k
  kept_at zero m k e = cc
  kept_at (suc n) m k e = kept_step (occurs n) n m k refl (kept_at n) e

-- a variable that stands for one that occurs occurs
module _ (g : ℕ → Term) (k m : ℕ) (is : g k ≡ Var m) where
  abbrev Moves : Term → Type 0
  Moves t = has_in_term k t ≡ true → has_in_term m (applied g t) ≡ true

  any_moves : (ts : List Term) → AllByRecursion Moves ts → list_any (has_in_term k) ts ≡ true → list_any (has_in_term m) (map (applied g) ts) ≡ true
  any_moves [] all e = cc
  any_moves (t ∷ ts) all e = elim (either (has_in_term k t) (list_any (has_in_term k) ts) e) [
    | inl h ↦ ap (λ (b : Bool). b || list_any (has_in_term m) (map (applied g) ts)) (all.0 h)
    | inr h ↦ ap (λ (b : Bool). has_in_term m (applied g t) || b) (any_moves ts all.1 h) ∙ or_true (has_in_term m (applied g t))
  ]

  moves : (t : Term) → Moves t
  moves = term_induction Moves (record {
    var = λ j e.
        let same : j ≡ k = eqb-true j k (sym (has_in_term-Var k j) ∙ e) in
        ap (has_in_term m) (applied-Var g j ∙ ap g same ∙ is) ∙ has_in_term-Var m m ∙ eq-eqb m m refl;
    app = λ f ts all e. ap (has_in_term m) (applied-App g f ts) ∙ has_in_term-App m f (map (applied g) ts) ∙ any_moves ts all (sym (has_in_term-App k f ts) ∙ e);
  })

  all_move : (ts : List Term) → AllByRecursion Moves ts
  all_move [] = tt
  all_move (t ∷ ts) = (moves t, all_move ts)

  atom_moves : (a : AtomOf) → has_in_atom k a ≡ true → has_in_atom m (at_terms (applied g) a) ≡ true
  atom_moves (Pred p ts) e = any_moves ts (all_move ts) e
  atom_moves (Eq l r) e = any_moves (l ∷ r ∷ []) (all_move (l ∷ r ∷ [])) e
  atom_moves True e = cc
  atom_moves False e = cc

  lits_move : (lits : List Lit) → occurs_in lits k ≡ true → occurs_in (map (in_lit (applied g)) lits) m ≡ true
  lits_move [] e = cc
  lits_move (l ∷ lits) e = elim (either (has_in_atom k l.atom) (occurs_in lits k) e) [
    | inl h ↦ ap (λ (b : Bool). b || occurs_in (map (in_lit (applied g)) lits) m) (atom_moves l.atom h)
    | inr h ↦ ap (λ (b : Bool). has_in_atom m (at_terms (applied g) l.atom) || b) (lits_move lits h) ∙ or_true (has_in_atom m (at_terms (applied g) l.atom))
  ]

pub trimmed_occurs : (c : Clause) → HasItsVariables c → (m : ℕ) → m < length (kept_sorts (occurs_in c.lits) c.sorts) → occurs_in (trimmed c).lits m ≡ true
trimmed_occurs c own m lt =
    let counted = variables_counted (occurs_in c.lits) (length c.sorts) in
    let sorts = sorts_counted (occurs_in c.lits) c.sorts in
    let turned = length-reverse (kept_sorts (occurs_in c.lits) c.sorts) in
    let inside : m < length (kept_variables (occurs_in c.lits) (length c.sorts)) = omega arith in
    let k : ℕ = get_or (kept_variables (occurs_in c.lits) (length c.sorts)) m 0 in
    let at = kept_at (occurs_in c.lits) (length c.sorts) m (get_or (kept_variables (occurs_in c.lits) (length c.sorts)) m 0) (slice_get-get_or (kept_variables (occurs_in c.lits) (length c.sorts)) m 0 inside) in
    lits_move (image_at (numbers c)) k m (number_at c own k at.0 ∙ ap Var at.1) c.lits at.0
