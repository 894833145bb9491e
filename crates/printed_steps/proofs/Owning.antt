-- The variables that occur in a well-sorted clause are its own, also under other numbers for its functions.
use Rattle.std.specs.Prelude.{ℕ, ◌≡◌, ◌<◌, true, List, [], ◌∷◌, length, map, Some, slice_get, refl}
use Rattle.std.specs.List.{AllByRecursion, list_any}
use Rattle.std.proofs.Common.{ap, sym, ◌∙◌, arith, inl, inr}
use Rattle.std.proofs.lemmas.Bool.{eqb-true}
use Rattle.std.proofs.lemmas.List.{length-reverse}
use Rattle.std.proofs.lemmas.List.Elements.{recursion_from_All}
use Rattle.std.proofs.lemmas.Option.{slice_get_within}
use Rattle.fof_terms.specs.declared.term.Term.{Term}
use Rattle.fof_terms.specs.Sorts.{sort_of_term}
use Rattle.fof_terms.specs.Variables.{has_in_term}
use Rattle.fof_terms.specs.Vocabulary.{Vocabulary}
use Rattle.fof_terms.proofs.Induction.{term_induction}
use Rattle.fof_terms.proofs.LiftingLaws.{applied_found, holds_found, one_found}
use Rattle.fof_terms.proofs.SortsFacts.{sort_of_term-Var, sort_of_term-App}
use Rattle.fof_terms.proofs.VariablesFacts.{has_in_term-Var, has_in_term-App}
use Rattle.clause_form.specs.declared.clause.AtomOf.{AtomOf}
use Rattle.clause_form.specs.declared.clause.AtomOf.TheVariants.{Pred, Eq, True, False}
use Rattle.clause_form.specs.declared.clause.Lit.{Lit}
use Rattle.clause_form.specs.declared.clause.Clause.{Clause}
use Rattle.clause_form.specs.Covers.{at_terms, in_lit, is_sorted_atom, scope_of, AreSorted}
use Rattle.printed_clauses.specs.Renumbered.{renumbered, renumbered_clause}
use Rattle.printed_clauses.specs.Trimmed.{has_in_atom, occurs_in}
use Rattle.printed_clauses.proofs.RenumberedFacts.{renumbered-Var, renumbered-App}
use Rattle.printed_steps.specs.Carried.{HasItsVariables}
use Rattle.printed_steps.proofs.Terms.{either}

module _ (v : Vocabulary) (scope : List ℕ) (k : ℕ) where
  abbrev Inside : Term → Type 0
  Inside t = has_in_term k t ≡ true → (r : ℕ) → sort_of_term v scope t ≡ Some r → k < length scope

  abbrev Found : Term → Type 0
  Found t = (r : ℕ) × (sort_of_term v scope t ≡ Some r)

  one_inside : (ts : List Term) → AllByRecursion Inside ts → AllByRecursion Found ts → list_any (has_in_term k) ts ≡ true → k < length scope
  one_inside [] all found e = cc
  one_inside (t ∷ ts) all found e = elim (either (has_in_term k t) (list_any (has_in_term k) ts) e) [
    | inl h ↦ all.0 h found.0.0 found.0.1
    | inr h ↦ one_inside ts all.1 found.1 h
  ]

  inside : (t : Term) → Inside t
  inside = term_induction Inside (record {
    var = λ j h r e.
        let same : j ≡ k = eqb-true j k (sym (has_in_term-Var k j) ∙ h) in
        slice_get_within scope k r (ap (slice_get scope) (sym same) ∙ sym (sort_of_term-Var v scope j) ∙ e);
    app = λ f ts all h r e.
        one_inside ts all (applied_found (sort_of_term v scope) ts (slice_get v.symbols f) r (sym (sort_of_term-App v scope f ts) ∙ e)) (sym (has_in_term-App k f ts) ∙ h);
  })

  all_inside : (ts : List Term) → AllByRecursion Inside ts
  all_inside [] = tt
  all_inside (t ∷ ts) = (inside t, all_inside ts)

  atom_inside : (a : AtomOf) → is_sorted_atom v scope a ≡ true → has_in_atom k a ≡ true → k < length scope
  atom_inside (Pred p ts) e h = one_inside ts (all_inside ts) (holds_found (sort_of_term v scope) ts (slice_get v.symbols p) e) h
  atom_inside (Eq l r) e h = let sides = one_found (sort_of_term v scope l) (sort_of_term v scope r) e in one_inside (l ∷ r ∷ []) (all_inside (l ∷ r ∷ [])) (sides.0, (sides.1, tt)) h
  atom_inside True e h = cc
  atom_inside False e h = cc

  lits_inside : (lits : List Lit) → AllByRecursion (λ (l : Lit). is_sorted_atom v scope l.atom ≡ true) lits → occurs_in lits k ≡ true → k < length scope
  lits_inside [] e h = cc
  lits_inside (l ∷ lits) e h = elim (either (has_in_atom k l.atom) (occurs_in lits k) h) [
    | inl g ↦ atom_inside l.atom e.0 g
    | inr g ↦ lits_inside lits e.1 g
  ]

pub sorted_own : (v : Vocabulary) (c : Clause) → AreSorted v (scope_of c) c.lits → HasItsVariables c
sorted_own v c sorted k h =
    let inner = lits_inside v (scope_of c) k c.lits (recursion_from_All (λ (l : Lit). is_sorted_atom v (scope_of c) l.atom ≡ true) c.lits sorted.fits) h in
    let size = length-reverse c.sorts in
    omega arith

-- other numbers change no variable
module _ (number : ℕ → ℕ) (k : ℕ) where
  any_same : (ts : List Term) → AllByRecursion (λ t. has_in_term k (renumbered number t) ≡ has_in_term k t) ts → list_any (has_in_term k) (map (renumbered number) ts) ≡ list_any (has_in_term k) ts
  any_same [] h = refl
  any_same (t ∷ ts) h = rw (h.0, any_same ts h.1) refl

  term_has : (t : Term) → has_in_term k (renumbered number t) ≡ has_in_term k t
  term_has = term_induction (λ t. has_in_term k (renumbered number t) ≡ has_in_term k t) (record {
    var = λ j. ap (has_in_term k) (renumbered-Var number j);
    app = λ f ts all. ap (has_in_term k) (renumbered-App number f ts) ∙ has_in_term-App k (number f) (map (renumbered number) ts) ∙ any_same ts all ∙ sym (has_in_term-App k f ts);
  })

  all_have : (ts : List Term) → AllByRecursion (λ t. has_in_term k (renumbered number t) ≡ has_in_term k t) ts
  all_have [] = tt
  all_have (t ∷ ts) = (term_has t, all_have ts)

  atom_has : (a : AtomOf) → has_in_atom k (at_terms (renumbered number) a) ≡ has_in_atom k a
  atom_has (Pred p ts) = any_same ts (all_have ts)
  atom_has (Eq l r) = any_same (l ∷ r ∷ []) (all_have (l ∷ r ∷ []))
  atom_has True = refl
  atom_has False = refl

  lits_have : (lits : List Lit) → occurs_in (map (in_lit (renumbered number)) lits) k ≡ occurs_in lits k
  lits_have [] = refl
  lits_have (l ∷ lits) = rw (atom_has l.atom, lits_have lits) refl

pub renumbered_own : (number : ℕ → ℕ) (c : Clause) → HasItsVariables c → HasItsVariables (renumbered_clause number c)
renumbered_own number c own k h = own k (sym (lits_have number k c.lits) ∙ h)
