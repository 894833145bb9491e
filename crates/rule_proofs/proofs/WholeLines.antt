-- From what refutes the body of a line to the line.
use Rattle.std.specs.Prelude.{ℕ, ◌≡◌, ◌+◌, ◌<◌, Bool, false, List, [], ◌∷◌, ◌++◌, length, reverse, get_or, slice_get, Some, IsTrue, ◌↔◌, refl}
use Rattle.std.proofs.Common.{ap, sym, subst, ◌∙◌, arith, length-append, inl, inr}
use Rattle.std.proofs.lemmas.List.{length-reverse}
use Rattle.fof_terms.specs.declared.form.Form.{Form, Or, Not}
use Rattle.fof_terms.specs.Vocabulary.{Vocabulary}
use Rattle.fof_terms.proofs.Moved.{closed_anywhere}
use Rattle.fof_terms.specs.Sorts.{IsScope, Sorted}
use Rattle.clause_form.specs.declared.clause.Lit.{Lit}
use Rattle.clause_form.specs.ClauseView.{form_of_lit}
use Rattle.clause_form.specs.Covers.{IsCovered, IsTrivial, negated}
use Rattle.clause_rules.specs.Steps.{IsReady}
use Rattle.kernel.specs.Statements.{Statements}
use Rattle.kernel.specs.Proves.{Proves}
use Rattle.kernel.proofs.Building.{by_raa}
use Rattle.kernel.specs.declared.proof.Proof.{Proof, Raa}
use Rattle.clause_proofs.specs.declared.opening.Opened.{Opened}
use Rattle.clause_proofs.specs.Bodies.{HasClause, IsOpening}
use Rattle.clause_proofs.specs.Closed.{whole_tree}
use Rattle.clause_proofs.specs.Refuting.{theory_of, body, IsGoal, Refutes, IsDenial, RefutesBody}
use Rattle.fof_terms.proofs.LiftingLaws.{below_or_above}
use Rattle.clause_proofs.proofs.BodySorts.{under_closed, placed}
use Rattle.clause_proofs.proofs.TurnedSides.{no_then}
use Rattle.clause_proofs.proofs.ClosedLines.{whole_shown}
use Rattle.clause_proofs.proofs.ReadyParents.{full}
use Rattle.clause_proofs.proofs.LineGoals.{Exist}

module _ (w : Vocabulary) (line : Form) (o : Opened) (more : List ℕ) (ready : IsReady w line) (has : HasClause line o.clause o.is_or) (few : length o.clause.sorts + length more < 2147483647) (exist : Exist w more) where
  pub more_fits : IsScope w more
  more_fits = record { few_variables = omega (arith, few); sorts_exist = exist }

  pub line_goal : IsGoal w (reverse o.clause.sorts ++ more) o
  line_goal =
      let there : Sorted w more line = closed_anywhere w more 2147483647 line more_fits (full w line ready) in
      record {
        room = omega (arith, few, length-append (reverse o.clause.sorts) more, length-reverse o.clause.sorts);
        sorted = under_closed w o.clause.sorts more (body o) (omega (arith, few)) (subst (Sorted w more) has.is there);
        alone = has.alone;
      }

  pub line_shown : (formulas : List Form) (p : Proof) → RefutesBody w (reverse o.clause.sorts ++ more) formulas (body o) p → Proves (theory_of w formulas) [] [] (whole_tree line o.clause.sorts more (Raa (body o) p)) line
  line_shown formulas p refutes =
      let t = theory_of w formulas in
      whole_shown t line o.clause.sorts more (body o) (Raa (body o) p) has.is (omega (arith, few)) (full w line ready) more_fits
      (by_raa t (reverse o.clause.sorts ++ more) (Not line ∷ []) (body o) p line_goal.sorted (refutes (Not line ∷ [])))

-- two literals that are opposite, both covered
pub both_refute : (w : Vocabulary) (v : List ℕ) (g : Form) (l other : Lit) (fact : Form) (under made_fact rest p : Proof) → Sorted w v (form_of_lit l) → other ≡ negated l → fact ≡ form_of_lit other
    → Refutes w v 1 g (form_of_lit l) under → IsDenial l under made_fact → Refutes w v 1 g (form_of_lit other) rest
    → ((t : Statements) (v : List ℕ) (h : List Form) (a : Form) → Proves t v h made_fact fact → Proves t v (fact ∷ h) rest a → Proves t v h p a)
    → (formulas : List Form) → RefutesBody w v formulas g p
both_refute w v g l other fact under made_fact rest p s is e one denied two build formulas h =
    let t = theory_of w formulas in
    let hs = Not g ∷ h in
    let shown : Proves t v hs made_fact (form_of_lit (negated l)) = denied t v hs s (one formulas (form_of_lit l ∷ hs) refl refl) in
    let form : form_of_lit (negated l) ≡ fact = ap form_of_lit (sym is) ∙ sym e in
    build t v hs (Or []) (subst (λ (x : Form). Proves t v hs made_fact x) form shown) (two formulas (fact ∷ hs) (ap Some e) refl)

-- a literal whose opposite is covered
pub trivial_has : (lits : List Lit) → IsTrivial lits → (i : ℕ) × (l : Lit) × (slice_get lits i ≡ Some l) × IsCovered lits (negated l)
trivial_has lits (inl h) = (h.0, h.1, h.2, inr h.3)
trivial_has lits (inr h) = (h.0, h.1, h.2, inl h.3)

pub no_trivial : (lits : List Lit) → ((i : ℕ) (l : Lit) → slice_get lits i ≡ Some l → IsCovered lits (negated l) → ⊥) → IsTrivial lits → ⊥
no_trivial lits none t = let h = trivial_has lits t in none h.0 h.1 h.2 h.3

-- none of the first literals is opposed, and one more
pub none_next : (lits : List Lit) (i : ℕ) (r : Lit) (b : Bool) → i < length lits → r ≡ get_or lits i r → b ≡ false → (IsTrue b ↔ IsCovered lits (negated r)) → ((k : ℕ) → k < i → (x : Lit) → slice_get lits k ≡ Some x → IsCovered lits (negated x) → ⊥)
    → (k : ℕ) → k < i + 1 → (x : Lit) → slice_get lits k ≡ Some x → IsCovered lits (negated x) → ⊥
none_next lits i r b lt is told test before k h x at covered =
    elim (below_or_above k i) [
      | inl g ↦ before k g x at covered
      | inr g ↦
          let same : k ≡ i = omega arith in
          let value : r ≡ x = let found : Some r ≡ Some x = sym (placed lits i r lt is) ∙ ap (slice_get lits) (sym same) ∙ at in cc in
          no_then b told test (subst (λ (y : Lit). IsCovered lits (negated y)) (sym value) covered)
    ]

module _ (w : Vocabulary) (line : Form) (o : Opened) (front more : List ℕ) (ready : IsReady w line) (is : IsOpening line (Some o)) (same : front ≡ o.clause.sorts) (few : length front + length more < 2147483647) (exist : Exist w more) where
  few_here : length o.clause.sorts + length more < 2147483647
  few_here = subst (λ (ss : List ℕ). length ss + length more < 2147483647) same few

  pub goal_in : (v : List ℕ) → v ≡ reverse front ++ more → IsGoal w v o
  goal_in v e = subst (λ (ss : List ℕ). IsGoal w ss o) (sym (e ∙ ap (λ (ss : List ℕ). reverse ss ++ more) same)) (line_goal w line o more ready is.1 few_here exist)

  pub shown_in : (v : List ℕ) (formulas : List Form) (p : Proof) → v ≡ reverse front ++ more → RefutesBody w v formulas (body o) p → Proves (theory_of w formulas) [] [] (whole_tree line o.clause.sorts more (Raa (body o) p)) line
  shown_in v formulas p e refutes =
      line_shown w line o more ready is.1 few_here exist formulas p (subst (λ (ss : List ℕ). RefutesBody w ss formulas (body o) p) (e ∙ ap (λ (ss : List ℕ). reverse ss ++ more) same) refutes)
