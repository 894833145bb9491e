-- The arms of one stage and of one more, as code makes them.
use Rattle.std.specs.Prelude.{ℕ, ◌≡◌, ◌+◌, ◌-◌, ◌<◌, ◌≤◌, List, [], ◌∷◌, ◌++◌, length, map, take, drop, get_or, slice_get, Some, refl}
use Rattle.std.proofs.Common.{ap, sym, subst, ◌∙◌, arith, zero, suc, add-one, append_assoc, append-nil, length-append}
use Rattle.std.proofs.lemmas.List.{length-drop}
use Rattle.fof_terms.specs.declared.form.Form.{Form}
use Rattle.fof_terms.specs.Vocabulary.{Vocabulary}
use Rattle.clause_form.specs.declared.clause.Lit.{Lit}
use Rattle.clause_form.specs.ClauseView.{form_of_lit}
use Rattle.clause_form.specs.Covers.{lit_apart}
use Rattle.clause_rules.specs.Settled.{IsFit}
use Rattle.kernel.specs.declared.proof.Proof.{Proof}
use Rattle.clause_proofs.specs.declared.opening.Opened.{Opened}
use Rattle.clause_proofs.specs.Refuting.{IsGoal, Refutes, body}
use Rattle.clause_proofs.proofs.BodySorts.{placed}
use Rattle.split_defs.specs.declared.stages.Stage.{Stage}
use Rattle.split_defs.specs.code.SplitProof.{AllArms, AreGoals, EachRefutes, goal_of, nest_tree, stage_clauses, stage_tree, variables_in}
use Rattle.split_defs.specs.SplitRule.{together}
use Rattle.split_defs.proofs.OneClause.{from_here, past_all}

take_past : {X : Type 0} (xs : List X) (i : ℕ) → length xs ≤ i → take i xs ≡ xs
take_past [] zero le = refl
take_past [] (suc i) le = refl
take_past (x ∷ xs) zero le = absurd (omega arith)
take_past (x ∷ xs) (suc i) le = ap (λ ys. x ∷ ys) (take_past xs i (omega arith))

pub arm_there : (lits lent : List Lit) (i : ℕ) (l : Lit) → lent ≡ lits → i < length lent → l ≡ get_or lent i l → slice_get lits i ≡ Some l
arm_there lits lent i l e lt is = ap (λ (ls : List Lit). slice_get ls i) (sym e) ∙ placed lent i l lt is

module _ (w : Vocabulary) (v : List ℕ) where
  -- one arm more
  no_arms : (n : ℕ) (g : Form) (lits : List Lit) → EachRefutes w v n g (take 0 lits) []
  no_arms n g [] = tt
  no_arms n g (l ∷ lits) = tt

  pub one_more_arm : (n : ℕ) (g : Form) (lits : List Lit) (made : List Proof) (i : ℕ) (l : Lit) (p : Proof) → i < length lits → l ≡ get_or lits i l → EachRefutes w v n g (take i lits) made → Refutes w v n g (form_of_lit l) p
      → EachRefutes w v n g (take (i + 1) lits) (made ++ p ∷ [])
  one_more_arm n g [] made i l p lt is all r = absurd (omega arith)
  one_more_arm n g (x ∷ lits) [] zero l p lt is all r = (subst (λ (y : Lit). Refutes w v n g (form_of_lit y) p) is r, no_arms n g lits)
  one_more_arm n g (x ∷ lits) (q ∷ made) zero l p lt is all r = absurd all
  one_more_arm n g (x ∷ lits) [] (suc i) l p lt is all r = absurd all
  one_more_arm n g (x ∷ lits) (q ∷ made) (suc i) l p lt is all r = let rest = one_more_arm n g lits made i l p (omega arith) is all.1 r in rw add-one (all.0, rw add-one at rest)

  pub next_arms : (n : ℕ) (g : Form) (lits : List Lit) (old arms more : List Proof) (i : ℕ) (l : Lit) (p : Proof) → i < length lits → l ≡ get_or lits i l → more ≡ arms ++ p ∷ []
      → (made : List Proof) × (arms ≡ old ++ made) × EachRefutes w v n g (take i lits) made → Refutes w v n g (form_of_lit l) p → (made : List Proof) × (more ≡ old ++ made) × EachRefutes w v n g (take (i + 1) lits) made
  next_arms n g lits old arms more i l p lt is e h r = (h.0 ++ p ∷ [], e ∙ ap (λ (ps : List Proof). ps ++ p ∷ []) h.1 ∙ append_assoc old h.0 (p ∷ []), one_more_arm n g lits h.0 i l p lt is h.2 r)

  pub all_made : (n : ℕ) (g : Form) (lits lent : List Lit) (old arms : List Proof) (i : ℕ) → lent ≡ lits → length lent ≤ i → (made : List Proof) × (arms ≡ old ++ made) × EachRefutes w v n g (take i lent) made
      → (made : List Proof) × (arms ≡ old ++ made) × EachRefutes w v n g lits made
  all_made n g lits lent old arms i e end h = (h.0, h.1, subst (λ (ls : List Lit). EachRefutes w v n g ls h.0) (take_past lent i end ∙ e) h.2)

  pub start_arms : (n : ℕ) (g : Form) (lits : List Lit) (arms : List Proof) → (made : List Proof) × (arms ≡ arms ++ made) × EachRefutes w v n g (take 0 lits) made
  start_arms n g lits arms = ([], sym (append-nil arms), no_arms n g lits)

  -- one stage more
  module _ (stages : List Stage) (i : ℕ) (s : Stage) (lt : i < length stages) (is : s ≡ get_or stages i s) where
    here : drop i stages ≡ s ∷ drop (i + 1) stages
    here = from_here stages i s lt is

    further : ℕ
    further = variables_in (drop (i + 1) stages)

    pub variables_here : (left : ℕ) → left ≡ variables_in (drop i stages) → left ≡ length s.opened.clause.sorts + variables_in (drop (i + 1) stages)
    variables_here left e = e ∙ ap variables_in here ∙ length-append s.opened.clause.sorts (together (stage_clauses (drop (i + 1) stages))).sorts

    pub goal_here : AreGoals w v (drop i stages) → (IsFit w s.opened.clause × IsGoal w v (goal_of s.opened (variables_in (drop (i + 1) stages)))) × AreGoals w v (drop (i + 1) stages)
    goal_here g = subst (AreGoals w v) here g

    pub arms_here : (left n : ℕ) (goal : Opened) (arms more front : List Proof) → left ≡ variables_in (drop (i + 1) stages) → n ≡ length stages - i → goal ≡ goal_of s.opened left → more ≡ arms ++ front → EachRefutes w v n (body goal) goal.clause.lits front
        → ((last : List Proof) → AllArms w v (drop i stages) last → AllArms w v stages (arms ++ last)) → (last : List Proof) → AllArms w v (drop (i + 1) stages) last → AllArms w v stages (more ++ last)
    arms_here left n goal arms more front el en eg em each before last all =
        let rest = drop (i + 1) stages in
        let count : length stages - i ≡ length rest + 1 = omega (arith, length-drop (i + 1) stages) in
        let own_goal : goal ≡ goal_of s.opened (variables_in rest) = eg ∙ ap (goal_of s.opened) el in
        let own : EachRefutes w v (length rest + 1) (body (goal_of s.opened (variables_in rest))) (map (lit_apart (variables_in rest)) s.opened.clause.lits) front =
        subst (λ (o : Opened). EachRefutes w v (length rest + 1) (body o) o.clause.lits front) own_goal (subst (λ (k : ℕ). EachRefutes w v k (body goal) goal.clause.lits front) (en ∙ count) each) in
        let whole : AllArms w v (drop i stages) (front ++ last) = subst (λ (ss : List Stage). AllArms w v ss (front ++ last)) (sym here) (front, last, refl, own, all) in
        subst (AllArms w v stages) (sym (ap (λ (ps : List Proof). ps ++ last) em ∙ append_assoc arms front last)) (before (front ++ last) whole)

  pub arms_end : (stages : List Stage) (i : ℕ) (arms : List Proof) → length stages ≤ i → ((last : List Proof) → AllArms w v (drop i stages) last → AllArms w v stages (arms ++ last)) → AllArms w v stages arms
  arms_end stages i arms end all = subst (AllArms w v stages) (append-nil arms) (all [] (subst (λ (ss : List Stage). AllArms w v ss []) (sym (past_all stages i end)) refl))

-- the last stage is the inmost
pub nest_last : (stages : List Stage) (s : Stage) (p : Proof) → nest_tree (stages ++ s ∷ []) p ≡ nest_tree stages (stage_tree s p)
nest_last [] s p = refl
nest_last (x ∷ stages) s p = ap (stage_tree x) (nest_last stages s p)
