-- From falsehood in the inmost place to the line.
use Rattle.std.specs.Prelude.{ℕ, ◌≡◌, ◌+◌, ◌<◌, ◌≤◌, Bool, true, false, List, [], ◌∷◌, ◌++◌, length, map, reverse, take, drop, slice_get, Some, refl}
use Rattle.std.specs.List.{AllByRecursion}
use Rattle.std.specs.Borrow.{Bor}
use Rattle.std.proofs.Common.{ap, sym, subst, ◌∙◌, arith, append-nil, append_assoc, length-append}
use Rattle.std.proofs.lemmas.List.{length-map, length-reverse, reverse-append}
use Rattle.std.proofs.lemmas.List.Elements.{recursion_from_All}
use Rattle.fof_terms.specs.declared.term.Term.{Term}
use Rattle.fof_terms.specs.declared.form.Form.{Form, Or, Not}
use Rattle.fof_terms.proofs.LiftingLaws.{closed_stays}
use Rattle.fof_terms.specs.Scope.{scope_sorts}
use Rattle.fof_terms.specs.declared.sorting.Scope.{Outside}
use Rattle.fof_terms.specs.Sorts.{IsScope, Sorted}
use Rattle.fof_terms.proofs.Scoped.{not_sorted, or_sorted}
use Rattle.fof_terms.specs.Vocabulary.{Vocabulary}
use Rattle.clause_form.specs.declared.clause.Lit.{Lit}
use Rattle.clause_form.specs.declared.clause.Clause.{Clause}
use Rattle.clause_form.specs.declared.path.Parent.{Parent}
use Rattle.clause_form.specs.ClauseView.{form_of_lit}
use Rattle.clause_form.specs.Covers.{is_sorted_atom, lit_apart, lit_image, scope_of, AreSorted, CoversBy}
use Rattle.unify_terms.specs.Substitution.{image_at}
use Rattle.clause_rules.specs.Settled.{IsFit}
use Rattle.clause_rules.specs.Steps.{AreCovered, IsJoint, IsReady, images_of_parents, instances}
use Rattle.clause_rules.proofs.JointImages.{sorted_further, sorted_apart}
use Rattle.kernel.specs.Statements.{Statements}
use Rattle.kernel.specs.Proves.{Proves, all_over}
use Rattle.kernel.proofs.Building.{by_raa}
use Rattle.kernel.specs.Rules.{ProveEach}
use Rattle.kernel.specs.declared.proof.Proof.{Proof, Raa}
use Rattle.clause_proofs.specs.declared.opening.Opened.{Opened}
use Rattle.clause_proofs.specs.declared.premises.Premise.{Premise}
use Rattle.clause_proofs.specs.Bodies.{body_of}
use Rattle.clause_proofs.specs.code.Bodies.{IsReadyClause}
use Rattle.clause_proofs.specs.Premises.{IsPremiseOf}
use Rattle.clause_proofs.specs.Refuting.{theory_of, body, IsGoal, ShowsBody}
use Rattle.clause_proofs.specs.Shown.{ShowsLine}
use Rattle.clause_proofs.proofs.BodySorts.{lit_sorted}
use Rattle.clause_proofs.proofs.ClosedLines.{inhabited}
use Rattle.clause_proofs.proofs.CoveredPremises.{covers_here}
use Rattle.clause_proofs.proofs.OneInstance.{one_joint_here, one_sorted, one_shown}
use Rattle.clause_proofs.proofs.JointParts.{instances_are}
use Rattle.clause_proofs.proofs.LineGoals.{Exist, both_exist, few_sorts, own_exist, own_lits, scope_is as reached_scope}
use Rattle.clause_proofs.proofs.ReadyParents.{full, of_theory}
use Rattle.split_defs.specs.declared.stages.Stage.{Stage}
use Rattle.split_defs.specs.code.SplitProof.{IsStage, AreStages, AllArms, AreGoals, DeniedAt, stage_clauses, variables_in, goal_of, nest_tree, enclosed_tree}
use Rattle.split_defs.specs.SplitRule.{together}
use Rattle.split_defs.proofs.Nesting.{scope_in, hyps_in, scope_is, arms_shown, nest_shown, all_denied}
use Rattle.split_defs.proofs.OneClause.{together_sorted}

module _ (w : Vocabulary) where
  -- a body is well-sorted where its literals are
  each_sorted : (v : List ℕ) (lits : List Lit) → IsScope w v → AllByRecursion (λ (l : Lit). is_sorted_atom w v l.atom ≡ true) lits → AllByRecursion (Sorted w v) (map form_of_lit lits)
  each_sorted v [] sc all = tt
  each_sorted v (l ∷ lits) sc all = (lit_sorted w v l sc all.0, each_sorted v lits sc all.1)

  body_from : (v : List ℕ) (b : Bool) (lits : List Lit) → IsScope w v → (b ≡ false → length lits ≡ 1) → AllByRecursion (λ (l : Lit). is_sorted_atom w v l.atom ≡ true) lits → Sorted w v (body_of b lits)
  body_from v true lits sc alone all = or_sorted w v 2147483647 sc (map form_of_lit lits) (each_sorted v lits sc all)
  body_from v false [] sc alone all = absurd (omega (arith, alone refl))
  body_from v false (l ∷ []) sc alone all = lit_sorted w v l sc all.0
  body_from v false (l ∷ k ∷ lits) sc alone all = absurd (omega (arith, alone refl))

  goal_from : (v : List ℕ) (o : Opened) → IsScope w v → length v < 2147483647 → (o.is_or ≡ false → length o.clause.lits ≡ 1) → AreSorted w v o.clause.lits → IsGoal w v o
  goal_from v o sc room alone sorted = record {
    room = room;
    sorted = body_from v o.is_or o.clause.lits sc alone (recursion_from_All (λ (l : Lit). is_sorted_atom w v l.atom ≡ true) o.clause.lits sorted.fits);
    alone = alone;
  }

  module _ (parents : List Parent) (line : Form) where
    stage_fit : (n : ℕ) (s : Stage) → IsStage w parents line n s → IsFit w s.opened.clause
    stage_fit n s own = record {
      sorted = own_lits w s.form s.opened.clause s.opened.is_or own.ready own.has;
      few = few_sorts w s.form s.opened.clause s.opened.is_or own.ready own.has;
    }

    pub stages_fit : (n : ℕ) (stages : List Stage) → AreStages w parents line n stages → AllByRecursion (IsFit w) (stage_clauses stages)
    stages_fit n [] are = tt
    stages_fit n (s ∷ stages) are = (stage_fit n s are.0, stages_fit (n + 1) stages are.1)

    stages_exist : (n : ℕ) (stages : List Stage) → AreStages w parents line n stages → Exist w (reverse (together (stage_clauses stages)).sorts)
    stages_exist n [] are = tt
    stages_exist n (s ∷ stages) are =
        let own = s.opened.clause.sorts in
        let rest = (together (stage_clauses stages)).sorts in
        subst (Exist w) (sym (reverse-append own rest)) (both_exist w (reverse rest) (reverse own) (stages_exist (n + 1) stages are.1) (own_exist w s.form s.opened.clause s.opened.is_or are.0.ready are.0.has))

    are_goals : (n : ℕ) (stages : List Stage) (v back : List ℕ) → AreStages w parents line n stages → IsScope w v → length v < 2147483647 → v ≡ reverse (together (stage_clauses stages)).sorts ++ back → AreGoals w v stages
    are_goals n [] v back are sc room is = tt
    are_goals n (s ∷ stages) v back are sc room is =
        let own = s.opened.clause in
        let rest = together (stage_clauses stages) in
        let fit = stage_fit n s are.0 in
        let lits = map (lit_apart (variables_in stages)) own.lits in
        let parts : v ≡ (scope_of rest ++ scope_of own) ++ back = is ∙ ap (λ (ss : List ℕ). ss ++ back) (reverse-append own.sorts rest.sorts) in
        let apart = sorted_apart w (scope_of rest) (scope_of own) (variables_in stages) own.lits (sym (length-reverse rest.sorts)) fit.sorted in
        let sorted : AreSorted w v lits = subst (λ (ss : List ℕ). AreSorted w ss lits) (sym parts) (sorted_further w (scope_of rest ++ scope_of own) back lits apart) in (
          (fit, goal_from v (goal_of s.opened (variables_in stages)) sc room (λ f. length-map own.lits (λ (l : Lit). lit_apart (variables_in stages) l) ∙ are.0.has.alone f) sorted),
          are_goals (n + 1) stages v (scope_of own ++ back) are.1 sc room (parts ∙ append_assoc (scope_of rest) (scope_of own) back),
        )

-- all stages and a parent that they cover
module _ (w : Vocabulary) (parents : List Parent) (line : Form) (ready : IsReady w line) (stages : List Stage) (are : AreStages w parents line 1 stages) (whole : Opened) (whole_is : whole.clause ≡ together (stage_clauses stages)) (is_or : whole.is_or ≡ true)
    (parent : Parent) (clause : Opened) (r : IsReadyClause w parent.form clause) (v more : List ℕ) (v_is : v ≡ reverse whole.clause.sorts ++ more) (more_is : more ≡ reverse clause.clause.sorts) (few : length v ≤ 1000000000) where
  abbrev sorts : List ℕ
  sorts = (together (stage_clauses stages)).sorts

  v_parts : v ≡ reverse sorts ++ more
  v_parts = v_is ∙ ap (λ (c : Clause). reverse c.sorts ++ more) whole_is

  v_length : length v ≡ length sorts + length more
  v_length = ap (λ (ss : List ℕ). length ss) v_parts ∙ length-append (reverse sorts) more ∙ ap (λ (n : ℕ). n + length more) (length-reverse sorts)

  more_exist : Exist w more
  more_exist = subst (Exist w) (sym more_is) (own_exist w parent.form clause.clause clause.is_or r.ready r.opening.1)

  more_scope : IsScope w more
  more_scope = record { few_variables = omega (arith, v_length, few); sorts_exist = more_exist }

  v_scope : IsScope w v
  v_scope = record { few_variables = omega (arith, few); sorts_exist = subst (Exist w) (sym v_parts) (both_exist w (reverse sorts) more (stages_exist w parents line 1 stages are) more_exist) }

  pub stage_goals : AreGoals w v stages
  stage_goals = are_goals w parents line 1 stages v more are v_scope (omega (arith, few)) v_parts

  whole_sorted : AreSorted w v whole.clause.lits
  whole_sorted =
      let own = together_sorted w (stage_clauses stages) (stages_fit w parents line 1 stages are) in
      subst (λ (c : Clause). AreSorted w v c.lits) (sym whole_is) (subst (λ (ss : List ℕ). AreSorted w ss (together (stage_clauses stages)).lits) (sym v_parts) (sorted_further w (reverse sorts) more (together (stage_clauses stages)).lits own))

  pub whole_goal : IsGoal w v whole
  whole_goal = goal_from w v whole v_scope (omega (arith, few)) (λ f. absurd (let no : true ≡ false = sym is_or ∙ f in cc)) whole_sorted

  module _ (images : List Term) (joint : IsJoint w (together (stage_clauses stages)) (scope_of clause.clause) images) where
    here : IsJoint w whole.clause (scope_of clause.clause) images
    here = one_joint_here w images clause.clause (together (stage_clauses stages)) clause.clause whole.clause refl whole_is joint

    both : v ≡ scope_of whole.clause ++ scope_of clause.clause
    both = v_is ∙ ap (λ (ss : List ℕ). reverse whole.clause.sorts ++ ss) more_is

    module _ (li : List Term) (eli : li ≡ take (length clause.clause.sorts) (drop (length whole.clause.sorts) images)) (p : Premise) (made : IsPremiseOf parent.number clause li p) where
      pub premise_sorted : AreSorted w v p.lits
      premise_sorted = one_sorted w whole.clause images parent.form clause r here li eli parent.number p made v both

      pub premise_covered : CoversBy w (scope_of clause.clause) clause.clause.lits (together (stage_clauses stages)) (scope_of clause.clause) (images_of_parents (together (stage_clauses stages)) images) → AreCovered whole.clause.lits p.lits
      premise_covered covers =
          let all : AreCovered whole.clause.lits (instances (images_of_parents whole.clause images) clause.clause.lits) = covers_here w images clause.clause (together (stage_clauses stages)) clause.clause whole.clause covers refl whole_is in
          let parts : scope_of whole.clause ++ scope_of clause.clause ≡ scope_of whole.clause ++ (reverse clause.clause.sorts ++ []) = ap (λ (ss : List ℕ). scope_of whole.clause ++ ss) (sym (append-nil (reverse clause.clause.sorts))) in
          let same = instances_are w (scope_of whole.clause ++ scope_of clause.clause) (length whole.clause.sorts) images here parent.form clause r (scope_of whole.clause) [] (length whole.clause.sorts) parts (sym (length-reverse whole.clause.sorts)) (images_of_parents whole.clause images) (λ k. refl) in
          let lits : p.lits ≡ map (lit_image (image_at (take (length clause.clause.sorts) (drop (length whole.clause.sorts) images)))) clause.clause.lits = made.lits ∙ ap (λ (xs : List Term). map (lit_image (image_at xs)) clause.clause.lits) eli in
          subst (AreCovered whole.clause.lits) (same ∙ sym lits) all

      pub line_shown : (n : ℕ) (core tree : Proof) → slice_get parents n ≡ Some parent → tree ≡ enclosed_tree line stages more core
          → ((formulas h : List Form) → ShowsBody w v formulas p.is_or p.lits p.part → DeniedAt h stages → Proves (theory_of w formulas) v h core (Or [])) → ShowsLine w parents line tree
      line_shown n core tree there is shows formulas known =
          let t = theory_of w formulas in
          let h = Not line ∷ [] in
          let line_there : Sorted w [] line = full w line ready in
          let instance = one_shown w whole.clause images parent.form clause r here li eli parent.number p made v both formulas v_scope (of_theory t parents n parent known there) in
          let inmost : Proves t (scope_in stages more) (hyps_in stages h) core (Or []) = subst (λ (ss : List ℕ). Proves t ss (hyps_in stages h) core (Or [])) (v_parts ∙ sym (scope_is stages more)) (shows formulas (hyps_in stages h) instance (all_denied stages h)) in
          let nest : Proves t more h (nest_tree stages core) (Or []) = nest_shown w formulas parents line known ready stages 0 more h core (omega (arith, v_length, few)) more_scope refl are inmost in
          let stays : all_over h ≡ h = ap (λ (b : Form). b ∷ []) (closed_stays w 1 (Not line) [] 0 (omega arith) (not_sorted w [] 2147483647 line line_there).fits) in
          let whole_nest : Proves t (more ++ []) h (nest_tree stages core) (Or []) = subst (λ (ss : List ℕ). Proves t ss h (nest_tree stages core) (Or [])) (sym (append-nil more)) nest in
          subst (λ (q : Proof). Proves t [] [] q line) (sym is) (by_raa t [] [] line _ line_there (inhabited t h stays more [] (nest_tree stages core) whole_nest))

-- the cases of the joined disjunction, each of which is refuted
pub contradicted_shown : (w : Vocabulary) (v : List ℕ) (stages : List Stage) (whole : Opened) → whole.clause ≡ together (stage_clauses stages) → whole.is_or ≡ true → IsGoal w v whole → (formulas h : List Form) (choice under core : Proof) (arms : List Proof)
    → choice ≡ Raa (body whole) under → Proves (theory_of w formulas) v (Not (body whole) ∷ h) under (Or []) → AllArms w v stages arms → DeniedAt h stages
    → ((t : Statements) (v : List ℕ) (h as_ : List Form) → Sorted t.vocabulary v (Or []) → Proves t v h choice (Or as_) → ProveEach t v h arms as_ (Or []) → Proves t v h core (Or []))
    → Proves (theory_of w formulas) v h core (Or [])
contradicted_shown w v stages whole is is_or goal formulas h choice under core arms tree refutes all denied build =
    let t = theory_of w formulas in
    let lits = (together (stage_clauses stages)).lits in
    let form : body whole ≡ Or (map form_of_lit lits) = ap (λ (b : Bool). body_of b whole.clause.lits) is_or ∙ ap (λ (c : Clause). Or (map form_of_lit c.lits)) is in
    let own : Proves t v h choice (body whole) = subst (λ (q : Proof). Proves t v h q (body whole)) (sym tree) (by_raa t v h (body whole) under goal.sorted refutes) in
    build t v h (map form_of_lit lits) (or_sorted w v 2147483647 goal.sorted.scope_fits [] tt) (subst (λ (a : Form). Proves t v h choice a) form own) (arms_shown w v formulas h stages arms all denied)

-- As code meets them: the variables in reach.
pub all_reached : (lent : Bor (List ℕ)) (sorts own e more : List ℕ) → lent.now ≡ sorts → reverse sorts ≡ reverse own ++ more → own ≡ e → scope_sorts (Outside lent) ≡ reverse e ++ more
all_reached lent sorts own e more f g h = reached_scope lent sorts own more f g ∙ ap (λ (ss : List ℕ). reverse ss ++ more) h

pub more_reached : (ls rs c more : List ℕ) → more ≡ reverse ls ++ reverse rs → rs ≡ [] → ls ≡ c → more ≡ reverse c
more_reached ls rs c more e none f = e ∙ ap (λ (ss : List ℕ). reverse ls ++ reverse ss) none ∙ append-nil (reverse ls) ∙ ap reverse f
