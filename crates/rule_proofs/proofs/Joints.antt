-- The instances of two clauses under a joint substitution.
use Rattle.std.specs.Prelude.{ℕ, ◌≡◌, ◌+◌, Bool, List, [], ◌∷◌, ◌++◌, length, map, take, drop, reverse, slice_get, Some, refl}
use Rattle.std.proofs.Common.{zero, suc, get_or, ap, sym, subst, ◌∙◌, arith, append-nil, append_assoc, length-append}
use Rattle.std.proofs.lemmas.List.{length-reverse}
use Rattle.fof_terms.specs.declared.term.Term.{Term}
use Rattle.fof_terms.specs.declared.form.Form.{Form}
use Rattle.fof_terms.specs.Vocabulary.{Vocabulary}
use Rattle.fof_terms.specs.Sorts.{IsScope}
use Rattle.clause_form.specs.declared.clause.Lit.{Lit}
use Rattle.clause_form.specs.declared.clause.Clause.{Clause}
use Rattle.clause_form.specs.Covers.{lit_image, scope_of, AreSorted}
use Rattle.unify_terms.specs.Substitution.{image_at}
use Rattle.clause_rules.specs.Steps.{AreReady, IsClauseAt, IsJoint, images_of_parents, instances, apart_from, scope_of_both}
use Rattle.clause_form.specs.declared.path.Parent.{Parent}
use Rattle.clause_form.specs.ClauseView.{clause_of}
use Rattle.clause_rules.specs.ResolutionRule.{IsResolvent, ResolvesTo}
use Rattle.clause_rules.specs.ParamodulationRule.{IsParamodulant, Paramodulates}
use Rattle.clause_proofs.specs.declared.opening.Opened.{Opened}
use Rattle.clause_proofs.specs.declared.premises.Premise.{Premise}
use Rattle.clause_proofs.specs.Bodies.{IsOpening}
use Rattle.clause_proofs.specs.code.Bodies.{IsReadyClause}
use Rattle.clause_proofs.specs.Premises.{IsSource, IsPremiseOf}
use Rattle.clause_proofs.specs.Refuting.{ShowsBody}
use Rattle.rule_proofs.specs.code.Rewriting.{AreInstances}
use Rattle.clause_proofs.proofs.ReadyParents.{parent_at, parent_ready}
use Rattle.clause_proofs.proofs.LineGoals.{Exist, both_exist, own_exist, own_lits, opened_clause}
use Rattle.rule_proofs.proofs.Resolvents.{apart_instances}
use Rattle.clause_proofs.proofs.ImageParts.{part_length, part_within, part_images}
use Rattle.clause_proofs.proofs.JointParts.{part, source_of, instances_are, instances_sorted}

-- two clauses
module _ (w : Vocabulary) (e : Clause) (images : List Term) (fl fr : Form) (ol or_ : Opened) (left : IsReadyClause w fl ol) (right : IsReadyClause w fr or_) (joint : IsJoint w e (scope_of_both ol.clause or_.clause) images) where
  abbrev pub joint_scope : List ℕ
  joint_scope = scope_of e ++ scope_of_both ol.clause or_.clause

  abbrev ne : ℕ
  ne = length e.sorts

  abbrev nl : ℕ
  nl = length ol.clause.sorts

  left_front : ne ≡ length (scope_of e)
  left_front = sym (length-reverse e.sorts)

  right_front : ne + nl ≡ length (scope_of e ++ scope_of ol.clause)
  right_front = omega (arith, length-append (scope_of e) (scope_of ol.clause), length-reverse e.sorts, length-reverse ol.clause.sorts)

  right_is : joint_scope ≡ (scope_of e ++ scope_of ol.clause) ++ (scope_of or_.clause ++ [])
  right_is = sym (append_assoc (scope_of e) (scope_of ol.clause) (scope_of or_.clause)) ∙ ap (λ (ss : List ℕ). (scope_of e ++ scope_of ol.clause) ++ ss) (sym (append-nil (scope_of or_.clause)))

  abbrev pub left_part : List Term
  left_part = take nl (drop ne images)

  abbrev pub right_part : List Term
  right_part = take (length or_.clause.sorts) (drop (ne + nl) images)

  pub left_source : (formulas : List Form) (number : ℕ) → IsScope w joint_scope → slice_get formulas number ≡ Some fl → IsSource w joint_scope formulas number ol left_part
  left_source formulas number sc there = source_of w joint_scope ne images joint fl ol left (scope_of e) (scope_of or_.clause) ne refl left_front formulas number sc there

  pub right_source : (formulas : List Form) (number : ℕ) → IsScope w joint_scope → slice_get formulas number ≡ Some fr → IsSource w joint_scope formulas number or_ right_part
  right_source formulas number sc there = source_of w joint_scope ne images joint fr or_ right (scope_of e ++ scope_of ol.clause) [] (ne + nl) right_is right_front formulas number sc there

  pub left_instances : instances (images_of_parents e images) ol.clause.lits ≡ map (lit_image (image_at left_part)) ol.clause.lits
  left_instances = instances_are w joint_scope ne images joint fl ol left (scope_of e) (scope_of or_.clause) ne refl left_front (images_of_parents e images) (λ k. refl)

  moved : (k : ℕ) → k + nl + ne ≡ k + (ne + nl)
  moved k = omega arith

  pub right_instances : instances (images_of_parents e images) (apart_from ol.clause or_.clause.lits) ≡ map (lit_image (image_at right_part)) or_.clause.lits
  right_instances =
      apart_instances (images_of_parents e images) nl or_.clause.lits
      ∙ instances_are w joint_scope ne images joint fr or_ right (scope_of e ++ scope_of ol.clause) [] (ne + nl) right_is right_front (λ k. images_of_parents e images (k + nl)) (λ k. ap (image_at images) (moved k))

  pub left_sorted : AreSorted w joint_scope (map (lit_image (image_at left_part)) ol.clause.lits)
  left_sorted = instances_sorted w joint_scope ne images joint fl ol left (scope_of e) (scope_of or_.clause) ne refl left_front

  pub right_sorted : AreSorted w joint_scope (map (lit_image (image_at right_part)) or_.clause.lits)
  right_sorted = instances_sorted w joint_scope ne images joint fr or_ right (scope_of e ++ scope_of ol.clause) [] (ne + nl) right_is right_front

  -- the premises that are made of them
  module _ (li ri : List Term) (eli : li ≡ left_part) (eri : ri ≡ right_part) (kl kr : ℕ) (lp rp : Premise) (hl : IsPremiseOf kl ol li lp) (hr : IsPremiseOf kr or_ ri rp) where
    left_lits : lp.lits ≡ map (lit_image (image_at left_part)) ol.clause.lits
    left_lits = hl.lits ∙ ap (λ (xs : List Term). map (lit_image (image_at xs)) ol.clause.lits) eli

    right_lits : rp.lits ≡ map (lit_image (image_at right_part)) or_.clause.lits
    right_lits = hr.lits ∙ ap (λ (xs : List Term). map (lit_image (image_at xs)) or_.clause.lits) eri

    pub resolvent_of : (i j : ℕ) → ResolvesTo w ol.clause or_.clause e i j (scope_of_both ol.clause or_.clause) (images_of_parents e images) → IsResolvent e.lits lp.lits rp.lits i j
    resolvent_of i j r =
        subst (λ (xs : List Lit). IsResolvent e.lits xs rp.lits i j) (left_instances ∙ sym left_lits)
        (subst (λ (xs : List Lit). IsResolvent e.lits (instances (images_of_parents e images) ol.clause.lits) xs i j) (right_instances ∙ sym right_lits) r.resolvent)

    pub paramodulant_of : (i : ℕ) (place : List ℕ) (j : ℕ) (flipped : Bool) → Paramodulates w ol.clause or_.clause e i place j flipped (scope_of_both ol.clause or_.clause) (images_of_parents e images) → IsParamodulant e.lits lp.lits rp.lits i place j flipped
    paramodulant_of i place j flipped r =
        subst (λ (xs : List Lit). IsParamodulant e.lits xs rp.lits i place j flipped) (left_instances ∙ sym left_lits)
        (subst (λ (xs : List Lit). IsParamodulant e.lits (instances (images_of_parents e images) ol.clause.lits) xs i place j flipped) (right_instances ∙ sym right_lits) r.paramodulant)

    module _ (v : List ℕ) (here : v ≡ joint_scope) where
      pub left_are : (images_too : List Term) (lits : List Lit) → images_too ≡ left_part → lits ≡ ol.clause.lits → AreInstances w v images_too lits lp.lits
      left_are images_too lits eq is =
          let own : AreInstances w joint_scope left_part ol.clause.lits lp.lits = record {
            sorts = scope_of ol.clause;
            size = part_length images ne nl (part_within w joint_scope ne images joint (scope_of e) (scope_of ol.clause) (scope_of or_.clause) ne nl refl left_front (sym (length-reverse ol.clause.sorts))) ∙ sym (length-reverse ol.clause.sorts);
            images_sorted = part_images w joint_scope ne images joint (scope_of e) (scope_of ol.clause) (scope_of or_.clause) ne nl refl left_front (sym (length-reverse ol.clause.sorts));
            sorted = own_lits w fl ol.clause ol.is_or left.ready left.opening.1;
            are = left_lits;
          } in
          subst (λ (ss : List ℕ). AreInstances w ss images_too lits lp.lits) (sym here)
          (subst (λ (xs : List Term). AreInstances w joint_scope xs lits lp.lits) (sym eq) (subst (λ (ls : List Lit). AreInstances w joint_scope left_part ls lp.lits) (sym is) own))

      pub left_premise_sorted : AreSorted w v lp.lits
      left_premise_sorted = subst (λ (ss : List ℕ). AreSorted w ss lp.lits) (sym here) (subst (AreSorted w joint_scope) (sym left_lits) left_sorted)

      pub right_premise_sorted : AreSorted w v rp.lits
      right_premise_sorted = subst (λ (ss : List ℕ). AreSorted w ss rp.lits) (sym here) (subst (AreSorted w joint_scope) (sym right_lits) right_sorted)

      pub left_shown : (formulas : List Form) → IsScope w v → slice_get formulas kl ≡ Some fl → ShowsBody w v formulas lp.is_or lp.lits lp.part
      left_shown formulas sc there =
          let src = left_source formulas kl (subst (IsScope w) here sc) there in
          subst (λ (ss : List ℕ). ShowsBody w ss formulas lp.is_or lp.lits lp.part) (sym here) (hl.shows w joint_scope formulas (subst (IsSource w joint_scope formulas kl ol) (sym eli) src))

      pub right_shown : (formulas : List Form) → IsScope w v → slice_get formulas kr ≡ Some fr → ShowsBody w v formulas rp.is_or rp.lits rp.part
      right_shown formulas sc there =
          let src = right_source formulas kr (subst (IsScope w) here sc) there in
          subst (λ (ss : List ℕ). ShowsBody w ss formulas rp.is_or rp.lits rp.part) (sym here) (hr.shows w joint_scope formulas (subst (IsSource w joint_scope formulas kr or_) (sym eri) src))

pub reach_is : (v own ls rs e c d more : List ℕ) → v ≡ reverse own ++ more → more ≡ reverse ls ++ reverse rs → own ≡ e → ls ≡ c → rs ≡ d → v ≡ reverse e ++ (reverse c ++ reverse d)
reach_is v own ls rs e c d more is m f g h =
    is ∙ ap (λ (ss : List ℕ). reverse ss ++ more) f ∙ ap (λ (ss : List ℕ). reverse e ++ ss) (m ∙ ap (λ (ss : List ℕ). reverse ss ++ reverse rs) g ∙ ap (λ (ss : List ℕ). reverse c ++ reverse ss) h)

pub parents_exist : (w : Vocabulary) (fl fr : Form) (ol or_ : Opened) (ls rs more : List ℕ) → IsReadyClause w fl ol → IsReadyClause w fr or_ → more ≡ reverse ls ++ reverse rs → ls ≡ ol.clause.sorts → rs ≡ or_.clause.sorts → Exist w more
parents_exist w fl fr ol or_ ls rs more left right m g h =
    let both = both_exist w (reverse ol.clause.sorts) (reverse or_.clause.sorts) (own_exist w fl ol.clause ol.is_or left.ready left.opening.1) (own_exist w fr or_.clause or_.is_or right.ready right.opening.1) in
    subst (Exist w) (sym (m ∙ ap (λ (ss : List ℕ). reverse ss ++ reverse rs) g ∙ ap (λ (ss : List ℕ). reverse ol.clause.sorts ++ reverse ss) h)) both

-- what a justification has, where the parents are opened
at_clause : (parents : List Parent) (a : ℕ) (c : Clause) → IsClauseAt parents a c → (p : Parent) × (slice_get parents a ≡ Some p) × (clause_of p.form ≡ Some c)
at_clause [] a c e = cc
at_clause (p ∷ parents) zero c e = (p, refl, cc)
at_clause (p ∷ parents) (suc a) c e = at_clause parents a c e

pub parent_there : (parents : List Parent) (a : ℕ) (c : Clause) (r : Parent) → IsClauseAt parents a c → r ≡ get_or parents a r → slice_get parents a ≡ Some r
parent_there parents a c r e is = let p = at_clause parents a c e in p.1 ∙ ap Some (sym (parent_at parents a p.0 r p.1 is))

pub parent_clause : (parents : List Parent) (a : ℕ) (c : Clause) (r : Parent) → IsClauseAt parents a c → r ≡ get_or parents a r → clause_of r.form ≡ Some c
parent_clause parents a c r e is = let p = at_clause parents a c e in subst (λ (q : Parent). clause_of q.form ≡ Some c) (sym (parent_at parents a p.0 r p.1 is)) p.2

pub ready_clause : (w : Vocabulary) (parents : List Parent) (a : ℕ) (c : Clause) (r : Parent) (o : Opened) → AreReady w parents → IsClauseAt parents a c → r ≡ get_or parents a r → IsOpening r.form (Some o) → IsReadyClause w r.form o
ready_clause w parents a c r o ready e is opening = record { ready = parent_ready w parents a r ready (parent_there parents a c r e is); opening = opening }

pub same_clause : (parents : List Parent) (a : ℕ) (c : Clause) (r : Parent) (o : Opened) → IsClauseAt parents a c → r ≡ get_or parents a r → IsOpening r.form (Some o) → o.clause ≡ c
same_clause parents a c r o e is opening = opened_clause r.form o c opening (parent_clause parents a c r e is)

pub joint_here : (w : Vocabulary) (images : List Term) (c d e x y z : Clause) → x ≡ c → y ≡ d → z ≡ e → IsJoint w e (scope_of_both c d) images → IsJoint w z (scope_of_both x y) images
joint_here w images c d e x y z f g h joint =
    subst (λ (k : Clause). IsJoint w k (scope_of_both x y) images) (sym h)
    (subst (λ (k : Clause). IsJoint w e (scope_of_both k y) images) (sym f) (subst (λ (k : Clause). IsJoint w e (scope_of_both c k) images) (sym g) joint))

pub resolves_here : (w : Vocabulary) (images : List Term) (c d e x y z : Clause) (i j : ℕ) → x ≡ c → y ≡ d → z ≡ e → ResolvesTo w c d e i j (scope_of_both c d) (images_of_parents e images) → ResolvesTo w x y z i j (scope_of_both x y) (images_of_parents z images)
resolves_here w images c d e x y z i j f g h r =
    subst (λ (k : Clause). ResolvesTo w x y k i j (scope_of_both x y) (images_of_parents k images)) (sym h)
    (subst (λ (k : Clause). ResolvesTo w k y e i j (scope_of_both k y) (images_of_parents e images)) (sym f) (subst (λ (k : Clause). ResolvesTo w c k e i j (scope_of_both c k) (images_of_parents e images)) (sym g) r))

pub paramodulates_here : (w : Vocabulary) (images : List Term) (c d e x y z : Clause) (i : ℕ) (place : List ℕ) (j : ℕ) (flipped : Bool) → x ≡ c → y ≡ d → z ≡ e → Paramodulates w c d e i place j flipped (scope_of_both c d) (images_of_parents e images)
    → Paramodulates w x y z i place j flipped (scope_of_both x y) (images_of_parents z images)
paramodulates_here w images c d e x y z i place j flipped f g h r =
    subst (λ (k : Clause). Paramodulates w x y k i place j flipped (scope_of_both x y) (images_of_parents k images)) (sym h)
    (subst (λ (k : Clause). Paramodulates w k y e i place j flipped (scope_of_both k y) (images_of_parents e images)) (sym f) (subst (λ (k : Clause). Paramodulates w c k e i place j flipped (scope_of_both c k) (images_of_parents e images)) (sym g) r))
