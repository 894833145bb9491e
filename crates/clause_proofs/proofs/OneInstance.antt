-- The instance of one clause under a joint substitution.
use Rattle.std.specs.Prelude.{ℕ, ◌≡◌, ◌+◌, List, [], ◌++◌, length, map, take, drop, reverse, slice_get, Some, refl}
use Rattle.std.proofs.Common.{ap, sym, subst, ◌∙◌, append-nil}
use Rattle.std.proofs.lemmas.List.{length-reverse}
use Rattle.fof_terms.specs.declared.term.Term.{Term}
use Rattle.fof_terms.specs.declared.form.Form.{Form}
use Rattle.fof_terms.specs.Vocabulary.{Vocabulary}
use Rattle.fof_terms.proofs.LiftingLaws.{here}
use Rattle.fof_terms.specs.Sorts.{IsScope}
use Rattle.clause_form.specs.declared.clause.Clause.{Clause}
use Rattle.clause_form.specs.Covers.{AreSorted, lit_image, scope_of}
use Rattle.clause_rules.specs.Steps.{IsJoint, images_of_parents}
use Rattle.unify_terms.specs.Substitution.{image_at}
use Rattle.clause_proofs.specs.declared.opening.Opened.{Opened}
use Rattle.clause_proofs.specs.declared.premises.Premise.{Premise}
use Rattle.clause_proofs.specs.code.Bodies.{IsReadyClause}
use Rattle.clause_proofs.specs.Premises.{IsSource, IsPremiseOf}
use Rattle.clause_proofs.specs.Refuting.{ShowsBody}
use Rattle.clause_proofs.proofs.JointParts.{source_of, instances_are, instances_sorted}

-- the instance of one clause
module _ (w : Vocabulary) (e : Clause) (images : List Term) (form : Form) (o : Opened) (r : IsReadyClause w form o) (joint : IsJoint w e (scope_of o.clause) images) (li : List Term) (eli : li ≡ take (length o.clause.sorts) (drop (length e.sorts) images))
    (number : ℕ) (lp : Premise) (hl : IsPremiseOf number o li lp) where
  abbrev one_scope : List ℕ
  one_scope = scope_of e ++ scope_of o.clause

  one_is : one_scope ≡ scope_of e ++ (reverse o.clause.sorts ++ [])
  one_is = ap (λ (ss : List ℕ). scope_of e ++ ss) (sym (append-nil (reverse o.clause.sorts)))

  front_length : length e.sorts ≡ length (scope_of e)
  front_length = sym (length-reverse e.sorts)

  lits_are : lp.lits ≡ map (lit_image (image_at (take (length o.clause.sorts) (drop (length e.sorts) images)))) o.clause.lits
  lits_are = hl.lits ∙ ap (λ (xs : List Term). map (lit_image (image_at xs)) o.clause.lits) eli

  pub instances_here : map (lit_image (images_of_parents e images)) o.clause.lits ≡ lp.lits
  instances_here = instances_are w one_scope (length e.sorts) images joint form o r (scope_of e) [] (length e.sorts) one_is front_length (images_of_parents e images) (λ k. refl) ∙ sym lits_are

  module _ (v : List ℕ) (here : v ≡ one_scope) where
    pub one_sorted : AreSorted w v lp.lits
    one_sorted =
        subst (λ (ss : List ℕ). AreSorted w ss lp.lits) (sym here)
        (subst (AreSorted w one_scope) (sym lits_are) (instances_sorted w one_scope (length e.sorts) images joint form o r (scope_of e) [] (length e.sorts) one_is front_length))

    pub one_shown : (formulas : List Form) → IsScope w v → slice_get formulas number ≡ Some form → ShowsBody w v formulas lp.is_or lp.lits lp.part
    one_shown formulas sc there =
        let src = source_of w one_scope (length e.sorts) images joint form o r (scope_of e) [] (length e.sorts) one_is front_length formulas number (subst (IsScope w) here sc) there in
        subst (λ (ss : List ℕ). ShowsBody w ss formulas lp.is_or lp.lits lp.part) (sym here) (hl.shows w one_scope formulas (subst (IsSource w one_scope formulas number o) (sym eli) src))

-- what a justification has, where the parent is opened
pub one_joint_here : (w : Vocabulary) (images : List Term) (c e x z : Clause) → x ≡ c → z ≡ e → IsJoint w e (scope_of c) images → IsJoint w z (scope_of x) images
one_joint_here w images c e x z f h joint = subst (λ (k : Clause). IsJoint w k (scope_of x) images) (sym h) (subst (λ (k : Clause). IsJoint w e (scope_of k) images) (sym f) joint)
