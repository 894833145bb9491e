-- An instance in which an equation has rewritten a term, as code meets it.
use Rattle.std.specs.Prelude.{ℕ, ◌≡◌, Bool, List, [], ◌∷◌, length, slice_get, Some, refl}
use Rattle.std.proofs.Common.{ap, sym, subst, ◌∙◌, inl, inr, zero, suc}
use Rattle.fof_terms.specs.declared.term.Term.{Term}
use Rattle.fof_terms.specs.declared.form.Form.{Form, Eq}
use Rattle.fof_terms.specs.Vocabulary.{Vocabulary}
use Rattle.fof_terms.specs.Sorts.{sort_of_term, Sorted}
use Rattle.fof_terms.proofs.Scoped.{sorted_of_eq}
use Rattle.clause_form.specs.declared.clause.AtomOf.TheVariants.{Eq as Equation}
use Rattle.clause_form.specs.declared.clause.Lit.{Lit}
use Rattle.clause_form.specs.ClauseView.{form_of_lit}
use Rattle.clause_form.specs.Covers.{AreSorted, negated}
use Rattle.clause_rules.specs.Steps.{equation, AreCovered}
use Rattle.rule_proofs.specs.code.Factoring.{pick}
use Rattle.clause_proofs.specs.Refuting.{AllSettled}
use Rattle.rule_proofs.specs.code.Rewriting.{filled, IsMarked, IsRewriting}
use Rattle.rule_proofs.proofs.Factors.{sides_at, lit_equation}
use Rattle.rule_proofs.proofs.Fillings.{filled_sorted}

one_sort : (x y : ℕ) → Some x ≡ Some y → x ≡ y
one_sort x y e = cc

one_lit : (k l : Lit) → Some k ≡ Some l → k ≡ l
one_lit k l e = cc

module _ (w : Vocabulary) (v : List ℕ) (line : List Lit) (images : List Term) (marked old : List Lit) (e : Lit) (flipped : Bool) (r : IsRewriting w v line images marked old e flipped) (l m a b : Term) (is : e.atom ≡ Equation l m) (ea : a ≡ pick flipped l m) (eb : b ≡ pick flipped m l) where
  left_is : a ≡ r.left
  left_is = ea ∙ (sides_at flipped e r.left r.right l m r.is_equation is).0

  right_is : b ≡ r.right
  right_is = eb ∙ (sides_at flipped e r.left r.right l m r.is_equation is).1

  pub equation_is : e ≡ equation flipped a b
  equation_is = r.is_equation ∙ ap (λ (t : Term). equation flipped t r.right) (sym left_is) ∙ ap (equation flipped a) (sym right_is)

  pub marked_here : IsMarked w v images marked a
  marked_here = subst (IsMarked w v images marked) (sym left_is) r.is_marked

  pub before_here : old ≡ filled images marked a
  before_here = r.before ∙ ap (filled images marked) (sym left_is)

  pub sides_sorted : Sorted w v (form_of_lit e) → Sorted w v (Eq a b)
  sides_sorted s = lit_equation w v e flipped a b equation_is s

  pub covered_here : (lits : List Lit) → lits ≡ filled images marked b → AllSettled line e lits
  covered_here lits made i k at =
      let covered : AreCovered line lits = subst (AreCovered line) (sym (made ∙ ap (filled images marked) right_is)) r.covered in
      inl (covered i k at)

  pub made_sorted : (lits : List Lit) → lits ≡ filled images marked b → Sorted w v (form_of_lit e) → AreSorted w v lits
  made_sorted lits made s =
      let sides = sorted_of_eq w v 2147483647 a b (sides_sorted s) in
      let same : sides.0 ≡ r.is_marked.sort = one_sort sides.0 r.is_marked.sort (sym sides.1 ∙ ap (sort_of_term w v) left_is ∙ r.is_marked.left_sort) in
      subst (AreSorted w v) (sym (made ∙ ap (filled images marked) right_is)) (filled_sorted w v images marked r.left r.is_marked r.right (ap (sort_of_term w v) (sym right_is) ∙ sides.2 ∙ ap Some same))

  pub hypothesis_here : (h : List Form) → slice_get (form_of_lit e ∷ h) 0 ≡ Some (form_of_lit (equation flipped a b))
  hypothesis_here h = ap (λ (x : Lit). Some (form_of_lit x)) equation_is

-- a clause that is one equation
pub one_settled : (line from : List Lit) (e q : Lit) → from ≡ q ∷ [] → e ≡ q → AllSettled line (negated e) from
one_settled line from e q is same zero k at =
    let value : k ≡ e = one_lit k e (sym at ∙ ap (λ (ls : List Lit). slice_get ls 0) is ∙ ap Some (sym same)) in
    inr (inl (ap negated value))
one_settled line from e q is same (suc i) k at = absurd (past (sym at ∙ ap (λ (ls : List Lit). slice_get ls (suc i)) is)) where
  past : Some k ≡ slice_get (q ∷ []) (suc i) → ⊥
  past e = cc
