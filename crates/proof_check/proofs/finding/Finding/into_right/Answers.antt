use Rattle.std.proofs.Common.{rules, ◌≡◌, ◌∙◌, ap, Some}
use Rattle.fof_terms.specs.declared.form.Form.{Imp, Iff}
use Rattle.fof_terms.proofs.Trees.{Imp-injective, Iff-injective}
use Rattle.proof_check.proofs.finding.Finding.into_right.Goals as goal

pub returns-in-Implication-clause-imp : goal.returns-in-Implication-clause-imp
returns-in-Implication-clause-imp c = λ l r e.
    let same : Imp c.in-Implication.field-0.now c.in-Implication.right.now ≡ c.args.self = search (rules, c.in-Implication.is, c.self.view_is) in
    ap Some (c.given-in-Implication.ensures ∙ (Imp-injective c.in-Implication.field-0.now c.in-Implication.right.now l r (same ∙ e)).1)

pub returns-in-Towards-clause-imp : goal.returns-in-Towards-clause-imp
returns-in-Towards-clause-imp c = λ l r e.
    let same : Imp c.in-Towards.field-0.now c.in-Towards.right ≡ c.args.self = search (rules, c.in-Towards.is, c.self.view_is) in
    let made : c.made-in-Towards.result ≡ c.in-Towards.right = search (rules, c.made-in-Towards.ensures, c.in-Towards.is, c.in-Towards.right-is) in
    ap Some (made ∙ (Imp-injective c.in-Towards.field-0.now c.in-Towards.right l r (same ∙ e)).1)

pub returns-clause-iff : goal.returns-clause-iff
returns-clause-iff c = λ l r e.
    let same : Iff c.in-Equivalence.field-0.now c.in-Equivalence.right.now ≡ c.args.self = search (rules, c.in-Equivalence.is, c.self.view_is) in
    ap Some (c.given-in-Equivalence.ensures ∙ (Iff-injective c.in-Equivalence.field-0.now c.in-Equivalence.right.now l r (same ∙ e)).1)
