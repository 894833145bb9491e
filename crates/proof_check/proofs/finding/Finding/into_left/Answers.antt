use Rattle.std.proofs.Common.{rules, ◌≡◌, ◌∙◌, ap, Some}
use Rattle.fof_terms.specs.declared.form.Form.{Iff}
use Rattle.fof_terms.proofs.Trees.{Iff-injective}
use Rattle.proof_check.proofs.finding.Finding.into_left.Goals as goal

pub returns-in-Equivalence : goal.returns-in-Equivalence
returns-in-Equivalence c = λ l r e.
    let same : Iff c.in-Equivalence.left.now c.in-Equivalence.field-1.now ≡ c.args.self = search (rules, c.in-Equivalence.is, c.self.view_is) in
    ap Some (c.given-in-Equivalence.ensures ∙ (Iff-injective c.in-Equivalence.left.now c.in-Equivalence.field-1.now l r (same ∙ e)).0)
