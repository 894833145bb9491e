use Rattle.std.proofs.Common.{ap, subst, refl}
use Rattle.fof_terms.specs.declared.term.Term.{Var}
use Rattle.substitution_search.specs.Screens.{NeverAll}
use Rattle.rule_steps.proofs.Changing.{never_rewritten}
use Rattle.rule_steps.proofs.RewriteCode.{replaced_as}
use Rattle.rule_steps.proofs.rewrite_rule.may_be_rewritten.Goals as goal

pub returns : goal.returns
returns c = λ e.
    never_rewritten c.args.line.now c.args.into.now c.args.target.now c.in_ok-open.open (replaced_as c.args.target.now (Var c.len.result) (Var _) c.args.into.now.lits c.as_slice.result.now c.in_ok-open.open c.in_ok-open.open (ap Var c.len.ensures) c.as_slice.ensures refl c.in_ok-open.ensures)
    (subst (λ ls. NeverAll ls c.in_ok-open.open) c.as_slice-2.ensures (subst (λ ks. NeverAll c.as_slice-2.result.now ks) c.as_slice-3.ensures (c.may_all_be_covered.ensures e)))
