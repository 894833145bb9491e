use Rattle.std.proofs.Common.{ap, ◌∙◌}
use Rattle.clause_form.specs.Norm.{signed}
use Rattle.norm_proofs.proofs.Made.{other_made}
use Rattle.norm_proofs.proofs.connecting.by_other.Goals as goal

pub returns-clause-part : goal.returns-clause-part
returns-clause-part c = λ n same l k.
    other_made c.args.positive c.args.forth n c.args.whole c.args.other c.in_ok-first.first c.in_ok-last.last c.in_ok-before.before c.args.inner.part c.in_ok-part.part c.in_ok-part.ensures
    (c.in_ok-first.ensures ∙ ap (signed c.args.positive) (c.in_ok-copy.ensures ∙ c.get.ensures)) (c.in_ok-last.ensures ∙ c.get-2.ensures ∙ c.requires) same (c.in_ok-before.ensures n l) k
