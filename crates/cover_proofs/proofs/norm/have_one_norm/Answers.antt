use Rattle.std.proofs.Common.{sym, ◌∙◌}
use Rattle.clause_rules.proofs.Firsts.{holds}
use Rattle.cover_proofs.proofs.norm.have_one_norm.Goals as goal

pub returns : goal.returns
returns c =
    λ yes. sym (c.get.ensures ∙ c.in_ok-one.ensures ∙ c.in_ok-small_norm.ensures) ∙ holds c.equal.result _ yes c.equal.ensures ∙ (c.get-2.ensures ∙ c.in_ok-other.ensures ∙ c.in_ok-small_norm-2.ensures)
