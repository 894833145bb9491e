use Rattle.std.proofs.Common.{ap, sym, ◌∙◌}
use Rattle.saturation.specs.declared.member.Member.{Member}
use Rattle.saturation.proofs.waiting.Waiting.has_clause_of.Goals as goal

pub returns : goal.returns
returns c = λ told. ap (λ (m : Member). m.clause) (sym c.self.view_is) ∙ c.is.ensures told ∙ ap (λ (m : Member). m.clause) c.other.view_is
