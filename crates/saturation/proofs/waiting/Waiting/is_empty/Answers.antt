use Rattle.std.specs.Prelude.{IsTrue, ◌↔◌, ◌≡◌, []}
use Rattle.std.proofs.Common.{subst}
use Rattle.saturation.specs.declared.member.Member.{Member}
use Rattle.saturation.proofs.waiting.Waiting.is_empty.Goals as goal

pub returns : goal.returns
returns c = subst (λ (m : Member). IsTrue c.is_empty.result ↔ (m.clause.lits ≡ [])) c.self.view_is c.is_empty.ensures
