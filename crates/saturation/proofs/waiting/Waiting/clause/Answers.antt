use Rattle.std.specs.Prelude.{IfOk, ◌≡◌}
use Rattle.std.proofs.Common.{subst}
use Rattle.saturation.specs.declared.member.Member.{Member}
use Rattle.saturation.proofs.waiting.Waiting.clause.Goals as goal

pub returns : goal.returns
returns c = subst (λ (m : Member). IfOk c.unpack.result (λ made. made ≡ m.clause)) c.self.view_is c.unpack.ensures
