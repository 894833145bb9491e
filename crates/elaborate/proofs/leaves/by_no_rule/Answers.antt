use Rattle.std.proofs.Common.{inl, inr, refl}
use Rattle.derive_kit.proofs.Built.{ok_map}
use Rattle.elaborate.proofs.leaves.by_no_rule.Goals as goal

pub returns-then-cited : goal.returns-then-cited
returns-then-cited c = ok_map c.by_search.result (λ answer h. inl (c.if-cited.true, h)) c.by_search.ensures

pub returns : goal.returns
returns c = inr (c.if-cited.false, refl)
