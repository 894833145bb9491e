use Rattle.std.proofs.Common.{◌+◌, ◌∙◌, ap}
use Rattle.derivation_limits.specs.Totals.{capped}
use Rattle.derivation_limits.proofs.TotalsFacts.{adds}
use Rattle.derivation_limits.proofs.totals.Totals.add.Goals as goal

pub returns : goal.returns
returns c =
    adds c.args.self.now (record { totals = c.insert.new.self }) c.args.name.now _ c.args.amount c.saturating_add-total.result c.in_ok-from_slice.ensures.items
    (c.saturating_add-total.ensures ∙ ap (λ n. capped (n + c.args.amount)) c.total.ensures) c.in_ok-insert.ensures.updates
