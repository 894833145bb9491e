use Rattle.std.proofs.Common.{sym}
use Rattle.fi_model.proofs.DomainLoops.{past}
use Rattle.fi_model.proofs.domains.no_domain.Goals as goal

pub unreachable-requires : goal.unreachable-requires
unreachable-requires c = past c.args.signature.now.sorts c.args.sort c.requires (sym c.in-None.ensures)
