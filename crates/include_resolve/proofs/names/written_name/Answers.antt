use Rattle.include_resolve.proofs.Quotables.{quotable_utf8}
use Rattle.include_resolve.proofs.names.written_name.Goals as goal

pub unreachable-requires : goal.unreachable-requires
unreachable-requires c = c.in-Err.ensures.cases.0 (rw c.as_slice.ensures (quotable_utf8 c.args.include.now.file c.requires))
