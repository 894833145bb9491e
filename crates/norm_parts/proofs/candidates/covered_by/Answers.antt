use Rattle.derive_kit.proofs.Built.{ok_map}
use Rattle.norm_parts.proofs.Known.{covered_so}
use Rattle.norm_parts.proofs.candidates.covered_by.Goals as goal

pub returns : goal.returns
returns c = ok_map c.cover_clause.result (covered_so c.args.signature.now c.args.clause.now c.args.line.now) c.cover_clause.ensures
