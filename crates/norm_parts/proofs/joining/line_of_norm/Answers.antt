use Rattle.derive_kit.proofs.Built.{ok_map}
use Rattle.norm_parts.proofs.Gathered.{line_by_norm}
use Rattle.norm_parts.proofs.joining.line_of_norm.Goals as goal

pub returns : goal.returns
returns c = ok_map c.apply.result (λ made f. line_by_norm c.args.line.now c.in_ok-back.back c.args.whole made c.in_ok-back.ensures f) c.apply.ensures
