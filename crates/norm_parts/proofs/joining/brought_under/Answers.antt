use Rattle.derive_kit.proofs.Built.{ok_map}
use Rattle.norm_parts.proofs.Gathered.{brought_cut}
use Rattle.norm_parts.proofs.joining.brought_under.Goals as goal

pub returns : goal.returns
returns c = ok_map c.cut_under.result (λ made f. brought_cut c.args.own.now c.in_ok-copy_all.field-0 c.in_ok-all.all c.args.part made c.in_ok-all.ensures c.in_ok-copy_all.ensures f) c.cut_under.ensures
