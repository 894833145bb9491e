use Rattle.std.proofs.Common.{arith}
use Rattle.derive_kit.proofs.Built.{ok_map}
use Rattle.flat_proofs.proofs.FlatFacts.{part_forth, part_back}
use Rattle.flat_proofs.proofs.flats.norm_part.Goals as goal

pub returns-then-forth : goal.returns-then-forth
returns-then-forth c = ok_map c.norm_forth.result (λ made l. part_forth c.args.forth c.args.form.now made c.if-forth.true l) c.norm_forth.ensures

pub returns : goal.returns
returns c = ok_map c.norm_back.result (λ made l. part_back c.args.forth c.args.form.now made c.if-forth.false l) c.norm_back.ensures
