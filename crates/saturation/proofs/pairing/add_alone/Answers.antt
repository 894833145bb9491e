use Rattle.std.proofs.lemmas.Result.{on_ok_weaker}
use Rattle.saturation.proofs.Naming.{alone_from}
use Rattle.saturation.proofs.pairing.add_alone.Goals as goal

pub returns : goal.returns
returns g c =
    on_ok_weaker c.name_all.result
    (alone_from c.args.signature.now c.args.c.now.clause.now c.args.c.now.number c.new-made.result c.add_from_one.new.made c.args.members.now c.name_all.new.members c.new-made.ensures c.in_ok-add_from_one.ensures)
    c.name_all.ensures
