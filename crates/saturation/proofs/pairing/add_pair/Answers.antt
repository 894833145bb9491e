use Rattle.std.proofs.lemmas.Result.{on_ok_weaker}
use Rattle.saturation.proofs.Naming.{pair_from}
use Rattle.saturation.proofs.pairing.add_pair.Goals as goal

pub returns : goal.returns
returns g c =
    on_ok_weaker c.name_all.result
    (pair_from c.args.signature.now c.args.wanted c.args.c.now.clause.now c.args.d.now.clause.now c.args.c.now.number c.args.d.now.number c.new-made.result c.add_from_two.new.made c.args.members.now c.name_all.new.members
    c.if-not-wanted.false c.new-made.ensures c.in_ok-add_from_two.ensures)
    c.name_all.ensures
