use Rattle.std.proofs.lemmas.Result.{on_ok_weaker}
use Rattle.superpose.proofs.Gathered.{lit_added}
use Rattle.superpose.proofs.one_clause.add_from_lit.Goals as goal

pub returns : goal.returns
returns c =
    on_ok_weaker c.add_factored.result
    (lit_added c.args.sig.now c.args.c.now c.args.i c.args.made.now c.add_resolved.new.made c.add_factored.new.made c.in_ok-add_resolved.ensures) c.add_factored.ensures
