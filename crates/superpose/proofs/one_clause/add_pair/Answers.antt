use Rattle.std.proofs.lemmas.Result.{on_ok_weaker}
use Rattle.superpose.proofs.Gathered.{pair_added}
use Rattle.superpose.proofs.one_clause.add_pair.Goals as goal

pub returns : goal.returns
returns c =
    on_ok_weaker c.add_equations-2.result
    (pair_added c.args.sig.now c.args.c.now c.args.i c.args.j c.args.made.now c.keep.new.made c.add_equations.new.made c.add_equations-2.new.made c.in_ok-found.found c.in_ok-found.ensures c.in_ok-keep.ensures c.in_ok-add_equations.ensures)
    c.add_equations-2.ensures
