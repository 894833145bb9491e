use Rattle.std.proofs.lemmas.Result.{on_ok_weaker}
use Rattle.superpose.proofs.Gathered.{equations_added}
use Rattle.superpose.proofs.one_clause.add_equations.Goals as goal

pub returns : goal.returns
returns c =
    on_ok_weaker c.keep-2.result
    (equations_added c.args.sig.now c.args.c.now c.args.i c.args.flipped c.args.j c.args.made.now c.keep.new.made c.keep-2.new.made c.in_ok-found.found c.in_ok-found-2.found c.in_ok-found.ensures c.in_ok-keep.ensures c.in_ok-found-2.ensures)
    c.keep-2.ensures
