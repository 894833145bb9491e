use Rattle.std.proofs.Common.{arith}
use Rattle.clause_form.specs.Covers.{scope_of}
use Rattle.superpose.specs.code.Places.{FactorsPair}
use Rattle.superpose.proofs.Additions.{adds_next}
use Rattle.superpose.proofs.Gathered.{factored_added}
use Rattle.superpose.proofs.one_clause.add_factored.Goals as goal

pub loop-j-preserved : goal.loop-j-preserved
loop-j-preserved c =
    adds_next c.args.sig.now (scope_of c.args.c.now) (FactorsPair c.args.c.now c.args.i) c.loop-j.j c.args.made.now c.loop-j.made c.add_pair.new.made c.loop-j.invariant c.in_ok-add_pair.ensures

pub returns : goal.returns
returns c =
    let end = c.loop-j-test.false in
    let size = c.len-j-end.ensures in
    factored_added c.args.sig.now c.args.c.now c.args.i c.loop-j.j c.args.made.now c.loop-j.made (omega arith) c.loop-j.invariant
