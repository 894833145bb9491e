use Rattle.std.proofs.lemmas.Result.{on_ok_weaker}
use Rattle.clause_form.specs.Covers.{scope_of}
use Rattle.superpose.specs.Inferences.{ResolvesEquationAt}
use Rattle.superpose.proofs.Additions.{adds_found}
use Rattle.superpose.proofs.one_clause.add_resolved.Goals as goal

pub returns : goal.returns
returns c =
    on_ok_weaker c.keep.result
    (adds_found c.args.sig.now (scope_of c.args.c.now) (ResolvesEquationAt c.args.c.now c.args.i) c.args.made.now c.keep.new.made c.in_ok-found.found c.in_ok-found.ensures) c.keep.ensures
