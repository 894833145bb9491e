use Rattle.prove_out.proofs.Whole.{writes_denoting}
use Rattle.prove_out.proofs.formulas.surface_of.Goals as goal

pub returns-clause-denotes : goal.returns-clause-denotes
returns-clause-denotes c = writes_denoting c.args.sig.now c.args.form.now c.written.result c.written.ensures
