use Rattle.std.proofs.Common.{take}
use Rattle.prove_out.specs.code.Written.{EachWritten, WritesForm}
use Rattle.prove_out.proofs.formulas.+formula.Given as goal

abbrev pub invariant-all-loop-form : goal.invariant-all-loop-form
invariant-all-loop-form l = EachWritten (WritesForm l.sig l.depth) (take l.form-index l.forms) l.formulas
