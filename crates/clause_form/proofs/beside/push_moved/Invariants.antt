use Rattle.std.proofs.Common.{◌≡◌, ◌++◌, take, map}
use Rattle.clause_form.specs.Covers.{in_lit}
use Rattle.clause_form.specs.code.Beside.{moved}
use Rattle.clause_form.proofs.beside.push_moved.Given as goal

abbrev pub invariant-loop-lit : goal.invariant-loop-lit
invariant-loop-lit l = l.lits ≡ l.fn.lits ++ map (in_lit (moved l.after l.before l.count)) (take l.lit-index l.own)
