use Rattle.split_defs.specs.SplitRule.{AllName}
use Rattle.clause_form.specs.Paths.{forms_of}
use Rattle.split_defs.proofs.names.all_named.Given as goal

abbrev pub invariant-loop-i : goal.invariant-loop-i
invariant-loop-i l = AllName (forms_of l.parents) l.line l.i l.named.numbers l.named.clauses
