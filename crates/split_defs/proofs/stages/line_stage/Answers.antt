use Rattle.std.proofs.Common.{rules}
use Rattle.clause_proofs.proofs.LineGoals.{opened_clause}
use Rattle.split_defs.proofs.Contraries.{line_stage}
use Rattle.split_defs.proofs.stages.line_stage.Goals as goal

pub known_clause-requires : goal.known_clause-requires
known_clause-requires c = (c.args.line.now.clause, c.requires.opening.0)

pub returns-clause-stage : goal.returns-clause-stage
returns-clause-stage c = line_stage c.args.sig.now c.args.parents.now c.args.form.now c.args.line.now c.requires _ c.in_ok-opened.ensures (search rules) (search rules)

pub returns-clause-clause : goal.returns-clause-clause
returns-clause-clause c = opened_clause c.args.form.now c.in_ok-opened.opened c.args.line.now.clause c.in_ok-opened.ensures c.requires.opening.0
