use Rattle.std.proofs.Common.{◌∙◌}
use Rattle.clause_form.specs.Paths.{forms_of}
use Rattle.sat_entries.proofs.PlainSteps.{input_is}
use Rattle.sat_entries.proofs.entries.clauses_of_step.Goals as goal

pub returns-in-Ok : goal.returns-in-Ok
returns-in-Ok c = c.in-Ok.ensures.clauses ∙ input_is (forms_of c.args.parents.now) c.args.line.now c.requires.propositional c.symbol_count-next.result
