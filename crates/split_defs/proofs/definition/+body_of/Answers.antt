use Rattle.split_defs.proofs.DefinitionEnds.{body_further, body_shallow}
use Rattle.split_defs.proofs.definition.+body_of.Goals as goal

pub returns-in-All-clause-body : goal.returns-in-All-clause-body
returns-in-All-clause-body t c = body_further c.args.form.now c.get.result.now c.body_of.result.now c.in-All.field-0 c.in-All.body c.in-All.is c.get.ensures c.body_of.ensures.body

pub returns-in-All-clause-shallow : goal.returns-in-All-clause-shallow
returns-in-All-clause-shallow t c = body_shallow c.args.form.now c.get.result.now c.body_of.result.now c.in-All.field-0 c.in-All.body c.in-All.is c.get.ensures c.body_of.ensures.shallow
