use Rattle.std.proofs.Common.{◌∙◌, Some, None}
use Rattle.tstp_graph.proofs.Texts.{found_is, puts}
use Rattle.tstp_graph.proofs.names.TextTable.take.Goals as goal

pub returns-in-Some-clause-taken : goal.returns-in-Some-clause-taken
returns-in-Some-clause-taken c = found_is c.args.self.now c.args.text.now (Some c.in-Some.places) c.in-Some.ensures.value

pub returns-in-Some-clause-left : goal.returns-in-Some-clause-left
returns-in-Some-clause-left c = puts c.args.self.now (record { places = c.swap_remove.new.self }) c.args.text.now None c.in-Some.ensures.updates

pub returns-in-None-clause-taken : goal.returns-in-None-clause-taken
returns-in-None-clause-taken c = c.new.ensures ∙ found_is c.args.self.now c.args.text.now None c.in-None.ensures.value

pub returns-in-None-clause-left : goal.returns-in-None-clause-left
returns-in-None-clause-left c = puts c.args.self.now (record { places = c.swap_remove.new.self }) c.args.text.now None c.in-None.ensures.updates
