use Rattle.std.proofs.Common.{◌∙◌, Some, None}
use Rattle.tstp_graph.proofs.Texts.{found_is}
use Rattle.tstp_graph.proofs.names.TextTable.places.Goals as goal

pub returns-in-Some : goal.returns-in-Some
returns-in-Some c = c.as_slice.ensures ∙ found_is c.args.self.now c.args.text.now (Some c.in-Some.places.now) c.in-Some.ensures.value

pub returns-in-None : goal.returns-in-None
returns-in-None c = found_is c.args.self.now c.args.text.now None c.in-None.ensures.value
