use Rattle.tstp_graph.proofs.Texts.{adds_on}
use Rattle.tstp_graph.proofs.names.TextTable.add.Goals as goal

pub returns : goal.returns
returns c = adds_on c.put.result c.args.self.now c.take-places.new.self c.put.new.self c.args.text.now c.args.place c.take-places.result c.push.new.self c.take-places.ensures.taken c.take-places.ensures.left c.in_ok-push.ensures.ok c.put.ensures
