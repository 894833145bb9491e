use Rattle.tstp_graph.proofs.Texts.{put_text}
use Rattle.tstp_graph.proofs.names.TextTable.put.Goals as goal

pub returns : goal.returns
returns c = put_text c.args.self.now (record { places = c.insert.new.self }) _ c.args.text.now c.args.places c.in_ok-from_slice.ensures.items c.in_ok-insert.ensures.updates
