use Rattle.tstp_graph.proofs.Places.{means_same}
use Rattle.tstp_graph.proofs.scope.scope_of.Goals as goal

pub returns : goal.returns
returns c = means_same (record { lines = c.in_ok-lines.lines; types = c.in_ok-types.types; given = c.in_ok-given.given }) c.args.items.now c.args.given.now c.in_ok-lines.ensures c.in_ok-types.ensures c.in_ok-given.ensures
