use Rattle.derivation_order.proofs.Cited.{sources_at}
use Rattle.derivation_order.proofs.laws.linked_lines_have_their_sources.Goals as goal

pub returns : goal.returns
returns c = λ given lines types graph k line linked is at. sources_at given lines linked k types graph is line at
