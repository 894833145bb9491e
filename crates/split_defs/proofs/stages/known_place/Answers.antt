use Rattle.split_defs.proofs.NameTests.{name_parts}
use Rattle.split_defs.proofs.stages.known_place.Goals as goal

pub unreachable-requires-in-None : goal.unreachable-requires-in-None
unreachable-requires-in-None c = c.in-None.ensures (name_parts c.args.line.now.clause c.args.name.now c.in-Atom.symbol c.in-Atom.field-1 c.as_slice.result.now c.in-Atom.is c.as_slice.ensures c.requires).1
