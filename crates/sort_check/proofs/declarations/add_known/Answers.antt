use Rattle.sort_check.proofs.Alike.{added_within, known_before, known_after}
use Rattle.sort_check.proofs.declarations.add_known.Goals as goal

pub add-requires-clause-within : goal.add-requires-clause-within
add-requires-clause-within c = added_within c.args.symbol c.args.signature.now c.add_symbol.new.signature c.in_ok-number.number c.in_ok-number.ensures.value

pub add-requires-clause-known : goal.add-requires-clause-known
add-requires-clause-known c = known_before c.args.namesakes.now c.args.symbol c.args.signature.now c.add_symbol.new.signature c.in_ok-number.number c.in_ok-number.ensures.value c.requires.knows

pub returns-clause-knows : goal.returns-clause-knows
returns-clause-knows c = known_after c.add.new.self c.args.symbol c.args.signature.now c.add_symbol.new.signature c.in_ok-number.number c.in_ok-number.ensures.value c.in_ok-add.ensures
