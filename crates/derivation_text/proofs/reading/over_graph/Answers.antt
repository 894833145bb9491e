use Rattle.derivation_text.proofs.Readings.{are_sentences, each_place}
use Rattle.derivation_text.proofs.reading.over_graph.Goals as goal

pub returns-in_ok-with_lines-in-Ok-clause-sentences :
    goal.returns-in_ok-with_lines-in-Ok-clause-sentences
returns-in_ok-with_lines-in-Ok-clause-sentences c =
    are_sentences c.denote.new.signature c.in-Ok.lines c.in_ok-with_lines-in-Ok.field-0 c.in-Ok.ensures.sorted (rw c.as_slice.ensures at c.in_ok-with_lines-in-Ok.ensures.forms)

pub returns-in_ok-with_lines-in-Ok-clause-each_place :
    goal.returns-in_ok-with_lines-in-Ok-clause-each_place
returns-in_ok-with_lines-in-Ok-clause-each_place c =
    each_place c.args.items.now c.args.given.now c.args.signature.now c.denote.new.signature c.args.graph c.in-Ok.lines c.requires.is_graph c.in-Ok.ensures.gives c.in_ok-with_lines-in-Ok.field-0 c.in_ok-with_lines-in-Ok.ensures.graph (rw c.as_slice.ensures at c.in_ok-with_lines-in-Ok.ensures.places)
