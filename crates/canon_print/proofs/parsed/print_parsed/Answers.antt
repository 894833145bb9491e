use Rattle.canon_print.proofs.PrintedItems.{all_printed}
use Rattle.canon_print.proofs.parsed.print_parsed.Goals as goal

pub returns-clause-text : goal.returns-clause-text
returns-clause-text c =
    all_printed c.args.tokens.now c.empty_with_room-text.result.items c.parse_into.new.into.text.items c.from_vec.result c.empty_with_room-text.ensures c.from_vec.ensures c.in_ok-parse_into.ensures.taken
