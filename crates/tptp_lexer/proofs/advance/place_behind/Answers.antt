use Rattle.std.proofs.Common.{refl, arith}
use Rattle.tptp_lexer.proofs.Places.{column_fits, piece_fits, same_line, new_line}
use Rattle.tptp_lexer.proofs.advance.place_behind.Goals as goal

pub overflow_add-result : goal.overflow_add-result
overflow_add-result c =
    let text = c.args.text.now in let place = c.args.place in
    let column = column_fits text place c.args.to c.requires.placed c.requires.ordered in
    let piece = piece_fits text place c.args.to c.requires.placed c.requires.ordered in
    grind (arith, column, piece)

pub returns-in-None : goal.returns-in-None
returns-in-None c = same_line c.args.text.now c.args.place c.args.to c.requires.placed c.requires.ordered _ refl c.in-None.ensures

pub returns-in-Some : goal.returns-in-Some
returns-in-Some c = new_line c.args.text.now c.args.place c.args.to c.requires.placed c.requires.ordered _ c.in-Some.at refl c.in-Some.ensures c.line_feeds.result c.line_feeds.ensures.value
