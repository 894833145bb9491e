use Rattle.tptp_lexer.proofs.CommentEnds.{found_is}
use Rattle.tptp_lexer.proofs.scan.comment_end.Goals as goal

pub returns-clause-value : goal.returns-clause-value
returns-clause-value c = found_is c.args.text.now c.find.result c.find.ensures
