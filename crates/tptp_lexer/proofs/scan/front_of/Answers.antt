use Rattle.tptp_lexer.proofs.SingleFronts.{single_front}
use Rattle.tptp_lexer.proofs.scan.front_of.Goals as goal

pub returns-in-Some : goal.returns-in-Some
returns-in-Some c = single_front c.args.style c.args.text.now c.in-Some.mark c.requires c.in-Some.ensures
