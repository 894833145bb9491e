use Rattle.std.proofs.Common.{subst}
use Rattle.tptp_lexer.specs.Answer.{Answers, whole}
use Rattle.lexer_pieces.specs.Pieces.{Fed}
use Rattle.lexer_pieces.proofs.lexer.Lexer.finish.Goals as goal

pub returns-in-None-clause-answer : goal.returns-in-None-clause-answer
returns-in-None-clause-answer c = λ free.
    let answer = subst (λ z. Answers c.self.inside.file z (whole z) c.self.inside.style c.tokens.result) c.as_slice-text.ensures.value c.tokens.ensures.answer in
    subst (λ (fed : Fed). Answers fed.file fed.text (whole fed.text) fed.style c.tokens.result) c.self.view_is answer
