use Rattle.std.proofs.Common.{◌∙◌, ap}
use Rattle.tptp_lexer.specs.Lexemes.{lexemes}
use Rattle.tptp_lexer.specs.Words.{as_words}
use Rattle.tptp_lexer.proofs.Following.{words_taken}
use Rattle.tptp_lexer.proofs.list.TokenList.objects_as_words.Goals as goal

pub returns : goal.returns
returns c =
    let s = c.self.inside in
    words_taken s.words s.start.file s.text.now (lexemes s.style s.text.now s.end s.start.offset) ∙ ap as_words c.self.view_is
