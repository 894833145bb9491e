use Rattle.std.proofs.Common.{[], ◌∷◌, ◌++◌, ap, sym, ◌∙◌}
use Rattle.tptp_lexer.specs.declared.token.Token.TheVariants as t
use Rattle.tptp_lexer.specs.Lexemes.{inside, taken, token_of, unescaped}
use Rattle.tptp_lexer.specs.code.Gathered.{kept}
use Rattle.tptp_lexer.proofs.Gathering.{object_joins}
use Rattle.tptp_lexer.proofs.through.put.Goals as goal

pub returns-in-Distinct : goal.returns-in-Distinct
returns-in-Distinct c =
    let same = c.distinct.ensures ∙ ap (λ written. taken c.args.words (t.Distinct (unescaped written))) c.inside-in-Distinct.ensures in
    c.push_reserved-in-Distinct.ensures.items ∙ ap (λ token. c.args.tokens.now.items ++ token ∷ []) same
    ∙ object_joins c.args.words (unescaped (inside c.args.spelling.now)) c.args.tokens.now.items
    ∙ ap (λ kind. kept (taken c.args.words (token_of kind c.args.spelling.now)) c.args.tokens.now.items) (sym c.in-Distinct.is)
