use Rattle.std.proofs.Common.{refl, sym, ◌∙◌}
use Rattle.std.proofs.lemmas.Result.{IfOk-weaker}
use Rattle.tptp_lexer.specs.Lexemes.{lexemes, spelling, taken, token_of}
use Rattle.tptp_lexer.proofs.Gathering.{dot_by_kind, last_gathered, more_gathered}
use Rattle.tptp_lexer.proofs.through.take_item.Goals as goal

pub returns-then-last : goal.returns-then-last
returns-then-last c =
    last_gathered c.args.words c.args.text.now c.args.first (lexemes c.args.style c.args.text.now c.args.end c.args.from) (taken c.args.words (token_of c.args.first.kind (spelling c.args.text.now c.args.first))) refl c.args.tokens.now.items c.keep.new.tokens.items
    (sym (dot_by_kind c.args.words c.args.first.kind (spelling c.args.text.now c.args.first)) ∙ sym c.is_dot-last.ensures ∙ c.if-last.true) c.in_ok-keep.ensures

pub returns : goal.returns
returns c = IfOk-weaker c.take_others.result _ _ (λ to g.
    more_gathered c.args.words c.args.text.now c.args.first (lexemes c.args.style c.args.text.now c.args.end c.args.from) (taken c.args.words (token_of c.args.first.kind (spelling c.args.text.now c.args.first))) refl c.args.tokens.now.items
    (lexemes c.args.style c.args.text.now c.args.end to) c.keep.new.tokens.items c.take_others.new.tokens.items (sym (dot_by_kind c.args.words c.args.first.kind (spelling c.args.text.now c.args.first)) ∙ sym c.is_dot-last.ensures ∙ c.if-last.false) c.in_ok-keep.ensures g) c.take_others.ensures
