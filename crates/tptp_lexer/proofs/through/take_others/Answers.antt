use Rattle.std.proofs.Common.{◌+◌, ◌≤◌, refl, sym, ◌∙◌, arith}
use Rattle.tptp_lexer.specs.declared.lexeme.Lexeme.{Lexeme}
use Rattle.tptp_lexer.specs.Lexemes.{lexemes, spelling, taken, token_of}
use Rattle.tptp_lexer.proofs.Gathering.{dot_by_kind, end_gathered, gathered_as, last_gathered, more_gathered}
use Rattle.tptp_lexer.proofs.Stepping.{blanks_within, token_within, blanks_scanned, token_scanned, open_scanned, nothing_scanned, none_left, blanks_taken, token_taken}
use Rattle.tptp_lexer.proofs.through.take_others.Goals as goal

-- what was found lies before the end
blanks_fit : (c : goal.In-Blanks) → c.tokens.at + c.in-Blanks.len ≤ c.args.end
blanks_fit c = blanks_within c.args.style 0 c.args.text.now c.args.end c.tokens.at c.tokens-test.true c.requires c.in-Blanks.len (sym c.in-Blanks.ensures)

token_fits : (c : goal.After-is_dot-last) → c.tokens.at + c.in-Token.len ≤ c.args.end
token_fits c = token_within c.args.style 0 c.args.text.now c.args.end c.tokens.at c.tokens-test.true c.requires c.in-Token.kind c.in-Token.len (sym c.in-Token.ensures)

pub overflow_add-at : goal.overflow_add-at
overflow_add-at c = let fits = blanks_fit c in grind (arith, fits)

pub tokens-smaller-in-Blanks : goal.tokens-smaller-in-Blanks
tokens-smaller-in-Blanks c =
    let takes = blanks_taken c.args.style 0 c.args.text.now c.args.end c.tokens.at c.tokens-test.true c.requires c.in-Blanks.len (sym c.in-Blanks.ensures) in
    let moves = takes.moves in let within = takes.within in omega (arith, moves, within)

pub tokens-preserved-in-Blanks : goal.tokens-preserved-in-Blanks
tokens-preserved-in-Blanks c = λ left after g.
    let same = blanks_scanned c.args.style 0 c.args.text.now c.args.end c.tokens.at c.tokens-test.true c.requires c.in-Blanks.len (sym c.in-Blanks.ensures) in
    c.tokens.invariant left after (gathered_as c.args.words c.args.text.now _ _ left c.tokens.tokens.items after same g)

pub overflow_add-begin : goal.overflow_add-begin
overflow_add-begin c = let fits = token_fits c in grind (arith, fits)

pub slice_bounds-keep-end : goal.slice_bounds-keep-end
slice_bounds-keep-end c = let fits = token_fits c in let within = c.requires in omega (arith, fits, within)

pub returns-then-last : goal.returns-then-last
returns-then-last c =
    let this : Lexeme = record { kind = c.in-Token.kind; len = c.in-Token.len; at = c.tokens.at } in
    let scanned = token_scanned c.args.style 0 c.args.text.now c.args.end c.tokens.at c.tokens-test.true c.requires c.in-Token.kind c.in-Token.len (sym c.in-Token.ensures) in
    let list = lexemes c.args.style c.args.text.now c.args.end (c.tokens.at + c.in-Token.len) in
    let dot = sym (dot_by_kind c.args.words this.kind (spelling c.args.text.now this)) ∙ sym c.is_dot-last.ensures ∙ c.if-last.true in
    let g = last_gathered c.args.words c.args.text.now this list (taken c.args.words (token_of this.kind (spelling c.args.text.now this))) refl c.tokens.tokens.items c.keep.new.tokens.items dot c.in_ok-keep-in-Token.ensures in
    c.tokens.invariant list c.keep.new.tokens.items (gathered_as c.args.words c.args.text.now _ _ list c.tokens.tokens.items c.keep.new.tokens.items scanned g)

pub tokens-smaller : goal.tokens-smaller
tokens-smaller c =
    let takes = token_taken c.args.style 0 c.args.text.now c.args.end c.tokens.at c.tokens-test.true c.requires c.in-Token.kind c.in-Token.len (sym c.in-Token.ensures) in
    let moves = takes.moves in let within = takes.within in omega (arith, moves, within)

pub tokens-preserved : goal.tokens-preserved
tokens-preserved c = λ left after g.
    let this : Lexeme = record { kind = c.in-Token.kind; len = c.in-Token.len; at = c.tokens.at } in
    let scanned = token_scanned c.args.style 0 c.args.text.now c.args.end c.tokens.at c.tokens-test.true c.requires c.in-Token.kind c.in-Token.len (sym c.in-Token.ensures) in
    let list = lexemes c.args.style c.args.text.now c.args.end (c.tokens.at + c.in-Token.len) in
    let none = sym (dot_by_kind c.args.words this.kind (spelling c.args.text.now this)) ∙ sym c.is_dot-last.ensures ∙ c.if-last.false in
    let more = more_gathered c.args.words c.args.text.now this list (taken c.args.words (token_of this.kind (spelling c.args.text.now this))) refl c.tokens.tokens.items left c.keep.new.tokens.items after none c.in_ok-keep-in-Token.ensures g in
    c.tokens.invariant left after (gathered_as c.args.words c.args.text.now _ _ left c.tokens.tokens.items after scanned more)

pub returns-in-Open : goal.returns-in-Open
returns-in-Open c = c.tokens.invariant _ c.tokens.tokens.items
    (end_gathered c.args.words c.args.text.now _ c.tokens.tokens.items (open_scanned c.args.style 0 c.args.text.now c.args.end c.tokens.at c.tokens-test.true c.requires (sym c.in-Open.ensures)))

pub returns-in-Nothing : goal.returns-in-Nothing
returns-in-Nothing c = c.tokens.invariant _ c.tokens.tokens.items
    (end_gathered c.args.words c.args.text.now _ c.tokens.tokens.items (nothing_scanned c.args.style 0 c.args.text.now c.args.end c.tokens.at c.tokens-test.true c.requires (sym c.in-Nothing.ensures)))

pub returns : goal.returns
returns c = c.tokens.invariant _ c.tokens.tokens.items (end_gathered c.args.words c.args.text.now _ c.tokens.tokens.items (none_left c.args.style c.args.text.now c.args.end c.tokens.at c.tokens-test.false))
