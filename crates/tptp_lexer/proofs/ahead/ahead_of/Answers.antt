use Rattle.std.proofs.Common.{◌+◌, ◌≤◌, ◌∙◌, sym, arith}
use Rattle.tptp_lexer.proofs.Stepping.{blanks_within, token_within, blanks_scanned, token_scanned, open_scanned, nothing_scanned, none_left, blanks_taken}
use Rattle.tptp_lexer.proofs.ahead.ahead_of.Goals as goal

-- what was found lies before the end
blanks_fit : (c : goal.In-Blanks) → c.blanks.at + c.in-Blanks.len ≤ c.args.end
blanks_fit c = blanks_within c.args.style 0 c.args.text.now c.args.end c.blanks.at c.blanks-test.true c.requires c.in-Blanks.len (sym c.in-Blanks.ensures)

token_fits : (c : goal.In-Token) → c.blanks.at + c.in-Token.len ≤ c.args.end
token_fits c = token_within c.args.style 0 c.args.text.now c.args.end c.blanks.at c.blanks-test.true c.requires c.in-Token.kind c.in-Token.len (sym c.in-Token.ensures)

pub overflow_add-at : goal.overflow_add-at
overflow_add-at c = let fits = blanks_fit c in grind (arith, fits)

pub overflow_add-result : goal.overflow_add-result
overflow_add-result c = let fits = token_fits c in grind (arith, fits)

pub blanks-smaller : goal.blanks-smaller
blanks-smaller c =
    let takes = blanks_taken c.args.style 0 c.args.text.now c.args.end c.blanks.at c.blanks-test.true c.requires c.in-Blanks.len (sym c.in-Blanks.ensures) in
    let moves = takes.moves in let within = takes.within in omega (arith, moves, within)

pub blanks-preserved : goal.blanks-preserved
blanks-preserved c = c.blanks.invariant ∙ blanks_scanned c.args.style 0 c.args.text.now c.args.end c.blanks.at c.blanks-test.true c.requires c.in-Blanks.len (sym c.in-Blanks.ensures)

pub returns-in-Token : goal.returns-in-Token
returns-in-Token c = c.blanks.invariant ∙ token_scanned c.args.style 0 c.args.text.now c.args.end c.blanks.at c.blanks-test.true c.requires c.in-Token.kind c.in-Token.len (sym c.in-Token.ensures)

pub returns-in-Open : goal.returns-in-Open
returns-in-Open c = c.blanks.invariant ∙ open_scanned c.args.style 0 c.args.text.now c.args.end c.blanks.at c.blanks-test.true c.requires (sym c.in-Open.ensures)

pub returns-in-Nothing : goal.returns-in-Nothing
returns-in-Nothing c = c.blanks.invariant ∙ nothing_scanned c.args.style 0 c.args.text.now c.args.end c.blanks.at c.blanks-test.true c.requires (sym c.in-Nothing.ensures)

pub returns : goal.returns
returns c = c.blanks.invariant ∙ none_left c.args.style c.args.text.now c.args.end c.blanks.at c.blanks-test.false
