use Rattle.std.proofs.Common.{◌+◌, ◌≤◌, sym, arith}
use Rattle.tptp_lexer.proofs.Stepping.{opens, begins_none, blanks_within, token_within, blanks_taken, token_taken}
use Rattle.tptp_lexer.proofs.lexer.step.Goals as goal

-- what was found lies before the end
blanks_fit : (c : goal.In-Blanks) → c.args.at + c.in-Blanks.len ≤ c.args.end
blanks_fit c = blanks_within c.args.style c.args.file c.args.text.now c.args.end c.args.at c.requires.before c.requires.within c.in-Blanks.len (sym c.in-Blanks.ensures)

token_fits : (c : goal.In-Token) → c.args.at + c.in-Token.len ≤ c.args.end
token_fits c = token_within c.args.style c.args.file c.args.text.now c.args.end c.args.at c.requires.before c.requires.within _ c.in-Token.len (sym c.in-Token.ensures)

pub overflow_add-result : goal.overflow_add-result
overflow_add-result c = let fits = blanks_fit c in grind (arith, fits)

pub overflow_add-result-in-Token : goal.overflow_add-result-in-Token
overflow_add-result-in-Token c = let fits = token_fits c in grind (arith, fits)

pub returns-in-Blanks : goal.returns-in-Blanks
returns-in-Blanks c = blanks_taken c.args.style c.args.file c.args.text.now c.args.end c.args.at c.requires.before c.requires.within c.in-Blanks.len (sym c.in-Blanks.ensures)

pub returns-in-Token : goal.returns-in-Token
returns-in-Token c = token_taken c.args.style c.args.file c.args.text.now c.args.end c.args.at c.requires.before c.requires.within _ c.in-Token.len (sym c.in-Token.ensures)

pub returns-in-Open : goal.returns-in-Open
returns-in-Open c = (c.place_at.ensures, opens c.args.style c.args.file c.args.text.now c.args.end c.args.at c.requires.before c.requires.within (sym c.in-Open.ensures))

pub returns-in-Nothing : goal.returns-in-Nothing
returns-in-Nothing c = (c.place_at-in-Nothing.ensures, begins_none c.args.style c.args.file c.args.text.now c.args.end c.args.at c.requires.before c.requires.within (sym c.in-Nothing.ensures))
