use Rattle.std.proofs.Common.{sym, arith}
use Rattle.tptp_base.proofs.Lines.{behind_last, no_last}
use Rattle.tptp_base.proofs.place.behind_line_feed.Goals as goal

pub returns-in-Some-clause-value : goal.returns-in-Some-clause-value
returns-in-Some-clause-value c = omega (arith, behind_last c.args.text.now c.in-Some.at c.in-Some.ensures)

pub returns-in-None-clause-value : goal.returns-in-None-clause-value
returns-in-None-clause-value c = sym (no_last c.args.text.now c.in-None.ensures)
