use Rattle.std.proofs.Common.{sym, ◌∙◌}
use Rattle.szs_report.specs.Marks.{fits}
use Rattle.szs_report.proofs.Cuts.{found_none, sought_next}
use Rattle.szs_report.proofs.line.bytes_before.Goals as goal

pub lines-preserved : goal.lines-preserved
lines-preserved c =
    sought_next (fits c.args.kind) c.args.text.now c.lines.before c.line_len-len.result c.lines-test.true c.line_len-len.ensures.cut c.line_len-len.ensures.within (sym c.fits.ensures ∙ c.if-fits.false) c.lines.invariant

pub returns-clause-value : goal.returns-clause-value
returns-clause-value c = (found_none (fits c.args.kind) c.args.text.now c.lines.before c.lines-test.false c.lines.invariant).value

pub returns-clause-rest : goal.returns-clause-rest
returns-clause-rest c = (found_none (fits c.args.kind) c.args.text.now c.lines.before c.lines-test.false c.lines.invariant).rest
