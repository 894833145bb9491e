use Rattle.sort_check.proofs.LineSizing.{text_fits}
use Rattle.sort_check.proofs.law.lines_are_no_larger.Goals as goal

pub returns : goal.returns
returns c = text_fits
