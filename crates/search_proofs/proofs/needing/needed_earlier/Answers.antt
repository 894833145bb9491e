use Rattle.std.proofs.Common.{◌∙◌}
use Rattle.search_proofs.proofs.Sweeping.{last_below, needed_swept}
use Rattle.search_proofs.proofs.needing.needed_earlier.Goals as goal

pub mark-requires : goal.mark-requires
mark-requires c = last_below c.args.members.now c.args.last.now c.in_ok-marks.marks c.in_ok-marks.ensures c.requires.last

pub sweep-requires-clause-size : goal.sweep-requires-clause-size
sweep-requires-clause-size c = c.mark.ensures.count ∙ c.in_ok-marks.ensures.count

pub returns : goal.returns
returns c = needed_swept c.args.members.now c.args.last.now c.in_ok-marks.marks c.mark.new.marks c.sweep.new.marks c.in_ok-marks.ensures c.mark.ensures c.sweep.ensures
