use Rattle.std.proofs.Common.{refl}
use Rattle.sort_check.specs.declared.progress.Progress.{Progress}
use Rattle.sort_check.proofs.Turning.{late_begins}
use Rattle.sort_check.proofs.turns.begin_late.Goals as goal

pub take_late-requires-clause-stands : goal.take_late-requires-clause-stands
take_late-requires-clause-stands c =
    let p : Progress = c.args.progress.now in
    let q : Progress = record p { signature = c.in_ok-progress.field-0; lines = c.new.result } in
    late_begins c.args.seen.now.items p c.requires.stands q c.in_ok-namesakes.namesakes c.in_ok-progress.ensures refl c.in_ok-namesakes.ensures
