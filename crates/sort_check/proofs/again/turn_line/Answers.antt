use Rattle.std.proofs.Common.{◌∷◌, [], ◌++◌, Option, Some, subst}
use Rattle.sort_check.specs.declared.fault.SortFault.{SortFault}
use Rattle.sort_check.specs.Stages.{IsRead}
use Rattle.sort_check.proofs.Turning.{ReadsOn, again_goes}
use Rattle.sort_check.proofs.again.turn_line.Goals as goal

pub returns-in-Some-clause-stands : goal.returns-in-Some-clause-stands
returns-in-Some-clause-stands c =
    let x = c.args.item.now in
    let q = c.read_line.new.progress in
    let reads : ReadsOn x c.args.progress.now q (Some c.in-Some.fault) = λ typed items so.
    subst (λ (o : Option SortFault). IsRead typed (items ++ x ∷ []) q o) c.in-Some.is (c.in_ok-fault.ensures.read typed items so) in
    again_goes c.args.whole.now.items c.args.seen.now.items x c.args.progress.now q (Some c.in-Some.fault) c.requires c.read_line.ensures.names reads
