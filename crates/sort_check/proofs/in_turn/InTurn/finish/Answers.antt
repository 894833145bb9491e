use Rattle.std.proofs.Common.{Ok, subst}
use Rattle.sort_check.specs.Turns.{Taken, AreDenoted}
use Rattle.sort_check.proofs.Turning.{types_denote}
use Rattle.sort_check.proofs.in_turn.InTurn.finish.Goals as goal

pub returns-in-Types-clause-denoted : goal.returns-in-Types-clause-denoted
returns-in-Types-clause-denoted c =
    let inside = c.self.inside in
    subst (λ (taken : Taken). AreDenoted taken (Ok (record { lines = inside.progress.lines; signature = inside.progress.signature }))) c.self.view_is
    (types_denote inside.seen.items inside.progress c.in-Types.field-0 (rw c.in-Types.is at c.self.invariant))
