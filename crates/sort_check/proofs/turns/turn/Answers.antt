use Rattle.std.proofs.Common.{rules, arith}
use Rattle.std.proofs.lemmas.Grind.{common_steps}
use Rattle.sort_check.proofs.Turning.{mistyped_stays}
use Rattle.sort_check.proofs.turns.turn.Goals as goal

pub returns-in-Mistyped-clause-stands : goal.returns-in-Mistyped-clause-stands
returns-in-Mistyped-clause-stands c =
    mistyped_stays c.args.seen.now.items c.args.item.now c.in-Mistyped.fault (rw c.in-Mistyped.is at c.requires) (first_of (search rules, grind (arith, common_steps)))
