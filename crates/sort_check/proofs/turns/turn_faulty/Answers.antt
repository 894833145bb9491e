use Rattle.std.proofs.Common.{◌≡◌, false, rules, arith}
use Rattle.std.proofs.lemmas.Grind.{common_steps}
use Rattle.sort_check.specs.code.Turns.{is_type_item}
use Rattle.sort_check.proofs.Turning.{faulty_stays}
use Rattle.sort_check.proofs.turns.turn_faulty.Goals as goal

pub returns-else-is_type_line-clause-stands : goal.returns-else-is_type_line-clause-stands
returns-else-is_type_line-clause-stands c =
    let x = c.args.item.now in
    let not_so : is_type_item x ≡ false = first_of (search rules, grind (arith, common_steps)) in
    faulty_stays c.args.seen.now.items x c.args.progress.now c.args.fault c.requires.stands not_so c.requires.no_include
