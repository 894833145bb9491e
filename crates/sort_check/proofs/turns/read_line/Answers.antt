use Rattle.std.proofs.Common.{◌+◌, refl, rules, arith}
use Rattle.std.proofs.lemmas.Grind.{common_steps}
use Rattle.sort_check.specs.declared.fault.SortFault.TheVariants.{Line}
use Rattle.sort_check.specs.declared.progress.Progress.{Progress}
use Rattle.sort_check.proofs.Turning.{read_goes, read_fails}
use Rattle.sort_check.proofs.turns.read_line.Goals as goal

pub returns-in_ok-keep-in-Ok-clause-read : goal.returns-in_ok-keep-in-Ok-clause-read
returns-in_ok-keep-in-Ok-clause-read c typed items so =
    let p : Progress = c.args.progress.now in
    let next : Progress = record { signature = c.take_line.new.signature; typed = p.typed; names = p.names; conjectured = c.take_line.new.conjectured; number = p.number + 1; keeps = p.keeps; lines = c.keep.new.lines } in
    read_goes typed items c.args.item.now p next so refl c.in-Ok.found c.in-Ok.ensures.value refl c.in_ok-keep-in-Ok.ensures refl

pub returns-in-Err-Line-clause-read : goal.returns-in-Err-Line-clause-read
returns-in-Err-Line-clause-read c typed items so =
    let p : Progress = c.args.progress.now in
    let next : Progress = record { signature = c.take_line.new.signature; typed = p.typed; names = p.names; conjectured = c.take_line.new.conjectured; number = p.number; keeps = p.keeps; lines = p.lines } in
    read_fails typed items c.args.item.now p next so refl (Line c.in-Err-Line.rule c.in-Err-Line.place c.in-Err-Line.name)
    (first_of (search rules, grind (arith, common_steps)))
