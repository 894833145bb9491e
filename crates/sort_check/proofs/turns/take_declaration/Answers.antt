use Rattle.std.proofs.Common.{rules, arith}
use Rattle.std.proofs.lemmas.Grind.{common_steps}
use Rattle.sort_check.specs.declared.fault.SortFault.TheVariants.{Line}
use Rattle.sort_check.specs.declared.progress.Progress.{Progress}
use Rattle.sort_check.proofs.Turning.{declaration_goes, declaration_fails}
use Rattle.sort_check.proofs.turns.take_declaration.Goals as goal

pub returns-in-Ok-clause-typed : goal.returns-in-Ok-clause-typed
returns-in-Ok-clause-typed c =
    let p : Progress = c.args.progress.now in
    declaration_goes c.args.seen.now.items c.args.item.now p c.args.namesakes.now c.requires.stands c.requires.no_include (record p { signature = c.take_type.new.signature; names = c.take_type.new.names }) c.take_type.new.namesakes c.in-Ok.ensures.answers c.in-Ok.ensures.knows

pub returns-in-Err-Line-clause-typed : goal.returns-in-Err-Line-clause-typed
returns-in-Err-Line-clause-typed c =
    declaration_fails c.args.seen.now.items c.args.item.now c.args.progress.now c.args.namesakes.now c.requires.stands c.requires.no_include (Line c.in-Err-Line.rule c.in-Err-Line.place c.in-Err-Line.name)
    (first_of (search rules, grind (arith, common_steps)))
