use Rattle.std.proofs.Common.{◌∙◌}
use Rattle.split_defs.proofs.Headings.{over_speaks, over_same, have_names}
use Rattle.split_defs.proofs.defining.over_arguments.Goals as goal

pub rename-requires-clause-among : goal.rename-requires-clause-among
rename-requires-clause-among c = over_speaks c.args.args.now c.in_ok-names.field-0 c.in-Some.names c.in_ok-names.ensures c.in-Some.is c.requires.0 c.requires.1 c.args.meaning.now c.requires.2 c.requires.3

pub returns : goal.returns
returns c =
    over_same c.args.args.now c.in_ok-names.field-0 c.in-Some.names c.in_ok-names.ensures c.in-Some.is c.args.meaning.now c.in_ok-new-in-Some.field-0 (c.in_ok-new-in-Some.ensures ∙ c.in_ok-rename-in-Some.ensures)

pub unreachable-requires : goal.unreachable-requires
unreachable-requires c = have_names c.args.args.now c.in_ok-names.field-0 c.in_ok-names.ensures c.in-None.is c.requires.1 c.requires.2 c.requires.3.distinct
