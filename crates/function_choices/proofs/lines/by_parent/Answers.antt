use Rattle.function_choices.proofs.lines.by_parent.Goals as goal

pub choice_by-requires : goal.choice_by-requires
choice_by-requires c = c.requires.ready c.args.number c.index-parents-number.result c.requires.number
