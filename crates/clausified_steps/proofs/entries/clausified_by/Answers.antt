use Rattle.clausified_steps.proofs.Among.{is_among}
use Rattle.clausified_steps.proofs.entries.clausified_by.Goals as goal

pub derived_by-requires-clause-there : goal.derived_by-requires-clause-there
derived_by-requires-clause-there c = is_among c.args.parents.now c.args.number c.index-parents-number.result c.requires.number c.index-parents-number.is
