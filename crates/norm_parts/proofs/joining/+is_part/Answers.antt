use Rattle.norm_parts.proofs.PartsFacts.{only_part}
use Rattle.norm_parts.proofs.Gathered.{part_all}
use Rattle.norm_parts.proofs.joining.+is_part.Goals as goal

pub returns-in-All : goal.returns-in-All
returns-in-All t c = λ yes. part_all c.args.form.now c.in-All.field-0 c.in-All.body c.get.result.now c.in-All.is c.get.ensures (c.is_part.ensures yes)

pub returns-in-Atom : goal.returns-in-Atom
returns-in-Atom t c = λ yes. only_part c.args.form.now c.in-Atom.is

pub returns-in-Atom-2 : goal.returns-in-Atom-2
returns-in-Atom-2 t c = λ yes. only_part c.args.form.now c.in-Atom.is

pub returns-in-Atom-3 : goal.returns-in-Atom-3
returns-in-Atom-3 t c = λ yes. only_part c.args.form.now c.in-Atom.is

pub returns-in-Atom-4 : goal.returns-in-Atom-4
returns-in-Atom-4 t c = λ yes. only_part c.args.form.now c.in-Atom.is

pub returns-in-Atom-5 : goal.returns-in-Atom-5
returns-in-Atom-5 t c = λ yes. only_part c.args.form.now c.in-Atom.is

pub returns-in-Atom-6 : goal.returns-in-Atom-6
returns-in-Atom-6 t c = λ yes. only_part c.args.form.now c.in-Atom.is

pub returns-in-Atom-7 : goal.returns-in-Atom-7
returns-in-Atom-7 t c = λ yes. only_part c.args.form.now c.in-Atom.is
