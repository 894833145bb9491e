use Rattle.std.proofs.Common.{refl}
use Rattle.include_resolve.proofs.Sets.{word_added, integer_added}
use Rattle.include_resolve.proofs.name_set.NameSet.add.Goals as goal

pub returns-in-Word-clause-ok : goal.returns-in-Word-clause-ok
returns-in-Word-clause-ok c =
    word_added c.args.self.now (record c.args.self.now { words = c.insert.new.known }) c.in-Word.text c.args.name.now c.in-Word.is refl c.insert.result (rw c.as_slice.ensures at c.insert.ensures.ok)

pub returns-in-Integer-clause-ok : goal.returns-in-Integer-clause-ok
returns-in-Integer-clause-ok c =
    integer_added c.args.self.now (record c.args.self.now { integers = c.insert-in-Integer.new.known }) c.in-Integer.text c.args.name.now c.in-Integer.is refl c.insert-in-Integer.result
    (rw c.as_slice-in-Integer.ensures at c.insert-in-Integer.ensures.ok)
