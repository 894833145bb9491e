use Rattle.std.proofs.Common.{refl}
use Rattle.clause_learning.proofs.Marking.{clearing_more, cleared}
use Rattle.clause_learning.proofs.marks.Marks.clear.Goals as goal

pub atoms-init : goal.atoms-init
atoms-init c = record { many = refl; listed = c.requires }

pub atoms-preserved : goal.atoms-preserved
atoms-preserved c =
    clearing_more c.args.self.now c.atoms.self (record { marks = c.atoms.self.marks; touched = c.pop.new.self }) c.unmark.new.self c.in-Some.atom c.atoms.invariant refl c.in-Some.ensures c.unmark.ensures

pub returns : goal.returns
returns c = cleared c.args.self.now c.atoms.self (record { marks = c.atoms.self.marks; touched = c.pop.new.self }) c.atoms.invariant c.in_default.ensures.0 refl
