use Rattle.std.proofs.Common.{false}
use Rattle.clause_form.proofs.NormFacts.{norm_of-Atom, norm_of-Eq}
use Rattle.norm_proofs.proofs.normal.is_plain.Goals as goal

pub returns-in-Atom : goal.returns-in-Atom
returns-in-Atom c = λ yes. rw c.in-Atom.is (norm_of-Atom false c.in-Atom.field-0 c.in-Atom.field-1)

pub returns-in-Eq : goal.returns-in-Eq
returns-in-Eq c = λ yes. rw c.in-Eq.is (norm_of-Eq false c.in-Eq.field-0 c.in-Eq.field-1)
