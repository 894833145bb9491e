use Rattle.std.proofs.Common.{◌≡◌, drop}
use Rattle.verifier.specs.Lines.{parents_of}
use Rattle.clause_form.specs.Paths.{forms_of}
use Rattle.verifier.proofs.Collecting.{before}
use Rattle.verifier.proofs.parents.parents_of.Given as goal

abbrev pub invariant-loop-parent : goal.invariant-loop-parent
invariant-loop-parent l = before l.parents (parents_of (forms_of l.given) l.forms l.numbers (drop l.parent-index l.refs)) ≡ parents_of (forms_of l.given) l.forms l.numbers l.refs
