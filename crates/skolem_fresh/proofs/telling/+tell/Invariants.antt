use Rattle.std.proofs.Common.{◌≡◌, ◌<◌, ◌^◌, ℕ}
use Rattle.std.proofs.Common.{List as Listed}
use Rattle.std.proofs.Common.{IfOk, Some, map, slice_get, ◌+◌, ◌-◌, ◌*◌, ◌≤◌, length}
use Rattle.fof_terms.specs.declared.form.Form.{Form as Formula}
use Rattle.fof_terms.specs.declared.form.Form.{Imp}
use Rattle.fof_terms.specs.declared.term.Term.{Var}
use Rattle.fof_terms.specs.Instance.{instance_at, instance_reach}
use Rattle.fof_terms.specs.Sorts.{Sorted}
use Rattle.fof_terms.specs.Vocabulary.{Vocabulary}
use Rattle.derive_kit.specs.Instances.{IsInstance}
use Rattle.kernel.specs.Proves.{Proves}
use Rattle.kernel.specs.Statements.{Statements}
use Rattle.skolem_fresh.specs.Uses.{value_of as value_in}
use Rattle.skolem_fresh.specs.code.Told.{IsOpenable, IsLed, IsTellable, IsShown}
use Rattle.skolem_fresh.proofs.telling.+tell.Given as goal

abbrev pub decreases-tell : goal.decreases-tell
decreases-tell l = goal.size-tell l
