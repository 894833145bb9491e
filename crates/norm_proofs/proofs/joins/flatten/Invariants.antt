use Rattle.std.proofs.Common.{◌≡◌, take, flat_map}
use Rattle.clause_form.specs.Norm.{members_of}
use Rattle.norm_proofs.proofs.joins.flatten.Given as goal

abbrev pub invariant-loop-form : goal.invariant-loop-form
invariant-loop-form l = l.flat ≡ flat_map (members_of l.kind) (take l.form-index l.whole)
