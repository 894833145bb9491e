use Rattle.std.proofs.Common.{◌≡◌, take, map, flat_map}
use Rattle.clause_form.specs.Norm.{norm_of, members_of}
use Rattle.clause_form.proofs.normal.+norm_signed.Given as goal

abbrev pub invariant-norm_joined-loop-form : goal.invariant-norm_joined-loop-form
invariant-norm_joined-loop-form l = l.flat ≡ flat_map (members_of l.kind) (map (norm_of l.positive) (take l.form-index l.forms))
