use Rattle.std.proofs.Common.{true}
use Rattle.flat_form.specs.Flat.{flat_of}
use Rattle.clause_form.specs.Norm.{norm_of}
use Rattle.flat_form.proofs.FlatLaws.{flattened_own}
use Rattle.flat_form.proofs.OwnNorms.{own_fixed, norm_own}
use Rattle.flat_form.proofs.laws.flat_is_normal.Goals as goal

pub returns : goal.returns
returns c = λ a. own_fixed (flat_of a) (flattened_own (norm_of true a) (norm_own a true))
