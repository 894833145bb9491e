-- What is kept beside members.
use Rattle.std.specs.Prelude.{ℕ, List, ◌≡◌, Some, slice_get, length}
use Rattle.clause_form.specs.declared.clause.Clause.{Clause}
use Rattle.saturation.specs.declared.known.Known.{Known}
use Rattle.subsumption.specs.Mask.{mask}
use Rattle.superpose.specs.Used.{AreUsed}

pub record IsKnown (c : Clause) (k : Known) : Type 0 where
  pub masked : k.mask ≡ mask c.lits
  pub used : AreUsed c.lits k.used

-- the same of each clause of the list
pub record AreKnown (list : List Clause) (known : List Known) : Type 0 where
  pub many : length known ≡ length list
  pub each : (i : ℕ) (c : Clause) (k : Known) → slice_get list i ≡ Some c → slice_get known i ≡ Some k → IsKnown c k
