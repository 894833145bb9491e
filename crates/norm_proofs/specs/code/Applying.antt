-- Implications of a formula by itself. Where such a one would be used, it is left out.
use Rattle.std.specs.Prelude.{◌==◌, Bool, false, if◌then◌else◌}
use Rattle.kernel.specs.declared.proof.Proof.{Proof, ImpE}
use Rattle.kernel.specs.declared.proof.Proof.TheViews.{out-Proof}
use Rattle.kernel.specs.declared.proof.Proof.TheOpen as proof

abbrev pub is_first_in : proof.Proof-F Proof → Bool
is_first_in (proof.Hyp k) = k == 0
is_first_in layer = false

-- hypothesis 0
unfoldable pub is_first : Proof → Bool
is_first p = is_first_in (out-Proof p)

abbrev pub is_itself_in : proof.Proof-F Proof → Bool
is_itself_in (proof.ImpI a p) = is_first p
is_itself_in layer = false

-- the implication of a formula by itself
unfoldable pub is_itself : Proof → Bool
is_itself p = is_itself_in (out-Proof p)

-- what an implication says of what a proof shows
unfoldable pub applied : Proof → Proof → Proof
applied p q = if is_itself p then q else ImpE p q
