use Rattle.std.proofs.Common.{◌≡◌, map, take}
use Rattle.chain_proofs.specs.Facts.{denied_form}
use Rattle.chain_proofs.proofs.fact.all_false.Given as goal

abbrev pub invariant-loop-lit : goal.invariant-loop-lit
invariant-loop-lit l = l.forms ≡ map denied_form (take l.lit-index l.lits)
