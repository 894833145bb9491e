-- Members of conjunctions under universal quantifiers.
use Rattle.std.specs.Prelude.{ℕ, List, length}
use Rattle.kernel.specs.declared.proof.Proof.{Proof, AndE}
use Rattle.norm_proofs.specs.Numbering.{general, near}

-- for all of the sorts the member of that number of what the part says of all
abbrev pub picked_tree : List ℕ → ℕ → Proof → Proof
picked_tree sorts k p = general sorts (AndE k (near 0 (length sorts) p))
