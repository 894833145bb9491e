-- A closed clause over the variables of others: its instance at its own variables among them.
use Rattle.std.specs.Prelude.{ℕ, zero, suc, ◌+◌, ◌-◌, List, [], ◌∷◌}
use Rattle.fof_terms.specs.declared.term.Term.{Var}
use Rattle.kernel.specs.declared.proof.Proof.{Proof, AllI, AllE}

-- All of the sorts over what the part shows, the first outermost
abbrev pub general : List ℕ → Proof → Proof
general [] p = p
general (s ∷ sorts) p = AllI s (general sorts p)

-- the instance at n variables from number e on, the outermost first
abbrev pub near : ℕ → ℕ → Proof → Proof
near e zero p = p
near e (suc n) p = near e n (AllE (Var (e + n)) p)
