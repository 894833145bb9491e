-- Literals that are known to be false, and what they are found by.
use Rattle.std.specs.Prelude.{ℕ, ◌≡◌, ◌++◌, ◌∷◌, [], List, map, if◌then◌else◌}
use Rattle.clause_form.specs.declared.clause.Lit.{Lit}
use Rattle.chain_proofs.specs.declared.known.Known.{Known}
use Rattle.sat_step.specs.Codes.{code_of}

-- what its atom is found by, and the sign
abbrev pub lit_code : Lit → List ℕ
lit_code l = code_of l.atom ++ (if l.positive then 1 else 0) ∷ []

-- the literals are found by their codes
abbrev pub AreKept : Known → Type 0
AreKept known = map (λ k. k.items) known.keys.keys ≡ map lit_code known.lits
