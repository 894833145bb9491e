-- A part under steps.
use Rattle.std.specs.Prelude.{List, [], ◌∷◌}
use Rattle.kernel.specs.declared.proof.Proof.{Proof, ImpE, ImpI}
use Rattle.chain_proofs.specs.declared.stretching.Step.{Step}

-- what the part shows under all steps, by the steps
abbrev pub wrapped : List Step → Proof → Proof
wrapped [] p = p
wrapped (s ∷ steps) p = ImpE (ImpI s.fact (wrapped steps p)) s.part
