-- An answer that is determined, where want of memory may stand in for it.
use Rattle.std.specs.Prelude.{◌≡◌, ◌⊎◌, Result, Ok, Err, MatchResult}
use Rattle.tstp_graph.specs.declared.fault.GraphFault.{GraphFault}
use Rattle.tstp_graph.specs.declared.fault.GraphFault.TheVariants.{Memory}

-- the answer is the expected one, or want of memory
abbrev pub Yields : {T : Type 0} → Result T GraphFault → Result T GraphFault → Type 0
Yields expected answer = MatchResult answer (λ value. expected ≡ Ok value) (λ fault. (fault ≡ Memory) ⊎ (expected ≡ Err fault))
