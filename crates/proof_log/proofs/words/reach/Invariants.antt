use Rattle.std.proofs.Common.{◌≡◌, drop, max}
use Rattle.proof_log.specs.code.ReadWords as spec
use Rattle.proof_log.proofs.words.reach.Given as goal

abbrev pub invariant-loop-name : goal.invariant-loop-name
invariant-loop-name g l = spec.reach g.N.Spelled.spell g.N.Spelled.names l.text ≡ max l.most (spec.reach g.N.Spelled.spell (drop l.name-index g.N.Spelled.names) l.text)
