use Rattle.std.proofs.Common.{◌≡◌, drop}
use Rattle.proof_log.specs.code.ReadWords as spec
use Rattle.proof_log.proofs.words.find_among.Given as goal

abbrev pub invariant-loop-name : goal.invariant-loop-name
invariant-loop-name g l = spec.find g.N.Spelled.spell l.some l.text ≡ spec.find g.N.Spelled.spell (drop l.name-index l.some) l.text
