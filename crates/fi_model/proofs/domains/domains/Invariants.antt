use Rattle.std.proofs.Common.{take}
use Rattle.fi_model.specs.Models.{domains}
use Rattle.fi_model.proofs.DomainFacts.{Holds}
use Rattle.fi_model.proofs.domains.domains.Given as goal

abbrev pub invariant-loop-sentence : goal.invariant-loop-sentence
invariant-loop-sentence l = Holds l.signature (domains (take l.sentence-index l.said)) l.slots
