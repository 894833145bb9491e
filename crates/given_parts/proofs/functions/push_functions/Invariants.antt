use Rattle.std.proofs.Common.{◌≡◌, drop}
use Rattle.given_parts.proofs.PartFacts.{with_left}
use Rattle.given_parts.proofs.functions.push_functions.Given as goal

abbrev pub invariant-loop-existential : goal.invariant-loop-existential
invariant-loop-existential l = with_left l.prefix l.functions (drop l.existential-index l.existentials) ≡ with_left l.prefix l.fn.functions l.existentials
