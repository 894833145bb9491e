use Rattle.std.proofs.Common.{◌≡◌}
use Rattle.printed_clauses.specs.Prefixes.{prefix_of}
use Rattle.printed_clauses.proofs.prefixes.free_prefix.Given as goal

abbrev pub invariant-loop : goal.invariant-loop
invariant-loop l = l.prefix ≡ prefix_of l.counter
