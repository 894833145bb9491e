use Rattle.std.proofs.Common.{◌≡◌, ◌+◌, drop}
use Rattle.std.specs.List.{prefix_len}
use Rattle.printed_clauses.specs.code.Underscores.{is_underscore}
use Rattle.printed_clauses.proofs.prefixes.leading_underscores.Given as goal

abbrev pub invariant-loop-byte : goal.invariant-loop-byte
invariant-loop-byte l = record {
  told : l.count + prefix_len is_underscore (drop l.byte-index l.name) ≡ prefix_len is_underscore l.name;
  few : l.count ≡ l.byte-index;
}
