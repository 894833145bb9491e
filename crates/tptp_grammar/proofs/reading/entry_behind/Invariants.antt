use Rattle.std.proofs.Common.{◌≡◌, length}
use Rattle.tptp_grammar.specs.code.Dots as dots
use Rattle.tptp_grammar.proofs.reading.entry_behind.Given as goal

abbrev pub invariant-tokens : goal.invariant-tokens
invariant-tokens l = dots.entry_behind l.left l.rest ≡ dots.entry_behind l.initial.count l.initial.rest

abbrev pub decreases-tokens : goal.decreases-tokens
decreases-tokens l = length l.rest
