use Rattle.std.proofs.Common.{◌<◌, length, All}
use Rattle.sort_check.specs.Symbols.{named_sort}
use Rattle.sort_check.proofs.Loops.{Turns}
use Rattle.sort_check.proofs.declarations.named_sorts.Given as goal

abbrev pub invariant-loop-name : goal.invariant-loop-name
invariant-loop-name l = record {
  turns : Turns (λ place. named_sort) l.names l.signature l.found l.name-index l.signature;
  known : All (λ s. s < length l.signature.sorts) l.found;
}
