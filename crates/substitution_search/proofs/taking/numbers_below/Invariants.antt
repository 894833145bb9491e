use Rattle.std.proofs.Common.{◌≡◌}
use Rattle.substitution_search.specs.CoverSearch.{near, down}
use Rattle.substitution_search.proofs.taking.numbers_below.Given as goal

abbrev pub invariant-loop-i : goal.invariant-loop-i
invariant-loop-i l = near l.numbers ≡ down 0 l.i
