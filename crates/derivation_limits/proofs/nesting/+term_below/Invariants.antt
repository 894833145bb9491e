use Rattle.std.proofs.Common.{◌<◌, take, map}
use Rattle.fof_terms.specs.Lift.{greatest}
use Rattle.derivation_limits.specs.Nesting.{term_nesting}
use Rattle.derivation_limits.proofs.nesting.+term_below.Given as goal

abbrev pub invariant-args_below-loop-term : goal.invariant-args_below-loop-term
invariant-args_below-loop-term l = greatest (map term_nesting (take l.term-index l.args)) < l.inside
