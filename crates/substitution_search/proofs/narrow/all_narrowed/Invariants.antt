use Rattle.std.proofs.Common.{take}
use Rattle.substitution_search.specs.code.Narrow.{AreNarrow}
use Rattle.clause_rules.specs.Ways.{cover_needs}
use Rattle.substitution_search.proofs.narrow.all_narrowed.Given as goal

abbrev pub invariant-loop-lit : goal.invariant-loop-lit
invariant-loop-lit l = AreNarrow (cover_needs l.targets (take l.lit-index l.lits)) l.goals
