use Rattle.std.proofs.Common.{ℕ, ◌<◌}
use Rattle.split_defs.specs.code.SplitSearch.{NoCoverAt}
use Rattle.clause_form.specs.Paths.{forms_of}
use Rattle.split_defs.proofs.covering.covered_among.Given as goal

abbrev pub invariant-loop-n : goal.invariant-loop-n
invariant-loop-n l = (a : ℕ) → a < l.n → NoCoverAt l.sig (forms_of l.parents) l.whole a
