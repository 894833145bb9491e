use Rattle.std.proofs.Common.{take}
use Rattle.clause_rules.specs.RewriteRule.{AreLitsRewritten}
use Rattle.clause_rules.proofs.replacing.replace_in_lits.Given as goal

abbrev pub invariant-loop-lit : goal.invariant-loop-lit
invariant-loop-lit l = AreLitsRewritten l.target l.new (take l.lit-index l.lits) l.made
