use Rattle.std.proofs.Common.{take}
use Rattle.clause_rules.specs.RewriteRule.{AreRewritten}
use Rattle.clause_rules.proofs.replacing.+replace_in_term.Given as goal

abbrev pub invariant-replace_in_terms-loop-term : goal.invariant-replace_in_terms-loop-term
invariant-replace_in_terms-loop-term l = AreRewritten l.target l.new (take l.term-index l.terms) l.made
