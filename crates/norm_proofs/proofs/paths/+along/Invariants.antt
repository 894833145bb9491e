use Rattle.norm_proofs.proofs.RoutesFacts.{ArmsUpTo}
use Rattle.norm_proofs.proofs.paths.+along.Given as goal

abbrev pub invariant-arms-loop-number : goal.invariant-arms-loop-number
invariant-arms-loop-number l = ArmsUpTo l.whole l.forms l.clauses l.before l.start l.number l.made
