use Rattle.std.proofs.Common.{◌≡◌, take, map}
use Rattle.clause_form.specs.Covers.{lit_apart}
use Rattle.clause_rules.proofs.keeping_apart.apart.Given as goal

abbrev pub invariant-loop-lit : goal.invariant-loop-lit
invariant-loop-lit l = l.moved ≡ map (lit_apart l.by) (take l.lit-index l.lits)
