use Rattle.std.proofs.Common.{◌≡◌, take, map}
use Rattle.clause_form.specs.declared.path.Parent.{Parent}
use Rattle.elaborate.proofs.searching.numbers.Given as goal

abbrev pub invariant-loop-parent : goal.invariant-loop-parent
invariant-loop-parent l = l.cites ≡ map (λ (p : Parent). p.number) (take l.parent-index l.parents)
