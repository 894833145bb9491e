use Rattle.std.proofs.Common.{arith, ap, sym, subst, ◌∙◌, length}
use Rattle.clause_form.specs.Found.{IsRoomy}
use Rattle.clause_form.proofs.SizeLaws.{depth_within_size}
use Rattle.step_clauses.proofs.RoomyFacts.{roomy}
use Rattle.step_clauses.proofs.clausal.push_clausal.Goals as goal

pub skolems_of-requires : goal.skolems_of-requires
skolems_of-requires c =
    let same = ap length (c.as_slice.ensures ∙ c.in_ok-found.ensures) in
    omega (arith, same, c.requires.numbers)

pub skolemize-requires-clause-numbers : goal.skolemize-requires-clause-numbers
skolemize-requires-clause-numbers c = omega (arith, c.requires.numbers)

pub skolemize-requires-clause-depth : goal.skolemize-requires-clause-depth
skolemize-requires-clause-depth c = let deep = depth_within_size c.args.norm.now in omega (arith, deep, c.requires.small)

pub push_clauses-requires : goal.push_clauses-requires
push_clauses-requires c = subst (λ a. IsRoomy a) (sym c.in_ok-skolemized.ensures) (roomy c.args.next c.args.norm.now c.requires)
