use Rattle.fof_terms.specs.Scope.{scope_sorts}
use Rattle.fof_terms.proofs.Scoped.{sorted_of_eq}
use Rattle.clause_proofs.proofs.TurnedSides.{side_reach}
use Rattle.clause_proofs.proofs.turning.turned.Goals as goal

pub known_sort-sort-requires : goal.known_sort-sort-requires
known_sort-sort-requires c = let sides = sorted_of_eq c.args.signature.now (scope_sorts c.args.scope.now) 2147483647 c.args.left.now c.args.right.now c.requires in (c.requires.scope_fits, sides.0, sides.1)

pub lift_term-requires : goal.lift_term-requires
lift_term-requires c = side_reach c.args.signature.now (scope_sorts c.args.scope.now) c.args.left.now c.args.right.now c.requires
