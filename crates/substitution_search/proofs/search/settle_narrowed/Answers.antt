use Rattle.clause_rules.specs.Ways.{cover_needs}
use Rattle.clause_rules.proofs.Firsts.{ok_map}
use Rattle.substitution_search.proofs.Narrowing.{narrow_sorted, narrow_solved}
use Rattle.substitution_search.proofs.search.settle_narrowed.Goals as goal

pub settle-requires-clause-sorted : goal.settle-requires-clause-sorted
settle-requires-clause-sorted c = narrow_sorted c.args.sig.now c.args.scope.now.sorts (cover_needs c.args.targets.now c.args.lits.now) c.in-Some.goals (rw c.in-Some.is at c.in_ok-goals.ensures) c.requires.sorted

pub returns-in-Some : goal.returns-in-Some
returns-in-Some c = ok_map c.settle.result (narrow_solved c.args.sig.now c.args.scope.now (cover_needs c.args.targets.now c.args.lits.now) c.in-Some.goals (rw c.in-Some.is at c.in_ok-goals.ensures)) c.settle.ensures
