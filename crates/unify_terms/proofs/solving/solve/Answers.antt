use Rattle.std.proofs.Common.{refl, subst, sym}
use Rattle.unify_terms.proofs.ChosenFacts.{chosen_pairs-Nothing}
use Rattle.unify_terms.specs.Unifiers.{AreSorted}
use Rattle.unify_terms.proofs.PendingFacts.{pending_sorted-Done, asked_pending-Done}
use Rattle.unify_terms.proofs.Searches.{solved_some, solved_none}
use Rattle.unify_terms.proofs.solving.solve.Goals as goal

pub meet-requires-clause-rest : goal.meet-requires-clause-rest
meet-requires-clause-rest c = pending_sorted-Done c.args.signature.now c.args.scope.now.sorts

pub returns-in_ok-choices-in-Some : goal.returns-in_ok-choices-in-Some
returns-in_ok-choices-in-Some c =
    let told = rw (c.in-Some.is, asked_pending-Done, chosen_pairs-Nothing) at c.in_ok-found.ensures in
    solved_some c.args.signature.now c.args.scope.now c.args.goal.now c.in-Some.found (record { subst = c.in-Some.found.subst; choices = c.in_ok-choices-in-Some.choices }) told refl c.in_ok-choices-in-Some.ensures

pub returns-in-None : goal.returns-in-None
returns-in-None c = solved_none c.args.signature.now c.args.scope.now c.args.goal.now (rw (c.in-None.is, asked_pending-Done, chosen_pairs-Nothing) at c.in_ok-found.ensures)

pub meet-requires-clause-sorted : goal.meet-requires-clause-sorted
meet-requires-clause-sorted c = subst (AreSorted c.args.signature.now c.args.scope.now.sorts) (sym chosen_pairs-Nothing) tt
