use Rattle.std.proofs.Common.{subst, sym, None}
use Rattle.unify_terms.specs.code.Chosen.{chosen_pairs}
use Rattle.unify_terms.proofs.PendingFacts.{asked_pending-Done}
use Rattle.unify_terms.specs.code.Searched.{Searched}
use Rattle.unify_terms.proofs.Searches.{searched_end, searched_none}
use Rattle.unify_terms.proofs.solving.ended.Goals as goal

pub returns-in-Some : goal.returns-in-Some
returns-in-Some c =
    let told = rw c.in-Some.is at c.in_ok-subst.ensures in
    rw asked_pending-Done (searched_end c.args.signature.now c.args.scope.now (chosen_pairs c.args.chosen.now) (record { subst = c.in-Some.subst; choices = c.new.result }) c.new.ensures told)

pub returns-in-None : goal.returns-in-None
returns-in-None c =
    let told = rw c.in-None.is at c.in_ok-subst.ensures in
    subst (λ w. Searched c.args.signature.now c.args.scope.now (chosen_pairs c.args.chosen.now) w None) (sym asked_pending-Done) (searched_none c.args.signature.now c.args.scope.now (chosen_pairs c.args.chosen.now) told)
