use Rattle.fof_terms.specs.Scope.{scope_sorts}
use Rattle.fof_terms.proofs.ScopeFacts.{scope_sorts-Outside}
use Rattle.skolem_fresh.specs.Choosing.{IsWithin}
use Rattle.skolem_fresh.specs.code.Choosing.{IsChosenUnder}
use Rattle.skolem_fresh.proofs.Chosen.{within_start, start_within, start_none, start_some}
use Rattle.skolem_fresh.proofs.choice.choice_step.Goals as goal

pub chosen_under-requires : goal.chosen_under-requires
chosen_under-requires c = start_within c.args.theory.now.vocabulary c.args.line.now _ (scope_sorts-Outside _) c.requires

pub returns-in-Some : goal.returns-in-Some
returns-in-Some c = start_some c.args.theory.now c.args.line.now _ c.in_ok-uses.field-0 c.in-Some.uses (scope_sorts-Outside _) c.in-Some.is c.in_ok-uses.ensures

pub returns-in-None : goal.returns-in-None
returns-in-None c = start_none c.args.theory.now c.args.line.now _ c.in_ok-uses.field-0 (scope_sorts-Outside _) c.in-None.is c.in_ok-uses.ensures
