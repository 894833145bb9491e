use Rattle.fof_terms.specs.Scope.{scope_sorts}
use Rattle.derive_kit.proofs.Built.{ok_map}
use Rattle.clause_proofs.proofs.TurnedSides.{denial_shows}
use Rattle.clause_proofs.proofs.turning.denial_by.Goals as goal

pub returns : goal.returns
returns c =
    ok_map c.not_i.result
    (λ made e. rw e (rw (c.in_ok-form_of_atom.ensures, c.in_ok-none.ensures, c.in_ok-hyp.ensures)
    (denial_shows c.args.signature.now (scope_sorts c.args.scope.now) c.args.number c.args.from.now c.args.to.now c.in_ok-own.own c.requires.from c.requires.sorted c.in_ok-own.ensures)))
    c.not_i.ensures
