use Rattle.fof_terms.specs.Scope.{scope_sorts}
use Rattle.derive_kit.proofs.Built.{ok_map}
use Rattle.clause_proofs.proofs.TurnedSides.{positive_shows, negative_shows, started_shows, unsided_shows, atom_sorted, yes, without_sides, same_back, same_atoms_of}
use Rattle.clause_proofs.proofs.turning.lit_by.Goals as goal

pub denial_by-requires-clause-sorted : goal.denial_by-requires-clause-sorted
denial_by-requires-clause-sorted c = atom_sorted c.args.signature.now (scope_sorts c.args.scope.now) c.args.to.now c.requires.to

pub denial_by-requires-clause-from : goal.denial_by-requires-clause-from
denial_by-requires-clause-from c = atom_sorted c.args.signature.now (scope_sorts c.args.scope.now) c.args.from.now c.requires.sorted

pub returns-then-begins_with : goal.returns-then-begins_with
returns-then-begins_with c =
    ok_map c.hyp.result
    (λ made e. started_shows c.args.signature.now (scope_sorts c.args.scope.now) c.args.number c.args.from.now c.args.to.now c.in-Eq.left c.in-Eq.field-1 made c.in-Eq.is c.requires.same (yes _ c.if-begins_with.true c.begins_with.ensures) c.requires.sorted e)
    c.hyp.ensures

pub returns-in-Pred : goal.returns-in-Pred
returns-in-Pred c = ok_map c.hyp-in-Pred.result (λ made e. unsided_shows c.args.signature.now (scope_sorts c.args.scope.now) c.args.number c.args.from.now c.args.to.now made (without_sides c.args.signature.now (scope_sorts c.args.scope.now) c.args.from.now.atom c.in-Pred.is) c.requires.same c.requires.sorted e) c.hyp-in-Pred.ensures
