use Rattle.std.proofs.Common.{length}
use Rattle.clause_learning.specs.declared.examining.Finding.TheVariants.{Unit as Forced}
use Rattle.clause_learning.specs.code.Trails.{clauses_of}
use Rattle.clause_learning.specs.code.States.{IsFoundAt}
use Rattle.clause_learning.proofs.Stating.{propagated_none, propagated_more, unit_within}
use Rattle.clause_learning.proofs.propagation.conclude.Goals as goal

pub push-requires : goal.push-requires
push-requires c =
    let clauses = clauses_of c.args.clauses.now in
    let found : IsFoundAt clauses c.args.trail.now.values c.args.number (Forced c.in-Unit.literal) = c.in-Unit.ensures in
    unit_within clauses c.args.trail.now.values (length c.args.trail.now.values) c.args.number c.in-Unit.literal c.requires.within found

pub returns-in_ok-push-in-Unit : goal.returns-in_ok-push-in-Unit
returns-in_ok-push-in-Unit c =
    let clauses = clauses_of c.args.clauses.now in
    propagated_more clauses c.args.trail.now c.args.trail.now c.push.new.self c.in-Unit.literal c.args.number c.requires.within (propagated_none clauses c.args.trail.now c.requires.trail) c.in-Unit.ensures c.in_ok-push-in-Unit.ensures
