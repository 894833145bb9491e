use Rattle.std.proofs.Common.{ℕ, ◌<◌, None, length, sym, subst}
use Rattle.clause_learning.specs.code.Trails.{clauses_of}
use Rattle.clause_learning.specs.declared.trail.Trail.{Trail}
use Rattle.clause_learning.specs.declared.examining.Finding.TheVariants.{Unit as Forced}
use Rattle.clause_learning.specs.code.States.{IsFoundAt, IsPropagated}
use Rattle.clause_learning.proofs.Stating.{propagated_none, propagated_more, propagated_broken, unit_within}
use Rattle.clause_learning.proofs.propagation.sweep.Goals.{in-Unit+in_ok-push-in-Unit, in-Loose}
use Rattle.clause_learning.proofs.propagation.sweep.Goals as goal

pub loop-number-init : goal.loop-number-init
loop-number-init c = record { many = c.len-many.ensures; on = propagated_none (clauses_of c.args.clauses.now) c.args.trail.now c.requires.trail }

pub finding_of-requires : goal.finding_of-requires
finding_of-requires c = subst (λ (n : ℕ). c.loop-number.number < n) c.loop-number.invariant.many c.loop-number-test.true

pub push-requires : goal.push-requires
push-requires c =
    let clauses = clauses_of c.args.clauses.now in
    let found : IsFoundAt clauses c.loop-number.trail.values c.loop-number.number (Forced c.in-Unit.literal) = c.in-Unit.ensures in
    let lt = unit_within clauses c.loop-number.trail.values (length c.args.trail.now.values) c.loop-number.number c.in-Unit.literal c.requires.within found in
    subst (λ (n : ℕ). c.in-Unit.literal.atom < n) (sym c.loop-number.invariant.on.many) lt

pub loop-number-preserved : goal.loop-number-preserved
loop-number-preserved c =
    let clauses = clauses_of c.args.clauses.now in
    let P : Trail → Type 0 = λ t. IsPropagated clauses c.args.trail.now t None in
    record {
      many = c.loop-number.invariant.many;
      on = elim c.match-finding_of.branch [
        | in-Unit+in_ok-push-in-Unit w ↦
            subst P (sym w.trail-is) (propagated_more clauses c.args.trail.now c.loop-number.trail w.push.new.self w.in-Unit.literal c.loop-number.number c.requires.within c.loop-number.invariant.on w.in-Unit.ensures w.in_ok-push-in-Unit.ensures)
        | in-Loose w ↦ subst P (sym w.trail-is) c.loop-number.invariant.on
      ];
    }

pub returns-in-Broken : goal.returns-in-Broken
returns-in-Broken c = propagated_broken (clauses_of c.args.clauses.now) c.args.trail.now c.loop-number.trail c.loop-number.number c.loop-number.invariant.on c.in-Broken.ensures

pub returns : goal.returns
returns c = c.loop-number.invariant.on
