use Rattle.std.proofs.Common.{◌≡◌, refl, ap, sym, subst, ◌+◌, ◌-◌, length, drop, arith}
use Rattle.fof_terms.specs.Scope.{scope_sorts}
use Rattle.split_defs.specs.declared.stages.Stage.{Stage}
use Rattle.split_defs.specs.code.SplitProof.{goal_of, variables_in}
use Rattle.split_defs.proofs.ArmLoops.{arms_end, arms_here, goal_here, variables_here}
use Rattle.split_defs.proofs.arms.all_arms.Goals as goal

pub loop-i-preserved : goal.loop-i-preserved
loop-i-preserved c =
    let s = c.index-stages-i.result in
    let w = c.args.sig.now in
    let v = scope_sorts c.args.scope.now in
    let stages = c.args.stages.now in
    let here = variables_here w v stages c.loop-i.i s c.loop-i-test.true c.index-stages-i.is c.loop-i.left c.loop-i.invariant.left in
    let goals = goal_here w v stages c.loop-i.i s c.loop-i-test.true c.index-stages-i.is c.loop-i.invariant.goals in
    let read = ap (λ (x : Stage). length x.opened.clause.sorts) c.index-stages-i.is in
    let left = c.loop-i.left - c.len.result in
    let rest : left ≡ variables_in (drop (c.loop-i.i + 1) stages) = omega (arith, here, read, c.len.ensures) in
    let moved : c.in_ok-goal.goal ≡ goal_of s.opened left = subst (λ (x : Stage). c.in_ok-goal.goal ≡ goal_of x.opened left) (sym c.index-stages-i.is) c.in_ok-goal.ensures in
    record {
      left = rest;
      few = omega (arith, c.loop-i.invariant.few);
      goals = goals.1;
      arms = arms_here w v stages c.loop-i.i s c.loop-i-test.true c.index-stages-i.is left (length stages - c.loop-i.i) c.in_ok-goal.goal c.loop-i.arms c.push_arms.new.arms c.in_ok-push_arms.ensures.0 rest refl moved c.in_ok-push_arms.ensures.1 c.in_ok-push_arms.ensures.2 c.loop-i.invariant.arms;
    }

pub returns : goal.returns
returns c = arms_end c.args.sig.now (scope_sorts c.args.scope.now) c.args.stages.now c.loop-i.i c.loop-i.arms c.loop-i-test.false c.loop-i.invariant.arms
