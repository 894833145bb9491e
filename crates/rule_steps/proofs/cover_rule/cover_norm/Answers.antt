use Rattle.std.proofs.Common.{ap, arith, length}
use Rattle.std.proofs.lemmas.List.{length-reverse}
use Rattle.clause_form.specs.Covers.{scope_of}
use Rattle.rule_steps.proofs.CoverEnds.{reached_found}
use Rattle.rule_steps.proofs.GoalSorts.{few_sorts}
use Rattle.rule_steps.proofs.CoverTop.{few_in_goal, goal_is_sorted, no_cover, some_cover, sorts_as, asks_as}
use Rattle.clause_rules.proofs.Firsts.{ok_map}
use Rattle.rule_steps.proofs.cover_rule.cover_norm.Goals as goal

pub open-requires : goal.open-requires
open-requires c = omega (arith, ap length c.in_ok-sorts.ensures, length-reverse c.args.line.now.sorts, few_sorts c.as_slice.result.now c.args.norm.now, c.requires.line.few, c.requires.small)

pub solution_of-requires-clause-few : goal.solution_of-requires-clause-few
solution_of-requires-clause-few c =
    few_in_goal c.args.sig.now c.args.line.now c.requires.line c.args.norm.now c.requires.norm c.requires.small (record { sorts = c.open.new.sorts; rigid = c.len-rigid.result }) c.in_ok-goal.goal
    (sorts_as c.args.norm.now c.args.line.now.lits c.as_slice.result.now c.in_ok-sorts.sorts c.open.new.sorts (scope_of c.args.line.now) c.as_slice.ensures c.in_ok-sorts.ensures c.in_ok-goal.ensures.1) c.len-rigid.ensures
    (asks_as c.args.norm.now c.args.line.now.lits c.as_slice.result.now c.in_ok-sorts.sorts c.new-names.result (scope_of c.args.line.now) c.in_ok-goal.goal c.as_slice.ensures c.in_ok-sorts.ensures c.new-names.ensures c.in_ok-goal.ensures.0)

pub solution_of-requires-clause-sorted : goal.solution_of-requires-clause-sorted
solution_of-requires-clause-sorted c =
    goal_is_sorted c.args.sig.now c.args.line.now c.requires.line c.args.norm.now c.requires.norm c.requires.small (record { sorts = c.open.new.sorts; rigid = c.len-rigid.result }) c.in_ok-goal.goal
    (sorts_as c.args.norm.now c.args.line.now.lits c.as_slice.result.now c.in_ok-sorts.sorts c.open.new.sorts (scope_of c.args.line.now) c.as_slice.ensures c.in_ok-sorts.ensures c.in_ok-goal.ensures.1) c.len-rigid.ensures
    (asks_as c.args.norm.now c.args.line.now.lits c.as_slice.result.now c.in_ok-sorts.sorts c.new-names.result (scope_of c.args.line.now) c.in_ok-goal.goal c.as_slice.ensures c.in_ok-sorts.ensures c.new-names.ensures c.in_ok-goal.ensures.0)

pub cover_reached-requires-clause-clause : goal.cover_reached-requires-clause-clause
cover_reached-requires-clause-clause c =
    (some_cover c.args.sig.now c.args.line.now c.requires.line c.args.norm.now c.requires.norm c.requires.small (record { sorts = c.open.new.sorts; rigid = c.len-rigid.result }) c.in_ok-goal.goal
    (sorts_as c.args.norm.now c.args.line.now.lits c.as_slice.result.now c.in_ok-sorts.sorts c.open.new.sorts (scope_of c.args.line.now) c.as_slice.ensures c.in_ok-sorts.ensures c.in_ok-goal.ensures.1) c.len-rigid.ensures
    (asks_as c.args.norm.now c.args.line.now.lits c.as_slice.result.now c.in_ok-sorts.sorts c.new-names.result (scope_of c.args.line.now) c.in_ok-goal.goal c.as_slice.ensures c.in_ok-sorts.ensures c.new-names.ensures c.in_ok-goal.ensures.0)
    c.in-Some.solution c.in_ok-reached-in-Some.reached (rw c.in-Some.is at c.in_ok-solution.ensures) (rw c.as_slice-in-Some.ensures at c.in_ok-reached-in-Some.ensures)).fit_clause

pub returns-in-Some : goal.returns-in-Some
returns-in-Some c =
    ok_map c.cover_reached.result
    (reached_found c.args.sig.now c.args.norm.now c.args.line.now c.in_ok-reached-in-Some.reached
    (some_cover c.args.sig.now c.args.line.now c.requires.line c.args.norm.now c.requires.norm c.requires.small (record { sorts = c.open.new.sorts; rigid = c.len-rigid.result }) c.in_ok-goal.goal
    (sorts_as c.args.norm.now c.args.line.now.lits c.as_slice.result.now c.in_ok-sorts.sorts c.open.new.sorts (scope_of c.args.line.now) c.as_slice.ensures c.in_ok-sorts.ensures c.in_ok-goal.ensures.1) c.len-rigid.ensures
    (asks_as c.args.norm.now c.args.line.now.lits c.as_slice.result.now c.in_ok-sorts.sorts c.new-names.result (scope_of c.args.line.now) c.in_ok-goal.goal c.as_slice.ensures c.in_ok-sorts.ensures c.new-names.ensures c.in_ok-goal.ensures.0)
    c.in-Some.solution c.in_ok-reached-in-Some.reached (rw c.in-Some.is at c.in_ok-solution.ensures) (rw c.as_slice-in-Some.ensures at c.in_ok-reached-in-Some.ensures))) c.cover_reached.ensures

pub returns : goal.returns
returns c =
    no_cover c.args.sig.now c.args.line.now c.requires.line c.args.norm.now c.requires.norm c.requires.small (record { sorts = c.open.new.sorts; rigid = c.len-rigid.result }) c.in_ok-goal.goal
    (sorts_as c.args.norm.now c.args.line.now.lits c.as_slice.result.now c.in_ok-sorts.sorts c.open.new.sorts (scope_of c.args.line.now) c.as_slice.ensures c.in_ok-sorts.ensures c.in_ok-goal.ensures.1) c.len-rigid.ensures
    (asks_as c.args.norm.now c.args.line.now.lits c.as_slice.result.now c.in_ok-sorts.sorts c.new-names.result (scope_of c.args.line.now) c.in_ok-goal.goal c.as_slice.ensures c.in_ok-sorts.ensures c.new-names.ensures c.in_ok-goal.ensures.0)
    (rw c.in-None.is at c.in_ok-solution.ensures)
