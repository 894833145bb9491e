use Rattle.std.proofs.Common.{ℕ, Option, Some, None, subst}
use Rattle.std.proofs.lemmas.Result.{IfOk-weaker}
use Rattle.clause_learning.specs.declared.solver.Solver.{Solver}
use Rattle.clause_learning.specs.code.Trails.{clauses_of}
use Rattle.clause_learning.specs.code.States.{IsPropagated, IsTurned}
use Rattle.clause_learning.proofs.Turning.{propagated_state, turned_after}
use Rattle.clause_learning.proofs.solver.Solver.turn.Goals as goal

pub learn-requires-clause-state : goal.learn-requires-clause-state
learn-requires-clause-state c =
    let old = c.args.self.now in
    let P : Option ℕ → Type 0 = λ o. IsPropagated (clauses_of old.clauses) old.trail c.propagate.new.trail o in
    propagated_state old c.propagate.new.trail (Some c.in-Some.number) c.requires (subst P c.in-Some.is c.in_ok-number.ensures)

pub learn-requires-clause-conflict : goal.learn-requires-clause-conflict
learn-requires-clause-conflict c =
    let old = c.args.self.now in
    let P : Option ℕ → Type 0 = λ o. IsPropagated (clauses_of old.clauses) old.trail c.propagate.new.trail o in
    let found : IsPropagated (clauses_of old.clauses) old.trail c.propagate.new.trail (Some c.in-Some.number) = subst P c.in-Some.is c.in_ok-number.ensures in
    found.conflict

pub returns-in-Some : goal.returns-in-Some
returns-in-Some c =
    let old = c.args.self.now in
    let mid : Solver = record { clauses = old.clauses; trail = c.propagate.new.trail; marks = old.marks; restarts = old.restarts } in
    let P : Option ℕ → Type 0 = λ o. IsPropagated (clauses_of old.clauses) old.trail c.propagate.new.trail o in
    IfOk-weaker c.learn.result (IsTurned mid c.learn.new.self) (IsTurned old c.learn.new.self)
    (λ t on. turned_after old c.learn.new.self c.propagate.new.trail (Some c.in-Some.number) t (subst P c.in-Some.is c.in_ok-number.ensures) on) c.learn.ensures

pub restart-requires-clause-state : goal.restart-requires-clause-state
restart-requires-clause-state c =
    let old = c.args.self.now in
    let P : Option ℕ → Type 0 = λ o. IsPropagated (clauses_of old.clauses) old.trail c.propagate.new.trail o in
    propagated_state old c.propagate.new.trail None c.requires (subst P c.in_default.is c.in_ok-number.ensures)

pub returns-then-is_due : goal.returns-then-is_due
returns-then-is_due c =
    let old = c.args.self.now in
    let mid : Solver = record { clauses = old.clauses; trail = c.propagate.new.trail; marks = old.marks; restarts = old.restarts } in
    let P : Option ℕ → Type 0 = λ o. IsPropagated (clauses_of old.clauses) old.trail c.propagate.new.trail o in
    IfOk-weaker c.restart.result (IsTurned mid c.restart.new.self) (IsTurned old c.restart.new.self)
    (λ t on. turned_after old c.restart.new.self c.propagate.new.trail None t (subst P c.in_default.is c.in_ok-number.ensures) on) c.restart.ensures

pub choose-requires : goal.choose-requires
choose-requires c =
    let old = c.args.self.now in
    let P : Option ℕ → Type 0 = λ o. IsPropagated (clauses_of old.clauses) old.trail c.propagate.new.trail o in
    propagated_state old c.propagate.new.trail None c.requires (subst P c.in_default.is c.in_ok-number.ensures)

pub returns : goal.returns
returns c =
    let old = c.args.self.now in
    let mid : Solver = record { clauses = old.clauses; trail = c.propagate.new.trail; marks = old.marks; restarts = old.restarts } in
    let P : Option ℕ → Type 0 = λ o. IsPropagated (clauses_of old.clauses) old.trail c.propagate.new.trail o in
    IfOk-weaker c.choose.result (IsTurned mid c.choose.new.self) (IsTurned old c.choose.new.self)
    (λ t on. turned_after old c.choose.new.self c.propagate.new.trail None t (subst P c.in_default.is c.in_ok-number.ensures) on) c.choose.ensures
