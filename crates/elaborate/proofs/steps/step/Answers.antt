use Rattle.std.proofs.Common.{subst, Some}
use Rattle.clause_rules.specs.Answers.{IsFirst}
use Rattle.derive_kit.proofs.Built.{ok_map}
use Rattle.elaborate.proofs.StepAnswers.{no_shape, step_derived, step_searched}
use Rattle.elaborate.proofs.steps.step.Goals as goal

pub by_shape-requires-clause-first : goal.by_shape-requires-clause-first
by_shape-requires-clause-first c =
    subst (λ w. IsFirst w c.args.parents.now c.args.line.now (Some c.in-Some.just)) c.signature.ensures (subst (IsFirst c.signature.result.now c.args.parents.now c.args.line.now) c.in-Some.is c.in_ok-just.ensures)

pub returns-in-Some : goal.returns-in-Some
returns-in-Some c = ok_map c.by_shape.result (λ answer told. told c.args.limit) c.by_shape.ensures

pub returns-in-Some-2 : goal.returns-in-Some-2
returns-in-Some-2 c =
    let shapes = no_shape c.args.theory.now c.args.parents.now c.args.line.now c.in_ok-just.field-0 c.in_default.is (subst (λ w. IsFirst w c.args.parents.now c.args.line.now c.in_ok-just.field-0) c.signature.ensures c.in_ok-just.ensures) in
    ok_map c.by_entries.result
    (λ answer e. rw e (step_derived c.args.theory.now c.args.parents.now c.args.line.now c.args.limit shapes c.in_ok-derived.field-0 c.in_ok-derived.ensures c.in-Some-2.derived c.in-Some-2.is))
    c.by_entries.ensures

pub returns : goal.returns
returns c =
    let shapes = no_shape c.args.theory.now c.args.parents.now c.args.line.now c.in_ok-just.field-0 c.in_default.is (subst (λ w. IsFirst w c.args.parents.now c.args.line.now c.in_ok-just.field-0) c.signature.ensures c.in_ok-just.ensures) in
    ok_map c.by_search.result (λ answer h. step_searched c.args.theory.now c.args.parents.now c.args.line.now c.args.limit shapes c.in_ok-derived.field-0 c.in_ok-derived.ensures c.in_default-2.is answer h) c.by_search.ensures
