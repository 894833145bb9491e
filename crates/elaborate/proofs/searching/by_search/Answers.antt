use Rattle.std.proofs.Common.{inl, inr}
use Rattle.derive_kit.proofs.Built.{ok_map}
use Rattle.step_search.specs.declared.outcome.Searched.TheVariants.{Dry, Full, Heavy}
use Rattle.elaborate.specs.declared.answer.Reason.TheVariants as why
use Rattle.elaborate.proofs.FoundAnswers.{at_once_answer, ends, open_answer, refuted_answer, wide_answer}
use Rattle.elaborate.proofs.searching.by_search.Goals as goal

pub returns-in-Some : goal.returns-in-Some
returns-in-Some c =
    ok_map c.citing_all.result
    (λ answer e. rw e (at_once_answer c.args.theory.now c.args.parents.now c.args.line.now c.args.limit c.in_ok-entries.field-0 c.in-Some.entries c.in-Some.is c.in_ok-entries.ensures))
    c.citing_all.ensures

pub returns-in-Refuted : goal.returns-in-Refuted
returns-in-Refuted c =
    ok_map c.citing_all-in-Refuted.result
    (λ answer e. rw e (refuted_answer c.args.theory.now c.args.parents.now c.args.line.now c.args.limit c.in_ok-entries-2.field-0 c.in_ok-entries-2.ensures c.in-Refuted.entries c.in-Refuted.is))
    c.citing_all-in-Refuted.ensures

pub decided-requires-clause-narrow : goal.decided-requires-clause-narrow
decided-requires-clause-narrow c = (ends c.args.theory.now c.args.parents.now c.args.line.now c.args.limit c.in_ok-entries-2.field-0 c.in_ok-entries-2.ensures Dry c.in-Dry.is).narrow

pub decided-requires-in-Full-clause-narrow : goal.decided-requires-in-Full-clause-narrow
decided-requires-in-Full-clause-narrow c = (ends c.args.theory.now c.args.parents.now c.args.line.now c.args.limit c.in_ok-entries-2.field-0 c.in_ok-entries-2.ensures Full c.in-Full.is).narrow

pub decided-requires-in-Heavy-clause-narrow : goal.decided-requires-in-Heavy-clause-narrow
decided-requires-in-Heavy-clause-narrow c = (ends c.args.theory.now c.args.parents.now c.args.line.now c.args.limit c.in_ok-entries-2.field-0 c.in_ok-entries-2.ensures Heavy c.in-Heavy.is).narrow

pub returns-in-Dry : goal.returns-in-Dry
returns-in-Dry c =
    let s = ends c.args.theory.now c.args.parents.now c.args.line.now c.args.limit c.in_ok-entries-2.field-0 c.in_ok-entries-2.ensures Dry c.in-Dry.is in
    ok_map c.decided.result
    (λ answer h. open_answer c.args.theory.now c.args.parents.now c.args.line.now c.args.limit c.in_ok-entries.field-0 c.in_default.is c.in_ok-entries.ensures why.Dry (inl s) (λ none. (s, none)) answer h)
    c.decided.ensures

pub returns-in-Full : goal.returns-in-Full
returns-in-Full c =
    let s = ends c.args.theory.now c.args.parents.now c.args.line.now c.args.limit c.in_ok-entries-2.field-0 c.in_ok-entries-2.ensures Full c.in-Full.is in
    ok_map c.decided-in-Full.result
    (λ answer h. open_answer c.args.theory.now c.args.parents.now c.args.line.now c.args.limit c.in_ok-entries.field-0 c.in_default.is c.in_ok-entries.ensures why.Full (inr (inl s)) (λ none. (s, none)) answer h)
    c.decided-in-Full.ensures

pub returns-in-Heavy : goal.returns-in-Heavy
returns-in-Heavy c =
    let s = ends c.args.theory.now c.args.parents.now c.args.line.now c.args.limit c.in_ok-entries-2.field-0 c.in_ok-entries-2.ensures Heavy c.in-Heavy.is in
    ok_map c.decided-in-Heavy.result
    (λ answer h. open_answer c.args.theory.now c.args.parents.now c.args.line.now c.args.limit c.in_ok-entries.field-0 c.in_default.is c.in_ok-entries.ensures why.Heavy (inr (inr s)) (λ none. (s, none)) answer h)
    c.decided-in-Heavy.ensures

pub returns-in-Wide : goal.returns-in-Wide
returns-in-Wide c = wide_answer c.args.theory.now c.args.parents.now c.args.line.now c.args.limit c.in_ok-entries.field-0 c.in_default.is c.in_ok-entries.ensures c.in_ok-entries-2.field-0 c.in-Wide.is c.in_ok-entries-2.ensures
