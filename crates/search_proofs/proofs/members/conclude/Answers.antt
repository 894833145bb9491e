use Rattle.std.proofs.Common.{refl, []}
use Rattle.derive_kit.proofs.Built.{ok_map}
use Rattle.search_proofs.proofs.Passing.{named_within, lent_ready, line_ready, lent_step, lent_shows}
use Rattle.search_proofs.proofs.members.conclude.Goals as goal

pub premise-requires-clause-within : goal.premise-requires-clause-within
premise-requires-clause-within c = (named_within c.args.signature.now [] c.args.members.now c.args.clause.now c.args.first c.args.second c.requires.made.0 c.requires.made.1).0

pub step_proof-requires-clause-ready : goal.step_proof-requires-clause-ready
step_proof-requires-clause-ready c =
    lent_ready c.args.signature.now c.args.members.now c.args.numbers.now c.args.first c.args.second c.args.clause.now c.in_ok-premise.field-0 c.in_ok-premise-2.field-0 c.in_ok-premise.ensures c.in_ok-premise-2.ensures c.push-2.new.self c.as_slice.result.now
    (rw (c.in_ok-push-2.ensures.ok, c.in_ok-push.ensures.ok, c.new-parents.ensures) refl) c.as_slice.ensures c.in_ok-line.line c.in_ok-line.ensures c.requires.clauses

pub step_proof-requires-clause-line : goal.step_proof-requires-clause-line
step_proof-requires-clause-line c =
    line_ready c.args.signature.now c.args.members.now c.args.numbers.now c.args.first c.args.second c.args.clause.now c.in_ok-premise.field-0 c.in_ok-premise-2.field-0 c.in_ok-premise.ensures c.in_ok-premise-2.ensures c.push-2.new.self c.as_slice.result.now
    (rw (c.in_ok-push-2.ensures.ok, c.in_ok-push.ensures.ok, c.new-parents.ensures) refl) c.as_slice.ensures c.in_ok-line.line c.in_ok-line.ensures c.requires.clause

pub step_proof-requires-clause-step : goal.step_proof-requires-clause-step
step_proof-requires-clause-step c =
    lent_step c.args.signature.now c.args.members.now c.args.numbers.now c.args.first c.args.second c.args.clause.now c.in_ok-premise.field-0 c.in_ok-premise-2.field-0 c.in_ok-premise.ensures c.in_ok-premise-2.ensures c.push-2.new.self c.as_slice.result.now
    (rw (c.in_ok-push-2.ensures.ok, c.in_ok-push.ensures.ok, c.new-parents.ensures) refl) c.as_slice.ensures c.in_ok-line.line c.in_ok-line.ensures c.requires.made

pub returns : goal.returns
returns c =
    ok_map c.step_proof.result
    (λ made shows. lent_shows c.args.signature.now c.args.members.now c.args.numbers.now c.args.first c.args.second c.args.clause.now c.in_ok-premise.field-0 c.in_ok-premise-2.field-0 c.in_ok-premise.ensures c.in_ok-premise-2.ensures c.push-2.new.self c.as_slice.result.now
    (rw (c.in_ok-push-2.ensures.ok, c.in_ok-push.ensures.ok, c.new-parents.ensures) refl) c.as_slice.ensures c.in_ok-line.line c.in_ok-line.ensures made shows)
    c.step_proof.ensures
