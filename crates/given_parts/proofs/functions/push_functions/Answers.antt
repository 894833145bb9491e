use Rattle.std.proofs.lemmas.List.{drop_all}
use Rattle.given_parts.proofs.PartFacts.{functions_one, functions_end, with_left}
use Rattle.given_parts.proofs.functions.push_functions.Goals as goal

pub loop-existential-preserved : goal.loop-existential-preserved
loop-existential-preserved c =
    functions_one c.args.prefix.now c.args.existentials.now c.loop-existential.existential-index c.existential-item.result c.in_ok-function_of.field-0 c.next_place-place.result c.loop-existential.functions c.push.new.self (with_left c.args.prefix.now c.args.functions.now c.args.existentials.now) c.loop-existential-test.true
    c.existential-item.is c.next_place-place.ensures c.in_ok-function_of.ensures c.in_ok-push.ensures.ok c.loop-existential.invariant

pub returns : goal.returns
returns c =
    functions_end c.args.prefix.now _ c.loop-existential.functions (with_left c.args.prefix.now c.args.functions.now c.args.existentials.now) (drop_all c.loop-existential.existential-index c.args.existentials.now c.loop-existential-test.false) c.loop-existential.invariant
