use Rattle.split_defs.proofs.Derivation.{function_args, own_reached, sides_reach, function_ok, result_found, result_is, result_exists}
use Rattle.split_defs.proofs.valuing.function_entries.Goals as goal

pub unreachable-requires-in_default-result_of : goal.unreachable-requires-in_default-result_of
unreachable-requires-in_default-result_of c =
    result_found c.args.theory.now.vocabulary c.signature.result.now c.args.symbol c.result_of.result c.signature.ensures c.result_of.ensures.none c.requires.values.0.symbol c.requires.values.0.found c.in_default-result_of.not-Some

pub value_over-requires : goal.value_over-requires
value_over-requires c = function_args c.args.theory.now c.args.line.now c.args.body.now c.requires.line c.requires.body c.args.head.now c.args.value.now c.args.symbol c.args.first c.requires.values c.requires.equates c.in-Some.result (result_is c.args.theory.now.vocabulary c.signature.result.now c.args.symbol c.result_of.result c.in-Some.result c.signature.ensures c.result_of.ensures.is c.in-Some.is) (result_exists c.args.theory.now.vocabulary c.signature.result.now c.result_of.result c.in-Some.result c.signature.ensures c.result_of.ensures.exists c.in-Some.is) c.in-App.field-0 c.in-App.args c.as_slice-args.result.now c.in-App.is c.as_slice-args.ensures

pub hole-requires : goal.hole-requires
hole-requires c = own_reached c.args.theory.now c.args.line.now c.args.body.now c.requires.line c.requires.body c.args.head.now c.args.value.now c.args.symbol c.args.first c.requires.values c.requires.equates c.in-Some.result (result_is c.args.theory.now.vocabulary c.signature.result.now c.args.symbol c.result_of.result c.in-Some.result c.signature.ensures c.result_of.ensures.is c.in-Some.is) (result_exists c.args.theory.now.vocabulary c.signature.result.now c.result_of.result c.in-Some.result c.signature.ensures c.result_of.ensures.exists c.in-Some.is) c.in-App.field-0 c.in-App.args c.as_slice-args.result.now c.in-App.is c.as_slice-args.ensures c.in_ok-value_of_arguments.value_of_arguments c.in_ok-value_of_arguments.ensures

pub equated-requires-clause-head : goal.equated-requires-clause-head
equated-requires-clause-head c = (sides_reach c.args.theory.now c.args.line.now c.args.body.now c.requires.line c.requires.body c.args.first c.args.head.now c.args.value.now c.requires.equates).0

pub equated-requires-clause-value : goal.equated-requires-clause-value
equated-requires-clause-value c = (sides_reach c.args.theory.now c.args.line.now c.args.body.now c.requires.line c.requires.body c.args.first c.args.head.now c.args.value.now c.requires.equates).1

pub returns : goal.returns
returns c =
    function_ok c.args.theory.now c.args.line.now c.args.body.now c.requires.line c.requires.body c.args.head.now c.args.value.now c.args.symbol c.args.first c.requires.values c.requires.equates c.in-Some.result (result_is c.args.theory.now.vocabulary c.signature.result.now c.args.symbol c.result_of.result c.in-Some.result c.signature.ensures c.result_of.ensures.is c.in-Some.is) (result_exists c.args.theory.now.vocabulary c.signature.result.now c.result_of.result c.in-Some.result c.signature.ensures c.result_of.ensures.exists c.in-Some.is) c.in-App.field-0 c.in-App.args c.as_slice-args.result.now c.in-App.is c.as_slice-args.ensures c.len.result c.in_ok-value_of_arguments.value_of_arguments c.in_ok-own.own c.in_ok-fact.fact c.in_ok-inner.inner c.in_ok-whole.whole c.choice_entries.result c.len.ensures c.in_ok-value_of_arguments.ensures c.in_ok-own.ensures
    c.in_ok-fact.ensures c.in_ok-inner.ensures c.in_ok-whole.ensures c.choice_entries.ensures
