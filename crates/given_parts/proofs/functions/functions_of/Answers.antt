use Rattle.given_parts.specs.Functions.{functions_from, used_existentials}
use Rattle.given_parts.proofs.PartFacts.{functions_step, functions_past}
use Rattle.given_parts.proofs.functions.functions_of.Goals as goal

pub loop-at-preserved : goal.loop-at-preserved
loop-at-preserved c =
    functions_step c.args.prefix.now c.args.used.now c.args.parts.now c.loop-at.at c.index-parts-at.result c.loop-at.functions c.push_if.new.functions (functions_from c.args.prefix.now 1 (used_existentials c.args.used.now c.args.parts.now)) c.requires c.loop-at-test.true
    c.index-parts-at.is c.in_ok-push_if.ensures c.loop-at.invariant

pub returns : goal.returns
returns c =
    functions_past c.args.prefix.now c.args.used.now c.args.parts.now c.loop-at.at c.loop-at.functions (functions_from c.args.prefix.now 1 (used_existentials c.args.used.now c.args.parts.now)) c.loop-at-test.false c.loop-at.invariant
