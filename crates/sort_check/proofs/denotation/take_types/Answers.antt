use Rattle.std.proofs.Common.{arith, rules}
use Rattle.std.proofs.lemmas.Grind.{common_steps}
use Rattle.sort_check.proofs.TermSorts.{grows_on}
use Rattle.sort_check.proofs.denotation.take_types.Goals as goal

pub returns-in_err-take_type-clause-keeps : goal.returns-in_err-take_type-clause-keeps
returns-in_err-take_type-clause-keeps c = grows_on c.args.signature.now c.loop-item.signature c.take_type.new.signature c.loop-item.invariant.keeps c.in_err-take_type.ensures.keeps

pub loop-item-preserved : goal.loop-item-preserved
loop-item-preserved c = record {
  so_far = first_of (search rules, grind (arith, common_steps));
  keeps = grows_on c.args.signature.now c.loop-item.signature c.take_type.new.signature c.loop-item.invariant.keeps c.in_ok-take_type.ensures.keeps;
  knows = first_of (search rules, grind (arith, common_steps));
}
