use Rattle.std.proofs.Common.{ap}
use Rattle.unify_terms.specs.declared.goal.Goal.{Any}
use Rattle.clause_rules.specs.Ways.{lit_ways}
use Rattle.clause_rules.proofs.Firsts.{there_at}
use Rattle.substitution_search.proofs.Narrowing.{one_target}
use Rattle.substitution_search.proofs.narrow.narrowed.Goals as goal

pub returns-in_ok-ways-in-Some : goal.returns-in_ok-ways-in-Some
returns-in_ok-ways-in-Some c = record {
  need = lit_ways c.args.lit.now.positive c.args.lit.now.atom c.index-targets-at.result;
  is = ap Any c.in_ok-ways-in-Some.ensures;
  narrows = one_target c.args.targets.now c.args.lit.now c.in-Some.at c.index-targets-at.result (there_at c.args.targets.now c.in-Some.at c.index-targets-at.result c.if-at-targets.false c.index-targets-at.is);
}
