use Rattle.std.proofs.Common.{None, below_more, subst}
use Rattle.rule_steps.specs.code.ParamodulationSearch.{FoundInClause}
use Rattle.rule_steps.proofs.ParamodulationPlaces.{no_clause_past}
use Rattle.rule_steps.proofs.paramodulation_rule.in_clauses.Goals as goal

pub loop-a-preserved : goal.loop-a-preserved
loop-a-preserved c =
    below_more (λ a. FoundInClause c.args.search.now.sig.now c.args.search.now.clauses.now c.args.readings.now c.args.search.now.line.now a None) _ c.loop-a.invariant
    (subst (FoundInClause c.args.search.now.sig.now c.args.search.now.clauses.now c.args.readings.now c.args.search.now.line.now c.loop-a.a) c.in_default.is c.in_ok-found.ensures)

pub returns : goal.returns
returns c = no_clause_past c.args.search.now.sig.now c.args.search.now.clauses.now c.args.readings.now c.args.search.now.line.now c.loop-a.a c.loop-a-test.false c.loop-a.invariant
