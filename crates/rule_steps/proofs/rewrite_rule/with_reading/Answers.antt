use Rattle.std.proofs.Common.{Some, refl}
use Rattle.clause_rules.proofs.Firsts.{ok_map}
use Rattle.rule_steps.proofs.ParamodulationCode.{spot_as}
use Rattle.rule_steps.proofs.RewriteCode.{tried}
use Rattle.rule_steps.proofs.rewrite_rule.with_reading.Goals as goal

pub of_term-requires-clause-into : goal.of_term-requires-clause-into
of_term-requires-clause-into c = c.requires.clauses c.args.site.now.clause (Some c.in-Some.into.now) c.in-Some.ensures c.in-Some.into.now refl

pub of_term-requires-clause-by : goal.of_term-requires-clause-by
of_term-requires-clause-by c = c.requires.clauses c.args.reading.now.clause (Some c.in-Some-clause_in.by.now) c.in-Some-clause_in.ensures c.in-Some-clause_in.by.now refl

pub of_term-requires-clause-stands : goal.of_term-requires-clause-stands
of_term-requires-clause-stands c =
    let at = spot_as c.in-Some.into.now.lits c.as_slice.result.now c.args.site.now.at c.as_slice-in-Some-clause_in.result.now c.args.site.now.lit (Some c.in-Some-spot_in.spot) c.as_slice.ensures c.as_slice-in-Some-clause_in.ensures c.in-Some-spot_in.ensures in
    (c.args.site.now.lit, c.args.site.now.at, c.in-Some-spot_in.spot.lit.now, at.0, at.1)

pub returns-in-Some-spot_in : goal.returns-in-Some-spot_in
returns-in-Some-spot_in c =
    let at = spot_as c.in-Some.into.now.lits c.as_slice.result.now c.args.site.now.at c.as_slice-in-Some-clause_in.result.now c.args.site.now.lit (Some c.in-Some-spot_in.spot) c.as_slice.ensures c.as_slice-in-Some-clause_in.ensures c.in-Some-spot_in.ensures in
    ok_map c.of_term.result
    (tried c.args.search.now.sig.now c.args.search.now.clauses.now c.args.search.now.line.now c.args.site.now c.args.reading.now c.in-Some.into.now c.in-Some-clause_in.by.now c.in-Some.ensures c.in-Some-clause_in.ensures c.in-Some-spot_in.spot.lit.now c.in-Some-spot_in.spot.term.now at) c.of_term.ensures
