use Rattle.std.proofs.Common.{None, refl, sym, ◌∙◌}
use Rattle.rule_steps.specs.code.ParamodulationSearch.{readings_from, sites_from}
use Rattle.clause_rules.proofs.Firsts.{holds, ok_map}
use Rattle.rule_steps.proofs.RewriteCode.{no_readings, rewrite_answer}
use Rattle.rule_steps.proofs.rewrite_rule.rewrite_among.Goals as goal

pub returns-then-is_empty : goal.returns-then-is_empty
returns-then-is_empty c = λ parents form same is.
    let places = sites_from 0 c.args.search.now.clauses.now in
    let all = readings_from 0 c.args.search.now.clauses.now in
    rewrite_answer c.args.search.now.sig.now parents form c.args.search.now.line.now c.args.search.now.clauses.now places all is same refl refl None
    (no_readings c.args.search.now.sig.now c.args.search.now.clauses.now places all c.args.search.now.line.now (sym c.in_ok-readings.ensures ∙ holds c.is_empty.result _ c.if-is_empty.true c.is_empty.ensures))

pub returns : goal.returns
returns c =
    ok_map c.at_sites.result
    (λ found told parents form same is. rewrite_answer c.args.search.now.sig.now parents form c.args.search.now.line.now c.args.search.now.clauses.now c.as_slice.result.now c.as_slice-2.result.now is same (c.as_slice.ensures ∙ c.in_ok-sites.ensures) (c.as_slice-2.ensures ∙ c.in_ok-readings.ensures) found told) c.at_sites.ensures
