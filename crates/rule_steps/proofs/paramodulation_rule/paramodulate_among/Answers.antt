use Rattle.std.proofs.Common.{None, refl, sym, ◌∙◌}
use Rattle.rule_steps.specs.code.ParamodulationSearch.{readings_from}
use Rattle.clause_rules.proofs.Firsts.{holds, ok_map}
use Rattle.rule_steps.proofs.ParamodulationEnds.{no_readings, paramodulation_answer}
use Rattle.rule_steps.proofs.paramodulation_rule.paramodulate_among.Goals as goal

pub returns-then-is_empty : goal.returns-then-is_empty
returns-then-is_empty c = λ parents form same is.
    let all = readings_from 0 c.args.search.now.clauses.now in
    paramodulation_answer c.args.search.now.sig.now parents form c.args.search.now.line.now c.args.search.now.clauses.now all is same refl None
    (no_readings c.args.search.now.sig.now c.args.search.now.clauses.now all c.args.search.now.line.now (sym c.in_ok-readings.ensures ∙ holds c.is_empty.result _ c.if-is_empty.true c.is_empty.ensures))

pub returns : goal.returns
returns c =
    ok_map c.in_clauses.result
    (λ found told parents form same is. paramodulation_answer c.args.search.now.sig.now parents form c.args.search.now.line.now c.args.search.now.clauses.now c.as_slice.result.now is same (c.as_slice.ensures ∙ c.in_ok-readings.ensures) found told) c.in_clauses.ensures
