use Rattle.std.proofs.Common.{◌<◌, ◌∙◌, ap, length, slice_get, subst, sym}
use Rattle.clause_rules.proofs.Firsts.{ok_map, there_at}
use Rattle.rule_steps.proofs.ParamodulationPlaces.{closed_lit, open_lit}
use Rattle.rule_steps.proofs.paramodulation_rule.at_lit.Goals as goal

pub returns-then-not-is_open : goal.returns-then-not-is_open
returns-then-not-is_open c = closed_lit c.args.search.now.sig.now c.args.search.now.clauses.now c.args.readings.now c.args.search.now.line.now c.args.a c.args.into.now c.requires.there c.args.i (c.in_ok-is_open.ensures c.if-not-is_open.true)

pub returns : goal.returns
returns c =
    let size = subst (λ ls. c.args.i < length ls) (sym c.as_slice-lits.ensures) c.requires.lit in
    ok_map c.at_sites.result
    (open_lit c.args.search.now.sig.now c.args.search.now.clauses.now c.args.readings.now c.args.search.now.line.now c.args.a c.args.into.now c.requires.there c.args.i c.index-lits-i.result c.as_slice.result.now
    (ap (λ ls. slice_get ls c.args.i) (sym c.as_slice-lits.ensures) ∙ there_at c.as_slice-lits.result.now c.args.i c.index-lits-i.result size c.index-lits-i.is) (c.as_slice.ensures ∙ c.in_ok-sites.ensures)) c.at_sites.ensures
