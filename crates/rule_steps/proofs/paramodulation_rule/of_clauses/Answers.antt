use Rattle.std.proofs.Common.{Some, None, subst}
use Rattle.substitution_search.specs.Screens.{NeverOthers}
use Rattle.rule_steps.proofs.Changing.{never_from}
use Rattle.rule_steps.proofs.ParamodulationCode.{spot_as, equation_as}
use Rattle.rule_steps.proofs.ParamodulationEnds.{no_equation, no_heads}
use Rattle.rule_steps.proofs.paramodulation_rule.of_clauses.Goals as goal

pub returns-then-not-may_meet : goal.returns-then-not-may_meet
returns-then-not-may_meet c =
    let at = spot_as c.args.into.now.lits c.as_slice.result.now c.args.site.now.at c.as_slice-2.result.now c.args.site.now.lit (Some c.in-Some.spot) c.as_slice.ensures c.as_slice-2.ensures c.in-Some.ensures in
    let over = equation_as c.args.from.now.lits c.as_slice-in-Some.result.now c.args.reading.now.lit c.args.reading.now.flipped (Some c.in-Some-equation_in.sides) c.as_slice-in-Some.ensures c.in-Some-equation_in.ensures in
    λ more s h. no_heads c.args.search.now.sig.now c.args.into.now c.args.from.now c.args.search.now.line.now c.args.site.now.lit c.args.reading.now.lit c.args.site.now.at c.args.reading.now.flipped more s h
    c.in-Some.spot.lit.now c.in-Some.spot.term.now c.in-Some-equation_in.sides.left.now c.in-Some-equation_in.sides.right.now at.0 at.1 over (c.may_meet.ensures c.if-not-may_meet.true)

pub returns-then-not-may_others_be_covered : goal.returns-then-not-may_others_be_covered
returns-then-not-may_others_be_covered c =
    never_from c.args.search.now.sig.now c.args.into.now c.args.from.now c.args.search.now.line.now c.args.site.now.lit c.args.site.now.at c.args.reading.now.lit c.args.reading.now.flipped
    (subst (λ ls. NeverOthers ls c.args.from.now.lits c.args.reading.now.lit) c.as_slice-line.ensures (subst (λ ls. NeverOthers c.as_slice-line.result.now ls c.args.reading.now.lit) c.as_slice-in-Some-equation_in.ensures (c.may_others_be_covered.ensures c.if-not-may_others_be_covered.true)))

pub of_joint-requires-clause-place : goal.of_joint-requires-clause-place
of_joint-requires-clause-place c =
    let at = spot_as c.args.into.now.lits c.as_slice.result.now c.args.site.now.at c.as_slice-2.result.now c.args.site.now.lit (Some c.in-Some.spot) c.as_slice.ensures c.as_slice-2.ensures c.in-Some.ensures in
    record { lit = c.in-Some.spot.lit.now; term = c.in-Some.spot.term.now; there = at.0; stands = at.1 }

pub returns-in-None-equation_in : goal.returns-in-None-equation_in
returns-in-None-equation_in c = λ more s h.
    no_equation c.args.search.now.sig.now c.args.into.now c.args.from.now c.args.search.now.line.now c.args.site.now.lit c.args.reading.now.lit c.args.site.now.at c.args.reading.now.flipped more s h
    (equation_as c.args.from.now.lits c.as_slice-in-Some.result.now c.args.reading.now.lit c.args.reading.now.flipped None c.as_slice-in-Some.ensures c.in-None-equation_in.ensures)
