use Rattle.clause_rules.specs.Answers.{resolution, paramodulation, eqfactor}
use Rattle.clause_rules.proofs.Firsts.{ok_map}
use Rattle.rule_steps.proofs.FirstRule.{extend, first, last}
use Rattle.rule_steps.proofs.recognising.among_clauses.Goals as goal

pub returns-in-Some : goal.returns-in-Some
returns-in-Some c = λ parents same form is below.
    first c.args.search.now.sig.now parents form resolution c.in_ok-resolution.resolution c.in-Some.just c.in-Some.is (c.in_ok-resolution.ensures parents form same is) below

pub returns-in-Some-paramodulation : goal.returns-in-Some-paramodulation
returns-in-Some-paramodulation c = λ parents same form is below.
    let v = c.args.search.now.sig.now in
    let resolved = c.in_ok-resolution.ensures parents form same is in
    let changed = c.in_ok-paramodulation.ensures parents form same is in
    first v parents form paramodulation c.in_ok-paramodulation.paramodulation c.in-Some-paramodulation.just c.in-Some-paramodulation.is changed (extend v parents form resolution c.in_ok-resolution.resolution c.in_default.is resolved below)

pub returns-in-Some-eqfactor : goal.returns-in-Some-eqfactor
returns-in-Some-eqfactor c = λ parents same form is below.
    let v = c.args.search.now.sig.now in
    let resolved = c.in_ok-resolution.ensures parents form same is in
    let changed = c.in_ok-paramodulation.ensures parents form same is in
    let factored = c.in_ok-eqfactor.ensures parents form same is in
    first v parents form eqfactor c.in_ok-eqfactor.eqfactor c.in-Some-eqfactor.just c.in-Some-eqfactor.is factored
    (extend v parents form paramodulation c.in_ok-paramodulation.paramodulation c.in_default-paramodulation.is changed (extend v parents form resolution c.in_ok-resolution.resolution c.in_default.is resolved below))

pub returns : goal.returns
returns c =
    ok_map c.rewrite_among.result
    (λ answer told parents same form is below.
    let v = c.args.search.now.sig.now in
    let resolved = c.in_ok-resolution.ensures parents form same is in
    let changed = c.in_ok-paramodulation.ensures parents form same is in
    let factored = c.in_ok-eqfactor.ensures parents form same is in
    last v parents form answer (told parents form same is)
    (extend v parents form eqfactor c.in_ok-eqfactor.eqfactor c.in_default-eqfactor.is factored
    (extend v parents form paramodulation c.in_ok-paramodulation.paramodulation c.in_default-paramodulation.is changed (extend v parents form resolution c.in_ok-resolution.resolution c.in_default.is resolved below))))
    c.rewrite_among.ensures
