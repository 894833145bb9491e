use Rattle.std.proofs.Common.{rules, ◌≡◌, ◌∙◌, sym, slice_get, Some}
use Rattle.std.specs.Option.{option_map}
use Rattle.fof_terms.specs.Lift.{lifted}
use Rattle.proof_check.specs.code.Hypotheses.{hypotheses, in_reach}
use Rattle.proof_check.proofs.Lifts.{found_same, found_fits}
use Rattle.proof_check.proofs.context.hypothesis.Goals as goal

pub over_crossed-requires : goal.over_crossed-requires
over_crossed-requires c =
    let told : Some (in_reach c.in-Some.found) ≡ option_map (lifted 0 0) (slice_get (hypotheses c.args.hyps.now) c.args.number) = rw c.in-Some.is at c.find.ensures in
    found_fits (hypotheses c.args.hyps.now) c.args.number c.in-Some.found.crossed c.in-Some.found.form.now c.requires.fits (sym (told ∙ found_same (slice_get (hypotheses c.args.hyps.now) c.args.number)))

pub returns-in_ok-over_crossed-in-Some : goal.returns-in_ok-over_crossed-in-Some
returns-in_ok-over_crossed-in-Some c =
    let told : Some (in_reach c.in-Some.found) ≡ option_map (lifted 0 0) (slice_get (hypotheses c.args.hyps.now) c.args.number) = rw c.in-Some.is at c.find.ensures in
    let moved : Some c.in_ok-over_crossed-in-Some.field-0 ≡ Some (in_reach c.in-Some.found) = search (rules, c.in_ok-over_crossed-in-Some.ensures) in
    moved ∙ (told ∙ found_same (slice_get (hypotheses c.args.hyps.now) c.args.number))
