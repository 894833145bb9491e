use Rattle.std.proofs.Common.{not, ◌≡◌, ◌-◌, ◌<◌, ℕ, Some, None, length, is_some, get_or, slice_get, false, sym, ap, ◌∙◌, arith}
use Rattle.std.proofs.lemmas.Option.{slice_get-get_or}
use Rattle.clause_learning.specs.declared.trail.Step.{Step}
use Rattle.clause_learning.proofs.Marking.{none_of}
use Rattle.clause_learning.proofs.Cutting.{scanning_over, scanning_free}
use Rattle.clause_learning.proofs.retreating.cut.Goals as goal

nothing : Step
nothing = record { literal = record { atom = 0; positive = false }; reason = None }

pub steps-preserved-then-is_none : goal.steps-preserved-then-is_none
unfolding nothing
steps-preserved-then-is_none c =
    let steps = c.as_slice-steps.result.now in
    let place = c.steps.place in
    let i : ℕ = place - 1 in
    let h = c.steps.invariant in
    let within = h.within in
    let more = c.steps-test.true in
    let lt : i < length steps = omega (arith, within, more) in
    let at : slice_get steps i ≡ Some (get_or steps i nothing) = slice_get-get_or steps i nothing lt in
    scanning_free steps c.args.marks.now place i (get_or steps i nothing) at (omega (arith, more)) c.steps.keep h (sym c.has.ensures ∙ c.if-has.false)
    (let told = c.is_none.ensures in
    let yes = c.if-is_none.true in
    let off : is_some (get_or steps i nothing).reason ≡ false = told ∙ ap not yes in
    none_of (get_or steps i nothing).reason off)

pub steps-preserved : goal.steps-preserved
unfolding nothing
steps-preserved c =
    let steps = c.as_slice-steps.result.now in
    let place = c.steps.place in
    let i : ℕ = place - 1 in
    let h = c.steps.invariant in
    let within = h.within in
    let more = c.steps-test.true in
    let lt : i < length steps = omega (arith, within, more) in
    let at : slice_get steps i ≡ Some (get_or steps i nothing) = slice_get-get_or steps i nothing lt in
    scanning_over steps c.args.marks.now place i (get_or steps i nothing) at (omega (arith, more)) c.steps.keep h (sym c.has.ensures ∙ c.if-has.false)
