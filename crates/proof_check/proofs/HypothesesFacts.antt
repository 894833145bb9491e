-- Lemmas on what specs/code/Hypotheses defines.
use Rattle.std.specs.Prelude.{ℕ, ◌+◌, List, ◌∷◌, ◌≡◌, reverse}
use Rattle.std.specs.Borrow.{Bor}
use Rattle.fof_terms.specs.declared.form.Form.{Form}
use Rattle.kernel.specs.Proves.{all_over}
use Rattle.proof_check.specs.declared.context.Hypotheses.{Hypotheses, Outside as outside, Under as under, Over as crossed}
use Rattle.proof_check.specs.declared.context.Hypotheses.TheOpen.{Hypotheses-F, Outside, Under, Over}
use Rattle.proof_check.specs.declared.context.Hypotheses.TheViews.{roll-Hypotheses}
use Rattle.proof_check.specs.declared.context.Hypotheses.TheFolds.{fold-Hypotheses, fold-roll-Hypotheses}
use denote.Hole.Carrier.{roll}
use Rattle.proof_check.specs.code.Hypotheses.{hypotheses_step, hypotheses, crossed_step, crossed_in}

-- The equations of these words.
pub hypotheses-Outside : (forms : Bor (List Form)) → hypotheses (outside forms) ≡ reverse forms.now
unfolding hypotheses roll-Hypotheses roll
hypotheses-Outside forms = fold-roll-Hypotheses (List Form) hypotheses_step (Outside forms)

pub hypotheses-Under : (form : Bor Form) (outer : Bor Hypotheses) → hypotheses (under form outer) ≡ form.now ∷ hypotheses outer.now
unfolding hypotheses roll-Hypotheses roll
hypotheses-Under form outer = fold-roll-Hypotheses (List Form) hypotheses_step (Under form outer)

pub hypotheses-Over : (outer : Bor Hypotheses) → hypotheses (crossed outer) ≡ all_over (hypotheses outer.now)
unfolding hypotheses roll-Hypotheses roll
hypotheses-Over outer = fold-roll-Hypotheses (List Form) hypotheses_step (Over outer)

pub crossed_in-Outside : (forms : Bor (List Form)) → crossed_in (outside forms) ≡ 0
unfolding crossed_in roll-Hypotheses roll
crossed_in-Outside forms = fold-roll-Hypotheses ℕ crossed_step (Outside forms)

pub crossed_in-Under : (form : Bor Form) (outer : Bor Hypotheses) → crossed_in (under form outer) ≡ crossed_in outer.now
unfolding crossed_in roll-Hypotheses roll
crossed_in-Under form outer = fold-roll-Hypotheses ℕ crossed_step (Under form outer)

pub crossed_in-Over : (outer : Bor Hypotheses) → crossed_in (crossed outer) ≡ crossed_in outer.now + 1
unfolding crossed_in roll-Hypotheses roll
crossed_in-Over outer = fold-roll-Hypotheses ℕ crossed_step (Over outer)

pub ruleset hypotheses_equations = (hypotheses-Outside, hypotheses-Under, hypotheses-Over, crossed_in-Outside, crossed_in-Under, crossed_in-Over)
