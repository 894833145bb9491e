-- The hypotheses in reach, number 0 first.
use Rattle.std.specs.Prelude.{ℕ, ◌+◌, List, ◌∷◌, reverse}
use Rattle.fof_terms.specs.declared.form.Form.{Form}
use Rattle.fof_terms.specs.Lift.{lifted}
use Rattle.kernel.specs.Proves.{all_over}
use Rattle.proof_check.specs.declared.context.Standing.{Standing}
use Rattle.proof_check.specs.declared.context.Hypotheses.{Hypotheses}
use Rattle.proof_check.specs.declared.context.Hypotheses.TheOpen.{Hypotheses-F, Outside, Under, Over}
use Rattle.proof_check.specs.declared.context.Hypotheses.TheFolds.{fold-Hypotheses}

abbrev pub hypotheses_step : Hypotheses-F (List Form) → List Form
hypotheses_step (Outside forms) = reverse forms.now
hypotheses_step (Under form outer) = form.now ∷ outer.now
hypotheses_step (Over outer) = all_over outer.now

-- the hypotheses in reach
unfoldable pub hypotheses : Hypotheses → List Form
hypotheses = fold-Hypotheses (List Form) hypotheses_step

abbrev pub crossed_step : Hypotheses-F ℕ → ℕ
crossed_step (Outside forms) = 0
crossed_step (Under form outer) = outer.now
crossed_step (Over outer) = outer.now + 1

-- how many variables were crossed since the outermost hypotheses
unfoldable pub crossed_in : Hypotheses → ℕ
crossed_in = fold-Hypotheses ℕ crossed_step

-- the formula over the variables that were crossed since
abbrev pub in_reach : Standing → Form
in_reach s = lifted s.crossed 0 s.form.now
