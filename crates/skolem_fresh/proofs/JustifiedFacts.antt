-- Lemmas on what specs/Justified defines.
use Rattle.std.specs.Prelude.{ℕ, ◌≡◌, List, Some, slice_get}
use Rattle.fof_terms.specs.declared.form.Form.{Form}
use Rattle.kernel.specs.Statements.{Statements}
use Rattle.skolem_fresh.specs.declared.just.SkolemJust.{SkolemJust}
use Rattle.skolem_fresh.specs.declared.just.SkolemJust.TheVariants.{Skolem, Choice}
use Rattle.skolem_fresh.specs.ChoiceRule.{Chooses, IsChoiceStep}
use Rattle.skolem_fresh.specs.SkolemRule.{Skolemizes, IsSkolemStep}
use Rattle.skolem_fresh.specs.Justified.{ShowsChoice, ShowsSkolem}

-- so the rule holds
pub choice_shown : (t : Statements) (line : Form) (just : SkolemJust) → ShowsChoice t line just → IsChoiceStep t line
choice_shown t line (Skolem parent uses) h = absurd h
choice_shown t line (Choice uses) h = (h.0, h.1, h.2, h.3, uses, h.4)

pub skolem_shown : (t : Statements) (parents : List Form) (line : Form) (just : SkolemJust) → ShowsSkolem t parents line just → IsSkolemStep t parents line
skolem_shown t parents line (Skolem i uses) h = (i, (h.0, h.1, h.2, uses, h.3, h.4))
skolem_shown t parents line (Choice uses) h = absurd h
