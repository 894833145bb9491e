-- The steps of a derivation: lines that come from lines before them.
use Rattle.std.specs.Prelude.{ℕ, ◌≡◌, Bool, true, false, List, take}
use Rattle.fof_terms.specs.Vocabulary.{Vocabulary}
use Rattle.sort_check.specs.declared.line.GivenEntry.{GivenEntry}
use Rattle.elaborate.specs.ByRule.{rules}
use Rattle.verifier.specs.Good.{so_far, without_numbers}
use Rattle.limited_items.specs.Sources.{forms_given, source_forms}
use Rattle.derivation_items.specs.declared.line.LineSource.{LineSource}
use Rattle.derivation_items.specs.declared.line.LineSource.TheVariants.{Given, Skolemized, ClauseOf, Inferred}
use Rattle.derivation_items.specs.declared.line.ProofLine.{ProofLine}
use Rattle.derivation_order.specs.Cited.{forms_in}
use Rattle.derivation_order.specs.Graphs.{is_given}
use Rattle.derivation_order.specs.Links.{StandsAt}
use Rattle.derivation_follows.specs.Applied.{OneApplies}

-- some rule gives each step from the formulas that its source names, behind the lines before it
abbrev pub StepsApply : Vocabulary → List GivenEntry → List ProofLine → Type 0
StepsApply w given lines =
    (k : ℕ) (line : ProofLine) → StandsAt lines k line → is_given line.source ≡ false
    → OneApplies rules (so_far w (forms_given given) (forms_in (take k lines)))
    (without_numbers (source_forms given (take k lines) line.source)) line.form

abbrev pub is_inferred : LineSource → Bool
is_inferred (Given name) = false
is_inferred (Skolemized word) = false
is_inferred (ClauseOf word) = false
is_inferred (Inferred words) = true

-- some rule gives the steps that are inferred, or those that are not
abbrev pub StepsOfKindApply : Bool → Vocabulary → List GivenEntry → List ProofLine → Type 0
StepsOfKindApply kind w given lines =
    (k : ℕ) (line : ProofLine) → StandsAt lines k line → is_given line.source ≡ false → is_inferred line.source ≡ kind
    → OneApplies rules (so_far w (forms_given given) (forms_in (take k lines)))
    (without_numbers (source_forms given (take k lines) line.source)) line.form
