-- Lines that are inferred from one line alone: the rules for them ask that the formula of that line has a normal form.
use Rattle.std.specs.Prelude.{ℕ, ◌≡◌, Bool, false, List, [], ◌∷◌, Some, slice_get, take}
use Rattle.std.specs.List.{list_any}
use Rattle.step_clauses.specs.Wide.{is_large}
use Rattle.derivation_items.specs.declared.line.LineSource.{LineSource}
use Rattle.derivation_items.specs.declared.line.LineSource.TheVariants.{Given, Skolemized, ClauseOf, Inferred}
use Rattle.derivation_items.specs.declared.line.ProofLine.{ProofLine}
use Rattle.limited_items.specs.Sources.{lines_named}

-- it is inferred from one of those lines alone, and that one has no normal form
abbrev pub is_from_large : List ProofLine → LineSource → Bool
is_from_large earlier (Given name) = false
is_from_large earlier (Skolemized word) = false
is_from_large earlier (ClauseOf word) = false
is_from_large earlier (Inferred []) = false
is_from_large earlier (Inferred (word ∷ [])) = list_any is_large (lines_named earlier word)
is_from_large earlier (Inferred (word ∷ other ∷ words)) = false

-- no line is
abbrev pub HaveSmallPremises : List ProofLine → Type 0
HaveSmallPremises lines = (k : ℕ) (line : ProofLine) → slice_get lines k ≡ Some line → is_from_large (take k lines) line.source ≡ false
