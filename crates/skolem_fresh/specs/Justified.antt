-- What a justification shows: that its rule holds, by its functions.
use Rattle.std.specs.Prelude.{ℕ, ◌≡◌, List, Some, slice_get}
use Rattle.fof_terms.specs.declared.form.Form.{Form}
use Rattle.kernel.specs.Statements.{Statements}
use Rattle.skolem_fresh.specs.declared.just.SkolemJust.{SkolemJust}
use Rattle.skolem_fresh.specs.declared.just.SkolemJust.TheVariants.{Skolem, Choice}
use Rattle.skolem_fresh.specs.ChoiceRule.{Chooses}
use Rattle.skolem_fresh.specs.SkolemRule.{Skolemizes}

-- it shows that rule choice gives the line
abbrev pub ShowsChoice : Statements → Form → SkolemJust → Type 0
ShowsChoice t line (Skolem parent uses) = ⊥
ShowsChoice t line (Choice uses) = (sorts : List ℕ) × (left right : Form) × (k : ℕ) × Chooses t line sorts left right k uses

-- it shows that rule skolem gives the line from the parents
abbrev pub ShowsSkolem : Statements → List Form → Form → SkolemJust → Type 0
ShowsSkolem t parents line (Skolem i uses) = (parent norm result : Form) × (slice_get parents i ≡ Some parent) × Skolemizes t parent line norm result uses
ShowsSkolem t parents line (Choice uses) = ⊥
