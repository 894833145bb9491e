use Rattle.std.proofs.Common.{◌≡◌, ◌++◌, ◌∷◌, [], length}
use Rattle.fi_model.specs.code.Adding.{told, listed}
use Rattle.fi_model.proofs.FillFacts.{Filling}
use Rattle.fi_model.proofs.tables.+fill.Given as goal

abbrev pub decreases-fill : goal.decreases-fill
decreases-fill l = length l.sizes.now

abbrev pub invariant-loop-element : goal.invariant-loop-element
invariant-loop-element l = record {
  key : l.key.items ≡ l.initial.key.items;
  filling : Filling (λ x. listed (told l.index) l.rest (l.initial.key.items ++ x ∷ [])) l.element l.initial.values l.values;
}
