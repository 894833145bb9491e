use Rattle.std.proofs.Common.{◌≡◌, [], map, take, drop}
use Rattle.fi_model.specs.Models.{again}
use Rattle.fi_model.proofs.domains.elements.Given as goal

abbrev pub invariant-loop-element : goal.invariant-loop-element
invariant-loop-element l = record {
  are : l.elements ≡ map (λ e. e.name) (take l.element-index l.stated);
  so_far : again [] (map (λ e. e.name) l.stated) ≡ again l.elements (map (λ e. e.name) (drop l.element-index l.stated));
}
