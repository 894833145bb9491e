use Rattle.std.proofs.Common.{◌≡◌, take, Some}
use Rattle.fi_model.specs.Models.{places}
use Rattle.fi_model.proofs.rows.places.Given as goal

abbrev pub invariant-loop-i : goal.invariant-loop-i
invariant-loop-i l = places l.domains (take l.i l.sorts) (take l.i l.elements) ≡ Some l.found
