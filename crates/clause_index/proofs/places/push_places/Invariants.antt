use Rattle.std.proofs.Common.{◌≡◌, ◌++◌, take}
use Rattle.clause_index.specs.code.Filing.{partner_places}
use Rattle.clause_index.proofs.places.push_places.Given as goal

abbrev pub invariant-loop-entry : goal.invariant-loop-entry
invariant-loop-entry l = l.places.items ≡ l.fn.places.items ++ partner_places l.positive l.keys
    (take l.entry-index l.entries)
