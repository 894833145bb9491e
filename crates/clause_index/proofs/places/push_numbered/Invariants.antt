use Rattle.std.proofs.Common.{◌≡◌, ◌++◌, take}
use Rattle.clause_index.specs.code.Filing.{partner_places, numbered}
use Rattle.clause_index.proofs.places.push_numbered.Given as goal

abbrev pub invariant-loop-number : goal.invariant-loop-number
invariant-loop-number l = l.places.items ≡ l.fn.places.items ++ partner_places l.positive l.keys
    (numbered l.entries (take l.number-index l.numbers))
