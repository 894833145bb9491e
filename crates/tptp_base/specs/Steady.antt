-- How much a read of a store that never fails gives.
use Rattle.std.specs.Prelude.{ℕ}
use Rattle.tptp_base.specs.declared.steady_store.SteadyStore.{SteadyStore}

-- the most bytes that a read gives
abbrev pub most_given : SteadyStore → ℕ
most_given store = store.most
