-- What stores and sinks in memory keep beside their bytes: how often they were called, and the numbers of the calls
-- that fail. The first call of a store or a sink is number 1.
use Rattle.std.specs.Prelude.{◌≡◌, ℕ, true, List, nat_eq}
use Rattle.std.specs.List.{list_any}
use Rattle.tptp_base.specs.declared.memory_sink.MemorySink.{MemorySink}
use Rattle.tptp_base.specs.declared.memory_store.MemoryStore.{MemoryStore}

-- how many reads there were
abbrev pub reads_made : MemoryStore → ℕ
reads_made store = store.calls

-- the numbers of the reads that fail
abbrev pub failing_reads : MemoryStore → List ℕ
failing_reads store = store.fail

-- how many writes there were
abbrev pub writes_made : MemorySink → ℕ
writes_made sink = sink.calls

-- the numbers of the writes that fail
abbrev pub failing_writes : MemorySink → List ℕ
failing_writes sink = sink.fail

-- the number is one of these
abbrev pub IsListed : List ℕ → ℕ → Type 0
IsListed numbers number = list_any (λ listed. nat_eq listed number) numbers ≡ true
