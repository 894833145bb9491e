-- What cannot be refuted. Of a test that is made, as whether a report says that all is verified, it is as good as a
-- proof: where the test fails, what it tests for is refuted.

abbrev pub IsSure : Type 0 → Type 0
IsSure P = (P → ⊥) → ⊥
