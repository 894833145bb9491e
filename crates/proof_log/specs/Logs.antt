-- What it means that a text is no log, and that a log is nested too deep: the first byte at which this shows.
use Rattle.std.specs.Prelude.{◌≡◌, ◌<◌, ℕ, suc, List, [], ◌∷◌, ◌++◌, length, take}
use Rattle.first_fault.specs.Nesting.{Nested, plain, Within}
use Rattle.kernel.specs.declared.entry.Entry.{Entry}
use Rattle.proof_log.specs.Entries.{log_text, nested_log, AreLogged}

-- some log begins with these bytes
pub record BeginsLog (front : List (Nested ℕ)) : Type 0 where
  pub entries : List Entry
  pub logged : AreLogged entries
  pub later : List (Nested ℕ)
  pub is : nested_log entries ≡ front ++ later

-- Some log begins with the bytes before the offset, in which no tree is nested too deep. No log begins with the bytes
-- through the offset; where the offset is the end of the text, the text itself is no log.
pub record IsFirstFault (limit : ℕ) (text : List ℕ) (offset : ℕ) : Type 0 where
  pub front : List (Nested ℕ)
  pub begins : BeginsLog front
  pub within : Within limit front
  pub at : length front ≡ offset
  pub rest : List ℕ
  pub is : text ≡ plain front ++ rest
  pub through : (entries : List Entry) → AreLogged entries → take (suc offset) (log_text entries) ≡ take (suc offset) text → ⊥

-- Some log begins with the bytes through the offset. At the offset, and nowhere before it, begins a tree that is nested
-- too deep.
pub record IsFirstDeep (limit : ℕ) (text : List ℕ) (offset : ℕ) : Type 0 where
  pub front : List (Nested ℕ)
  pub byte : ℕ
  pub level : ℕ
  pub begins : BeginsLog (front ++ (byte, level) ∷ [])
  pub within : Within limit front
  pub deep : limit < level
  pub at : length front ≡ offset
  pub rest : List ℕ
  pub is : text ≡ plain front ++ byte ∷ rest
