-- How the command `format` ends: the file is missing or over a limit, or the first fault of its text is said, or the
-- canonical text of what it spells is written.
use Rattle.std.specs.Prelude.{◌≡◌, ℕ, List}
use Rattle.canon_print.specs.Canonical.{canonical_text}
use Rattle.tptp_base.specs.Store.{Files}
use Rattle.read_problems.specs.Ending.{Ending, says, AfterFile}
use Rattle.read_problems.specs.Spelled.{AfterItems}
use Rattle.read_problems.specs.declared.refusals.TheConstants.{TOTAL_SIZE}

-- what is said of the text of a file: its first fault, or the canonical text of what it spells
abbrev pub SaysText : List ℕ → List ℕ → Ending → Type 0
SaysText file text = AfterItems file text (λ items ending. ending ≡ says 0 (canonical_text items))

abbrev pub EndsFormat : Files → List ℕ → Ending → Type 0
EndsFormat files file = AfterFile files file TOTAL_SIZE (SaysText file)
