-- What the command `prove` prints, as the SZS ontology presents a refutation (Sutcliffe, The SZS ontologies): the items
-- of a derivation between two lines, behind a line with the status.
use Rattle.std.specs.Prelude.{ℕ, List, ◌++◌, codes}
use Rattle.tptp_base.specs.declared.item.Item.{Item}
use Rattle.tptp_base.specs.declared.limit.LimitName.{LimitName}
use Rattle.canon_print.specs.Canonical.{canonical_text}
use Rattle.derivation_items.specs.Words.{printable_text}
use Rattle.szs_report.specs.Report.{text_line}
use Rattle.read_problems.specs.Ending.{Ending, says, over_limit}

-- the end of a line that names a file
abbrev pub line_end : List ℕ → List ℕ
line_end file = codes " for " ++ text_line file

-- a line that says this and names the file
abbrev pub szs_line : List ℕ → List ℕ → List ℕ
szs_line file what = what ++ line_end file

-- the line that names the status and the file
abbrev pub status_line : List ℕ → List ℕ → List ℕ
status_line file status = szs_line file (codes "% SZS status " ++ status)

-- the lines before a derivation
abbrev pub head : List ℕ → List ℕ → List ℕ
head file status = status_line file status ++ szs_line file (codes "% SZS output start CNFRefutation")

-- the text of a derivation between such lines
abbrev pub between_lines : List ℕ → List ℕ → List ℕ → List ℕ
between_lines file status derivation =
    head file status ++ (derivation ++ szs_line file (codes "% SZS output end CNFRefutation"))

-- The items of a derivation from the problem in the file, whose status is that word. In the name of the file a question
-- mark stands for each byte that no line can hold.
abbrev pub proof_text : List ℕ → List ℕ → List Item → List ℕ
proof_text file status items = between_lines (printable_text file) status (canonical_text items)

-- no derivation is found, for that reason
abbrev pub not_proved : List ℕ → Ending
not_proved reason = says 1 (text_line (codes "not proved: " ++ reason))

-- a derivation from the problem in the file is over the limit
abbrev pub is_over : List ℕ → LimitName → Ending
is_over file limit = over_limit (printable_text file) limit
