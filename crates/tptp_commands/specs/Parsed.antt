-- How the command `parse` ends: the first fault of the problem is said, with all that it includes, or how many formulas
-- it has.
use Rattle.std.specs.Prelude.{◌≡◌, ℕ, List, ◌++◌, codes, decimal, count_by}
use Rattle.std.specs.declared.option.Option.{Option}
use Rattle.tptp_base.specs.declared.item.Item.{Item}
use Rattle.tptp_base.specs.Store.{Files}
use Rattle.tstp_graph.specs.Lines.{is_formula}
use Rattle.read_problems.specs.Denoted.{AfterResolved, AfterDenoted}
use Rattle.read_problems.specs.Ending.{Ending, says}
use Rattle.szs_report.specs.Report.{text_line}

-- all annotated formulas, type lines included
abbrev pub formula_count : List Item → ℕ
formula_count items = count_by is_formula items

-- what is said of a problem without faults
abbrev pub counted : ℕ → Ending
counted count = says 0 (text_line (codes "ok " ++ (decimal count ++ codes " formulas")))

abbrev pub EndsParse : Files → Option (List ℕ) → List ℕ → Ending → Type 0
EndsParse files root file =
    AfterResolved files root file (λ problem.
    AfterDenoted problem (λ lines v ending. ending ≡ counted (formula_count problem.items)))
