-- The command `parse` counts the formulas of a problem without faults.
use Rattle.std.proofs.Common.{◌≡◌, inl, inr, ℕ, List, Option, Some, Ok, ◌∙◌, subst}
use Rattle.tptp_base.specs.Store.{Files}
use Rattle.fof_terms.specs.Vocabulary.{Vocabulary}
use Rattle.include_resolve.specs.declared.problem.Problem.{Problem}
use Rattle.include_resolve.specs.Resolved.{Resolves}
use Rattle.sort_check.specs.declared.line.Line.{Line}
use Rattle.sort_check.specs.declared.line.TextKind.TheVariants as kind
use Rattle.sort_check.specs.Texts.{denoted}
use Rattle.read_problems.specs.Denoted.{first_vocabulary}
use Rattle.read_problems.specs.Ending.{Ending}
use Rattle.tptp_run.specs.Ends.{EndsTask, Ends}
use Rattle.tptp_commands.specs.Parsed.{counted, formula_count}
use Rattle.tptp_commands.specs.Words.{Task, Parse, Request, IsForm}
use Rattle.tptp_commands.proofs.OneEnding.{parse_counts}
use Rattle.tptp_commands.proofs.Requests.{one_root, one_task}

pub run_counts : (files : Files) (words : List (List ℕ)) (request : Request) (file : List ℕ) (problem : Problem) (lines : List Line) (v : Vocabulary) (ending : Ending) → Ends files words ending → IsForm words request → request.task ≡ Parse file
    → Resolves (Some files) request.root file (Ok problem) → denoted problem.items first_vocabulary kind.Problem ≡ Ok (lines, v) → ending ≡ counted (formula_count problem.items)
run_counts files words request file problem lines v ending (inl none) form is resolves denotes = absurd (none.0 request form)
run_counts files words request file problem lines v ending (inr (other, found, ends)) form is resolves denotes =
    let of_root : Option (List ℕ) → Type 0 = λ root. EndsTask files root other.limit (Parse file) ending in
    let of_task : Task → Type 0 = λ task. EndsTask files other.root other.limit task ending in
    parse_counts files request.root file problem lines v ending resolves denotes (subst of_root (one_root words other request found form) (subst of_task (one_task words other request found form ∙ is) ends))
