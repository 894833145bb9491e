-- A task that meets no fault succeeds.
use Rattle.std.proofs.Common.{◌≡◌, inl, inr, ℕ, ◌-◌, List, Option, Some, IfSome, Ok, Err, refl, ap, subst}
use Rattle.tptp_base.specs.Store.{Files}
use Rattle.kernel.specs.Statements.{Statements}
use Rattle.include_resolve.specs.declared.fault.IncludeFault.{IncludeFault}
use Rattle.include_resolve.specs.declared.problem.Problem.{Problem}
use Rattle.include_resolve.specs.Resolved.{Resolves}
use Rattle.sort_check.specs.declared.fault.SortFault.{SortFault}
use Rattle.sort_check.specs.declared.line.TextKind.TheVariants as kind
use Rattle.sort_check.specs.Texts.{denoted}
use Rattle.tptp_run.specs.code.Answer.{with_log, IsAnswerWithLog}
use Rattle.read_problems.specs.Given.{given_theory, IsGiven}
use Rattle.tptp_commands.specs.CheckedLog.{SaysLog, EndsCheck}
use Rattle.tptp_run.specs.Complete.{IsWellSpelled, IsWellSorted, IsRefutedByLog, MeetsNoFault}
use Rattle.read_problems.specs.Denoted.{first_vocabulary}
use Rattle.read_problems.specs.Ending.{Ending, AfterFile, IsAnswer}
use Rattle.tptp_run.specs.Ends.{EndsTask, Ends}
use Rattle.tptp_commands.specs.Formatted.{EndsFormat}
use Rattle.tptp_commands.specs.Parsed.{EndsParse}
use Rattle.tptp_commands.specs.Refuted.{HasRefutation}
use Rattle.tptp_commands.specs.Words.{Task, Verify, Format, Parse, Check, Make, Prove, Model, Request, IsForm}
use Rattle.read_problems.specs.declared.refusals.TheConstants.{TOTAL_SIZE}
use Rattle.read_problems.specs.declared.stop.Answer.{Answer}
use Rattle.tptp_commands.proofs.Exact.{log_exact}
use Rattle.tptp_run.proofs.GoodEnds.{verify_good}
use Rattle.tptp_commands.proofs.Modellings.{model_complete}
use Rattle.tptp_commands.proofs.OneEnding.{parse_counts}
use Rattle.tptp_commands.proofs.OneFormat.{format_writes}
use Rattle.read_problems.proofs.OneProblem.{one_given, no_include_fault, one_problem, no_sort_fault}
use Rattle.tptp_commands.proofs.Requests.{one_request}
use Rattle.read_problems.proofs.Stages.{if_map}

abbrev status : Ending → ℕ
status ending = ending.status

parse_given : (files : Files) (root : Option (List ℕ)) (file : List ℕ) (ending : Ending) (theory : Statements) (read : ℕ) → IsGiven (Some files) root file theory read → EndsParse files root file ending → ending.status ≡ 0
parse_given files root file ending theory read (problem, resolves, (lines, v, denotes, is), same) ends = ap status (parse_counts files root file problem lines v ending resolves denotes ends)

parse_complete : (files : Files) (root : Option (List ℕ)) (file : List ℕ) (ending : Ending) → IsWellSorted files root file → EndsParse files root file ending → ending.status ≡ 0
parse_complete files root file ending h ends = parse_given files root file ending h.theory h.read h.is ends

format_complete : (files : Files) (file : List ℕ) (ending : Ending) → IsWellSpelled files file → EndsFormat files file ending → ending.status ≡ 0
format_complete files file ending h ends = ap status (format_writes files file h.text h.items ending h.there h.fits h.spells ends)

module _ (files : Files) (root : Option (List ℕ)) (problem log : List ℕ) (ending : Ending) (h : IsRefutedByLog files root problem log) where
  log_complete : (theory : Statements) (read : ℕ) → IsGiven (Some files) root problem theory read → AfterFile files log (TOTAL_SIZE - read) (SaysLog theory) ending → ending.status ≡ 0
  log_complete theory read is after =
      let exact = log_exact files root problem log ending theory read is after in
      let same = one_given files root problem h.theory exact.theory h.read exact.read h.is exact.given in
      exact.always (subst (λ (n : ℕ). HasRefutation files log exact.theory n) same.1 (subst (λ (t : Statements). HasRefutation files log t h.read) same.0 h.refuted))

  -- no fault of the problem is met
  no_include : {R : Type 0} (theory : Statements) (read : ℕ) → IsGiven (Some files) root problem theory read → (fault : IncludeFault) → Resolves (Some files) root problem (Err fault) → R
  no_include theory read (whole, also, is, same) fault resolves = absurd (no_include_fault files root problem fault whole resolves also)

  no_sort : {R : Type 0} (theory : Statements) (read : ℕ) → IsGiven (Some files) root problem theory read → (whole : Problem) → Resolves (Some files) root problem (Ok whole) → (fault : SortFault) → denoted whole.items first_vocabulary kind.Problem ≡ Err fault → R
  no_sort theory read (other, also, (lines, v, means, is), count) whole resolves fault denotes =
      let same : other ≡ whole = one_problem files root problem other whole also resolves in
      absurd (no_sort_fault whole.items fault lines v denotes (subst (λ (p : Problem). denoted p.items first_vocabulary kind.Problem ≡ Ok (lines, v)) same means))

  check_complete : EndsCheck files root problem log ending → ending.status ≡ 0
  check_complete (inl (fault, resolves, says)) = no_include h.theory h.read h.is fault resolves
  check_complete (inr (whole, resolves, inl (fault, denotes, says))) = no_sort h.theory h.read h.is whole resolves fault denotes
  check_complete (inr (whole, resolves, inr (lines, v, denotes, after))) = log_complete (given_theory lines v) whole.read (whole, resolves, (lines, v, denotes, refl), refl) after

task_complete : (files : Files) (root : Option (List ℕ)) (limit : ℕ) (task : Task) (ending : Ending) → MeetsNoFault files root limit task → EndsTask files root limit task ending → ending.status ≡ 0
task_complete files root limit (Verify problem derivation named) ending h ends = verify_good files root limit problem derivation ending h ends
task_complete files root limit (Format file) ending h ends = format_complete files file ending h ends
task_complete files root limit (Parse file) ending h ends = parse_complete files root file ending h ends
task_complete files root limit (Check problem log) ending h ends = check_complete files root problem log ending h ends
task_complete files root limit (Make count) ending h ends = ends.status
task_complete files root limit (Prove problem) ending h ends = absurd h
task_complete files root limit (Model problem model) ending h ends = model_complete files root problem model ending h ends

ends_complete : (files : Files) (words : List (List ℕ)) (request : Request) (ending : Ending) → Ends files words ending → IsForm words request → MeetsNoFault files request.root request.limit request.task → ending.status ≡ 0
ends_complete files words request ending (inl none) form h = absurd (none.0 request form)
ends_complete files words request ending (inr (other, found, ends)) form h =
    let asks : Request → Type 0 = λ r. EndsTask files r.root r.limit r.task ending in
    task_complete files request.root request.limit request.task ending h (subst asks (one_request words other request found form) ends)

-- what the clause says
abbrev pub Complete : Files → List (List ℕ) → ℕ → Type 0
Complete files words status = (request : Request) → IsForm words request → MeetsNoFault files request.root request.limit request.task → status ≡ 0

pub answered_complete : (told : Option Files) (words : List (List ℕ)) (answer : Answer) (old new : Option (List ℕ)) → IfSome told (λ files. IsAnswerWithLog (Ends files words) answer old new) → IsAnswer answer.status → IfSome told (λ files. Complete files words answer.status)
answered_complete told words answer old new ends is_answer =
    if_map told (λ files. IsAnswerWithLog (Ends files words) answer old new) (λ files. Complete files words answer.status) ends
    (λ files is request form meets. ends_complete files words request (with_log answer is.0) is.2 form meets)
