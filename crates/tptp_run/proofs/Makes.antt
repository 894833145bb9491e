-- How the command `make` ends, by what it meets in turn.
use Rattle.std.proofs.Common.{◌≡◌, inl, inr, ℕ, Bool, true, List, Option, None, Some, IfSome, Result, Ok, Err, sym, ◌∙◌, ap, subst, arith}
use Rattle.tptp_base.specs.Store.{Files}
use Rattle.tptp_base.specs.declared.name.Name.{Name}
use Rattle.fof_terms.specs.Vocabulary.{Vocabulary}
use Rattle.kernel.specs.Statements.{Statements}
use Rattle.derivation_check.specs.Checks.{Checks}
use Rattle.derivation_check.specs.Counts.{Counts}
use Rattle.derivation_check.specs.Logs.{TakesSomeOfLog}
use Rattle.derivation_check.specs.declared.checking.Report.{Report}
use Rattle.derivation_text.specs.Derivations.{IsDerivation}
use Rattle.derivation_text.specs.declared.derivation.Derivation.{Derivation}
use Rattle.read_problems.specs.Given.{given_theory}
use Rattle.read_problems.specs.Ending.{Ending, says, IsAnswer}
use Rattle.tptp_run.specs.Ends as Said
use Rattle.tptp_commands.specs.Made.{files, problem_name, derivation, summary}
use Rattle.tptp_run.specs.Making.{EndsMake}
use Rattle.tptp_run.specs.Outcome.{TakesSomeOfProblemLog, TakesSomeOfTaskLog, TakesSomeOfRunLog}
use Rattle.read_problems.specs.Sources.{given_names, conjecture_marks, has_conjecture, IsSource}
use Rattle.tptp_run.specs.Verifying.{asked_by}
use Rattle.tptp_commands.specs.Words.{Task, Make, Request, IsForm}
use Rattle.read_problems.specs.Answer.{ending_of}
use Rattle.tptp_run.specs.code.Answer.{with_log, IsAnswerWithLog}
use Rattle.tptp_run.specs.code.Making.{IsReportOn, IsWhole}
use Rattle.read_problems.specs.Stop.{IfAnswer}
use Rattle.read_problems.specs.declared.sources.Source.{Source}
use Rattle.read_problems.specs.declared.stop.Answer.{Answer}
use Rattle.read_problems.specs.declared.stop.Halt.{Halt}
use Rattle.read_problems.specs.declared.stop.Halt.TheVariants.{Refused, Stopped}

-- ---- the problem

pub source_made : (count : ℕ) (told : Option Files) (made : Files) (source : Source) → told ≡ Some made → made ≡ files count → IsSource told None problem_name source → IsSource (Some (files count)) None problem_name source
source_made count told made source tells is gives = subst (λ (o : Option Files). IsSource o None problem_name source) (tells ∙ ap (λ (fs : Files). Some fs) is) gives

pub made_logs : (count : ℕ) (source : Source) (old new : Option (List ℕ)) → IsSource (Some (files count)) None problem_name source → TakesSomeOfLog source.theory old new → TakesSomeOfProblemLog (files count) None problem_name old new
made_logs count source old new (problem, resolves, (lines, v, denotes, gives, read_is)) taken =
    inr (source.theory, source.read, (problem, resolves, (lines, v, denotes, gives.theory), read_is), taken)

-- ---- the derivation

module _ (count limit : ℕ) (source : Source) (text : List ℕ) (report : Report) (answer : Answer) (old new : Option (List ℕ)) where
  abbrev Counted : (d : Derivation) (w : Vocabulary) (log : List ℕ) → List ℕ → List Bool → Bool → Statements → Bool → Type 0
  Counted d w log output marks conjecture t verified = (checks : Checks (asked_by problem_name output marks conjecture limit) t d w verified report.text log) × Counts report checks.answers

  -- all is verified, and this is said
  pub made_ends : IsSource (Some (files count)) None problem_name source → text ≡ derivation count → IsReportOn problem_name text limit source.theory source.names source.signature source.marks source.has_conjecture report old new
      → IsWhole report count → ending_of answer ≡ says 0 (summary count) → IsAnswerWithLog (EndsMake count limit) answer old new
  made_ends (problem, resolves, (lines, v, denotes, gives, read_is)) text_is (d, w, is, (log, taken, checks, counts)) whole said =
      let marks = conjecture_marks lines in
      let conjecture = has_conjecture lines in
      let given = given_theory lines v in
      let all : Counted d w log (derivation count) marks conjecture given true =
      subst (λ (b : Bool). Counted d w log (derivation count) marks conjecture given b) whole.verified
      (subst (λ (t : Statements). Counted d w log (derivation count) marks conjecture t report.verified) gives.theory
      (subst (λ (b : Bool). Counted d w log (derivation count) marks b source.theory report.verified) gives.conjecture
      (subst (λ (ms : List Bool). Counted d w log (derivation count) ms source.has_conjecture source.theory report.verified) gives.marks
      (subst (λ (bytes : List ℕ). Counted d w log bytes source.marks source.has_conjecture source.theory report.verified) text_is (checks, counts))))) in
      let derived : IsDerivation (derivation count) (given_names lines) v d w =
      subst (λ (bytes : List ℕ). IsDerivation bytes (given_names lines) v d w) text_is
      (subst (λ (u : Vocabulary). IsDerivation text (given_names lines) u d w) gives.signature
      (subst (λ (names : List Name). IsDerivation text names source.signature d w) gives.names is)) in (
        log,
        taken,
        record {
          whole = problem;
          resolves = resolves;
          lines = lines;
          v = v;
          denotes = denotes;
          d = d;
          w = w;
          is = derived;
          report = report.text;
          checks = all.0;
          line_count = sym all.1.lines ∙ whole.lines;
          norms = sym all.1.norms ∙ whole.norms;
          resolutions = sym all.1.resolutions ∙ whole.resolutions;
          status = ap (λ (e : Ending). e.status) said;
          out = ap (λ (e : Ending). e.out) said;
        },
      )

-- ---- the words that ask for it

-- what is answered with status 0 is an answer, and says of no file that it is missing
pub zero_answer : (r : Result Answer Halt) → IfAnswer r (λ answer. answer.status ≡ 0) → IfAnswer r (λ answer. IsAnswer answer.status)
zero_answer (Ok answer) zero = inl (omega (arith, zero))
zero_answer (Err (Refused answer)) zero = inl (omega (arith, zero))
zero_answer (Err (Stopped stop)) zero = tt

pub zero_absence : (r : Result Answer Halt) (P : Answer → Type 0) → IfAnswer r (λ answer. answer.status ≡ 0) → IfAnswer r (λ answer. answer.status ≡ 3 → P answer)
zero_absence (Ok answer) P zero = λ three. absurd (omega (arith, zero, three))
zero_absence (Err (Refused answer)) P zero = λ three. absurd (omega (arith, zero, three))
zero_absence (Err (Stopped stop)) P zero = tt

module _ (words : List (List ℕ)) (request : Request) (count : ℕ) (form : IsForm words request) (is : request.task ≡ Make count) where
  asked_one : (told : Option Files) (answer : Answer) (old new : Option (List ℕ)) → IsAnswerWithLog (EndsMake count request.limit) answer old new → IfSome told (λ files. IsAnswerWithLog (Said.Ends files words) answer old new)
  asked_one None answer old new ends = tt
  asked_one (Some fs) answer old new (log, taken, ends) = (log, taken, inr (request, form, subst (λ (task : Task). Said.EndsTask fs request.root request.limit task (with_log answer log)) (sym is) ends))

  pub make_asked : (told : Option Files) (r : Result Answer Halt) (old new : Option (List ℕ)) → IfAnswer r (λ answer. IsAnswerWithLog (EndsMake count request.limit) answer old new) → IfAnswer r (λ answer. IfSome told (λ files. IsAnswerWithLog (Said.Ends files words) answer old new))
  make_asked told (Ok answer) old new ends = asked_one told answer old new ends
  make_asked told (Err (Refused answer)) old new ends = asked_one told answer old new ends
  make_asked told (Err (Stopped stop)) old new ends = tt

  pub make_logged : (told : Option Files) (old new : Option (List ℕ)) → TakesSomeOfProblemLog (files count) None problem_name old new → IfSome told (λ files. TakesSomeOfRunLog files words old new)
  make_logged None old new taken = tt
  make_logged (Some fs) old new taken = inr (request, form, subst (λ (task : Task). TakesSomeOfTaskLog fs request.root task old new) (sym is) taken)
