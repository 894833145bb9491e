-- A run on a problem and a good derivation ends with status 0.
use Rattle.std.proofs.Common.{◌≡◌, inl, inr, ℕ, ◌-◌, List, Option, IfSome, ◌∙◌, ap, subst}
use Rattle.tptp_base.specs.Store.{Files}
use Rattle.fof_terms.specs.Vocabulary.{Vocabulary}
use Rattle.include_resolve.specs.declared.problem.Problem.{Problem}
use Rattle.sort_check.specs.declared.line.Line.{Line}
use Rattle.derivation_check.specs.Cases.{Asked}
use Rattle.derivation_check.specs.GoodCases.{IsGoodCase}
use Rattle.derivation_check.proofs.Ends.{good_not_stopped, good_verified}
use Rattle.derivation_text.specs.declared.derivation.Derivation.{Derivation}
use Rattle.derivation_text.proofs.OneDerivation.{one_derivation, derivation_wants}
use Rattle.tptp_run.specs.code.Answer.{with_log, IsAnswerWithLog}
use Rattle.read_problems.specs.Given.{given_theory}
use Rattle.read_problems.specs.Denoted.{AfterDenoted}
use Rattle.read_problems.specs.Ending.{Ending, AfterFile, IsAnswer}
use Rattle.tptp_run.specs.Ends.{EndsTask, Ends}
use Rattle.tptp_run.specs.GoodRuns.{AreGood, IsGoodText}
use Rattle.read_problems.specs.Sources.{given_names, conjecture_marks, has_conjecture}
use Rattle.tptp_run.specs.Verifying.{EndsVerify, SaysDerivation, asked_by, status_of}
use Rattle.tptp_commands.specs.Words.{Task, Verify, Request, IsForm}
use Rattle.read_problems.specs.declared.refusals.TheConstants.{TOTAL_SIZE}
use Rattle.read_problems.specs.declared.stop.Answer.{Answer}
use Rattle.read_problems.proofs.MarksFit.{marks_fit}
use Rattle.read_problems.proofs.OneProblem.{no_include_fault, no_sort_fault, one_meaning, one_problem}
use Rattle.tptp_run.proofs.OneVerify.{want_unsaid}
use Rattle.tptp_commands.proofs.Requests.{one_request}
use Rattle.read_problems.proofs.Stages.{if_map}

module _ (problem file : List ℕ) (limit : ℕ) (lines : List Line) (v : Vocabulary) (text : List ℕ) (ending : Ending) (good : IsGoodText problem limit lines v text) where
  text_good : SaysDerivation problem file limit (given_theory lines v) (given_names lines) (conjecture_marks lines) (has_conjecture lines) text ending → ending.status ≡ 0
  text_good (inl (fault, first, says)) = want_unsaid file fault ending (derivation_wants text (given_names lines) v good.d good.w fault good.is first) says
  text_good (inr (d, w, is, ends)) =
      let asked : Asked = asked_by problem text (conjecture_marks lines) (has_conjecture lines) limit in
      let same = one_derivation text (given_names lines) v good.d d good.w w good.is is in
      let case : IsGoodCase asked (given_theory lines v) d w =
      subst (λ (o : Derivation). IsGoodCase asked (given_theory lines v) o w) same.0 (subst (λ (o : Vocabulary). IsGoodCase asked (given_theory lines v) good.d o) same.1 good.good) in
      let graph = is.2.graph.is_graph in
      elim ends [
        | inl checked ↦ checked.status ∙ ap status_of (good_verified asked (given_theory lines v) d w checked.verified ending.out ending.log (marks_fit lines v) graph.order.in_turn graph.all case checked.checks)
        | inr lacks ↦ absurd (good_not_stopped asked (given_theory lines v) d w lacks.number ending.log graph.order.in_turn case lacks.stops)
      ]

module _ (files : Files) (root : Option (List ℕ)) (limit : ℕ) (problem file : List ℕ) (ending : Ending) (good : AreGood files root limit problem file) where
  abbrev Rest : Problem → List Line → Vocabulary → Type 0
  Rest whole lines v = AfterFile files file (TOTAL_SIZE - whole.read) (SaysDerivation problem file limit (given_theory lines v) (given_names lines) (conjecture_marks lines) (has_conjecture lines)) ending

  denoted_good : AfterDenoted good.whole (λ lines v. AfterFile files file (TOTAL_SIZE - good.whole.read) (SaysDerivation problem file limit (given_theory lines v) (given_names lines) (conjecture_marks lines) (has_conjecture lines))) ending → ending.status ≡ 0
  denoted_good (inl (fault, denotes, says)) = absurd (no_sort_fault good.whole.items fault good.lines good.v denotes good.denotes)
  denoted_good (inr (lines, v, denotes, after)) =
      let same = one_meaning good.whole.items lines good.lines v good.v denotes good.denotes in
      let rest : Rest good.whole good.lines good.v = subst (λ (ls : List Line). Rest good.whole ls good.v) same.0 (subst (λ (x : Vocabulary). Rest good.whole lines x) same.1 after) in
      text_good problem file limit good.lines good.v good.text ending good.good (rest.read good.text good.there good.fits)

  pub verify_good : EndsVerify files root limit problem file ending → ending.status ≡ 0
  verify_good (inl (fault, resolves, says)) = absurd (no_include_fault files root problem fault good.whole resolves good.resolves)
  verify_good (inr (whole, resolves, after)) =
      denoted_good
      (subst (λ (p : Problem). AfterDenoted p (λ lines v. AfterFile files file (TOTAL_SIZE - p.read) (SaysDerivation problem file limit (given_theory lines v) (given_names lines) (conjecture_marks lines) (has_conjecture lines))) ending)
      (one_problem files root problem whole good.whole resolves good.resolves) after)

ends_good : (files : Files) (words : List (List ℕ)) (request : Request) (problem derivation : List ℕ) (named : Option (List ℕ)) (ending : Ending) → Ends files words ending → IsForm words request → request.task ≡ Verify problem derivation named → AreGood files request.root request.limit problem derivation → ending.status ≡ 0
ends_good files words request problem derivation named ending (inl none) form is good = absurd (none.0 request form)
ends_good files words request problem derivation named ending (inr (other, found, ends)) form is good =
    let asks : Request → Type 0 = λ r. EndsTask files r.root r.limit r.task ending in
    let own : Task → Type 0 = λ task. EndsTask files request.root request.limit task ending in
    verify_good files request.root request.limit problem derivation ending good (subst own is (subst asks (one_request words other request found form) ends))

-- what the clause says
abbrev pub Good : Files → List (List ℕ) → ℕ → Type 0
Good files words status = (request : Request) → IsForm words request → (problem derivation : List ℕ) (named : Option (List ℕ)) → request.task ≡ Verify problem derivation named → AreGood files request.root request.limit problem derivation → status ≡ 0

pub answered_good : (told : Option Files) (words : List (List ℕ)) (answer : Answer) (old new : Option (List ℕ)) → IfSome told (λ files. IsAnswerWithLog (Ends files words) answer old new) → IsAnswer answer.status → IfSome told (λ files. Good files words answer.status)
answered_good told words answer old new ends is_answer =
    if_map told (λ files. IsAnswerWithLog (Ends files words) answer old new) (λ files. Good files words answer.status) ends
    (λ files is request form problem derivation named asked good. ends_good files words request problem derivation named (with_log answer is.0) is.2 form asked good)
