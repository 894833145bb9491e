-- How the command `verify` ends, by what it meets in turn.
use Rattle.std.specs.Prelude.{IfOk}
use Rattle.std.proofs.Common.{◌≡◌, inl, inr, ℕ, ◌-◌, ◌<◌, ◌≤◌, Bool, List, [], length, Option, None, Some, IfSome, Result, Ok, Err, refl, sym, ◌∙◌, ap, subst, arith}
use Rattle.std.proofs.lemmas.Option.{slice_get_within}
use Rattle.tptp_base.specs.Count.{Rose}
use Rattle.tptp_base.specs.Store.{Files, HasFile}
use Rattle.tptp_base.specs.declared.name.Name.{Name}
use Rattle.tptp_base.specs.declared.read.TheConstants.{FILE_SIZE}
use Rattle.tptp_base.proofs.Taken.{takes_nothing}
use Rattle.fof_terms.specs.Vocabulary.{Vocabulary}
use Rattle.kernel.specs.Statements.{Statements}
use Rattle.derivation_check.specs.Cases.{Asked}
use Rattle.derivation_check.specs.Checks.{Checks}
use Rattle.derivation_check.specs.Logs.{ChecksWithLog, StopsWithLog, TakesSomeOfLog}
use Rattle.derivation_check.specs.declared.checking.Report.{Report}
use Rattle.derivation_text.specs.Derivations.{IsDerivation}
use Rattle.derivation_text.specs.declared.derivation.Derivation.{Derivation}
use Rattle.read_problems.specs.Answer.{ending_of}
use Rattle.tptp_run.specs.code.Answer.{with_log, IsAnswerWithLog}
use Rattle.read_problems.specs.Given.{given_theory}
use Rattle.read_problems.specs.Denoted.{IsProblemRefusal}
use Rattle.tptp_commands.specs.Derived.{IsDerivationRefusal}
use Rattle.read_problems.specs.Ending.{Ending, AfterFile, IsReadRefusal}
use Rattle.tptp_run.specs.Ends as Said
use Rattle.tptp_run.specs.Outcome.{TakesSomeOfProblemLog, TakesSomeOfTaskLog, TakesSomeOfRunLog}
use Rattle.tptp_run.specs.code.Rooms.{SaysLacking}
use Rattle.read_problems.specs.Sources.{IsSource, given_names, conjecture_marks, has_conjecture}
use Rattle.read_problems.specs.Stop.{HasCause, IfAnswer, IfRefused, IfStopped}
use Rattle.tptp_run.specs.Verifying.{EndsRun, EndsVerify, SaysDerivation, asked_by, status_of}
use Rattle.tptp_commands.specs.Words.{Task, Verify, Request, IsForm}
use Rattle.read_problems.specs.declared.refusals.TheConstants.{TOTAL_SIZE}
use Rattle.read_problems.specs.declared.sources.Source.{Source}
use Rattle.read_problems.specs.declared.stop.Answer.{Answer}
use Rattle.read_problems.specs.declared.stop.Halt.{Halt}
use Rattle.read_problems.specs.declared.stop.Halt.TheVariants.{Refused, Stopped}
use Rattle.read_problems.specs.declared.stop.Stop.{Stop}
use Rattle.read_problems.specs.declared.stop.Stop.TheVariants.{Store, Sink, Memory}
use Rattle.read_problems.proofs.Stages.{after_read, after_refused, if_told, if_map}

-- ---- the report

module _ (asked : Asked) (file : List ℕ) (t : Statements) (d : Derivation) (w : Vocabulary) (answer : Answer) (old new : Option (List ℕ)) where
  -- the report of a check ends the command
  pub report_ends : (report : Report) → ChecksWithLog asked t d w report old new → answer.status ≡ status_of report.verified → answer.text ≡ report.text → IsAnswerWithLog (EndsRun asked file t d w) answer old new
  report_ends report (log, taken, checks, counts) status text =
      (log, taken, inl (record { verified = report.verified; status = status; checks = subst (λ (out : List ℕ). Checks asked t d w report.verified out log) (sym text) checks }))

  -- or a line for which there is no room
  pub room_ends : (number : ℕ) → StopsWithLog asked t d w old new number → SaysLacking file d.names d.places number (ending_of answer) → IsAnswerWithLog (EndsRun asked file t d w) answer old new
  room_ends number (log, taken, stops) says = (
    log,
    taken,
    inr (record {
      number = number;
      name = says.name;
      named = says.named;
      place = says.place;
      placed = says.placed;
      status = ap (λ (e : Ending). e.status) says.is;
      out = ap (λ (e : Ending). e.out) says.is;
      stops = stops;
    }),
  )

-- the same of what a call says
pub room_said : (asked : Asked) (file : List ℕ) (t : Statements) (d : Derivation) (w : Vocabulary) (old new : Option (List ℕ)) (number : ℕ) (r : Result Answer Stop) → StopsWithLog asked t d w old new number → IfOk r (λ answer. SaysLacking file d.names d.places number (ending_of answer)) → IfOk r (λ answer. IsAnswerWithLog (EndsRun asked file t d w) answer old new)
room_said asked file t d w old new number (Ok answer) stops says = room_ends asked file t d w answer old new number stops says
room_said asked file t d w old new number (Err stop) stops says = tt

-- the line for which there is no room is there
pub stops_within : (asked : Asked) (t : Statements) (d : Derivation) (w : Vocabulary) (old new : Option (List ℕ)) (number : ℕ) → StopsWithLog asked t d w old new number → number < length d.graph.nodes
stops_within asked t d w old new number (log, taken, stops) = slice_get_within d.graph.nodes number stops.stopped.lacks.line.node stops.stopped.lacks.there.node

-- ---- the text of a derivation

module _ (problem file text : List ℕ) (limit : ℕ) (t : Statements) (names : List Name) (marks : List Bool) (conjecture : Bool) where
  abbrev pub Says : Ending → Type 0
  Says = SaysDerivation problem file limit t names marks conjecture text

  -- a refusal
  pub text_refused : (T : Type 0) (halt : Halt) (v : Vocabulary) (log : Option (List ℕ)) → t.vocabulary ≡ v → IfRefused {T = T} (Err halt) (λ answer. IsDerivationRefusal file text names v (ending_of answer)) → IfAnswer (Err halt) (λ answer. IsAnswerWithLog Says answer log log)
  text_refused T (Refused answer) v log same refused = ([], takes_nothing log, inl (subst (λ (u : Vocabulary). IsDerivationRefusal file text names u (ending_of answer)) (sym same) refused))
  text_refused T (Stopped stop) v log same refused = tt

  -- a derivation, and what is answered of it
  pub text_answered : (answer : Answer) (d : Derivation) (v w : Vocabulary) (old new : Option (List ℕ)) → t.vocabulary ≡ v → IsDerivation text names v d w → IsAnswerWithLog (EndsRun (asked_by problem text marks conjecture limit) file t d w) answer old new → IsAnswerWithLog Says answer old new
  text_answered answer d v w old new same is (log, taken, ends) = (log, taken, inr (d, w, subst (λ (u : Vocabulary). IsDerivation text names u d w) (sym same) is, ends))

-- ---- the file of a derivation

module _ (told : Option Files) (file : List ℕ) (budget : ℕ) (P : List ℕ → Ending → Type 0) where
  abbrev pub After : Answer → Option (List ℕ) → Option (List ℕ) → Type 0
  After answer old new = IfSome told (λ files. IsAnswerWithLog (AfterFile files file budget P) answer old new)

  pub file_refused : (T : Type 0) (halt : Halt) (log : Option (List ℕ)) → IfRefused {T = T} (Err halt) (λ answer. IfSome told (λ files. IsReadRefusal files file budget (ending_of answer))) → IfAnswer (Err halt) (λ answer. After answer log log)
  file_refused T (Refused answer) log refused =
      if_map told (λ files. AfterFile files file budget P (ending_of answer)) (λ files. IsAnswerWithLog (AfterFile files file budget P) answer log log) (after_refused told file budget (λ files. P) (ending_of answer) refused) (λ files after. ([], takes_nothing log, after))
  file_refused T (Stopped stop) log refused = tt

  read_said : (text : List ℕ) (answer : Answer) (old new : Option (List ℕ)) → HasFile told file (λ bytes. bytes ≡ text) → length text ≤ budget → length text ≤ FILE_SIZE → IsAnswerWithLog (P text) answer old new → After answer old new
  read_said text answer old new has in_budget in_limit (log, taken, said) =
      if_map told (λ files. AfterFile files file budget P (with_log answer log)) (λ files. IsAnswerWithLog (AfterFile files file budget P) answer old new)
      (after_read told file budget text (λ files. P) (with_log answer log) has in_budget in_limit (if_told told said)) (λ files after. (log, taken, after))

  pub file_said : (text : List ℕ) (r : Result Answer Halt) (old new : Option (List ℕ)) → HasFile told file (λ bytes. bytes ≡ text) → length text ≤ budget → length text ≤ FILE_SIZE → IfAnswer r (λ answer. IsAnswerWithLog (P text) answer old new) → IfAnswer r (λ answer. After answer old new)
  file_said text (Ok answer) old new has in_budget in_limit said = read_said text answer old new has in_budget in_limit said
  file_said text (Err (Refused answer)) old new has in_budget in_limit said = read_said text answer old new has in_budget in_limit said
  file_said text (Err (Stopped stop)) old new has in_budget in_limit said = tt

-- ---- the whole command

module _ (root : Option (List ℕ)) (limit : ℕ) (problem file : List ℕ) where
  abbrev Ends : Option Files → Answer → Option (List ℕ) → Option (List ℕ) → Type 0
  Ends told answer old new = IfSome told (λ files. IsAnswerWithLog (EndsVerify files root limit problem file) answer old new)

  refused_here : (told : Option Files) (answer : Answer) (log : Option (List ℕ)) → IsProblemRefusal told root problem (ending_of answer) → Ends told answer log log
  refused_here None answer log refused = tt
  refused_here (Some files) answer log (inl refused) = ([], takes_nothing log, inl refused)
  refused_here (Some files) answer log (inr (whole, resolves, refused)) = ([], takes_nothing log, inr (whole, resolves, inl refused))

  -- the problem is refused
  pub problem_refused : (T : Type 0) (halt : Halt) (told : Option Files) (log : Option (List ℕ)) → IfRefused {T = T} (Err halt) (λ answer. IsProblemRefusal told root problem (ending_of answer)) → IfAnswer (Err halt) (λ answer. Ends told answer log log)
  problem_refused T (Refused answer) told log refused = refused_here told answer log refused
  problem_refused T (Stopped stop) told log refused = tt

  module _ (source : Source) where
    abbrev pub Rest : List ℕ → Ending → Type 0
    Rest = SaysDerivation problem file limit source.theory source.names source.marks source.has_conjecture

    source_then : (told : Option Files) (answer : Answer) (old new : Option (List ℕ)) → IsSource told root problem source → IfSome told (λ files. IsAnswerWithLog (AfterFile files file (TOTAL_SIZE - source.read) Rest) answer old new) → Ends told answer old new
    source_then None answer old new is after = tt
    source_then (Some files) answer old new (whole, resolves, (lines, v, denotes, gives, read_is)) (log, taken, after) =
        let ending : Ending = with_log answer log in
        let of_read : ℕ → Type 0 = λ n. AfterFile files file (TOTAL_SIZE - n) (SaysDerivation problem file limit (given_theory lines v) (given_names lines) (conjecture_marks lines) (has_conjecture lines)) ending in
        let of_theory : Statements → Type 0 = λ t. AfterFile files file (TOTAL_SIZE - source.read) (SaysDerivation problem file limit t (given_names lines) (conjecture_marks lines) (has_conjecture lines)) ending in
        let of_names : List Name → Type 0 = λ ns. AfterFile files file (TOTAL_SIZE - source.read) (SaysDerivation problem file limit source.theory ns (conjecture_marks lines) (has_conjecture lines)) ending in
        let of_marks : List Bool → Type 0 = λ ms. AfterFile files file (TOTAL_SIZE - source.read) (SaysDerivation problem file limit source.theory source.names ms (has_conjecture lines)) ending in
        let of_conjecture : Bool → Type 0 = λ b. AfterFile files file (TOTAL_SIZE - source.read) (SaysDerivation problem file limit source.theory source.names source.marks b) ending in
        (log, taken, inr (whole, resolves, inr (lines, v, denotes, subst of_read read_is (subst of_theory gives.theory (subst of_names gives.names (subst of_marks gives.marks (subst of_conjecture gives.conjecture after)))))))

    -- the derivation's file is looked at
    pub source_ends : (told later : Option Files) (r : Result Answer Halt) (old new : Option (List ℕ)) → IsSource told root problem source → later ≡ told
        → IfAnswer r (λ answer. IfSome later (λ files. IsAnswerWithLog (AfterFile files file (TOTAL_SIZE - source.read) Rest) answer old new)) → IfAnswer r (λ answer. Ends told answer old new)
    source_ends told later (Ok answer) old new is same after = source_then told answer old new is (subst (λ (files : Option Files). IfSome files (λ fs. IsAnswerWithLog (AfterFile fs file (TOTAL_SIZE - source.read) Rest) answer old new)) same after)
    source_ends told later (Err (Refused answer)) old new is same after = source_then told answer old new is (subst (λ (files : Option Files). IfSome files (λ fs. IsAnswerWithLog (AfterFile fs file (TOTAL_SIZE - source.read) Rest) answer old new)) same after)
    source_ends told later (Err (Stopped stop)) old new is same after = tt

    pub source_logged : (told : Option Files) (old new : Option (List ℕ)) → IsSource told root problem source → TakesSomeOfLog source.theory old new → IfSome told (λ files. TakesSomeOfProblemLog files root problem old new)
    source_logged None old new is taken = tt
    source_logged (Some files) old new (whole, resolves, (lines, v, denotes, gives, read_is)) taken =
        inr (source.theory, source.read, (whole, resolves, (lines, v, denotes, gives.theory), read_is), taken)

  pub nothing_logged : (told : Option Files) (log : Option (List ℕ)) → IfSome told (λ files. TakesSomeOfProblemLog files root problem log log)
  nothing_logged None log = tt
  nothing_logged (Some files) log = inl refl

-- the vocabulary of a source
pub source_same : (told : Option Files) (root : Option (List ℕ)) (file : List ℕ) (source : Source) → IsSource told root file source → source.theory.vocabulary ≡ source.signature
source_same told root file source (whole, resolves, (lines, v, denotes, gives, read_is)) = ap (λ (t : Statements). t.vocabulary) gives.theory ∙ sym gives.signature

-- ---- causes

-- a fault of the store that rose later on has risen since before
pub stopped_since : (r : Result Answer Halt) (L : Type 0) (log : Type 0) (a b c : ℕ) → a ≤ b → IfStopped r (λ stop. HasCause stop (log × Rose b c) L) → IfStopped r (λ stop. HasCause stop (log × Rose a c) L)
stopped_since (Ok answer) L log a b c le cause = tt
stopped_since (Err (Refused answer)) L log a b c le cause = tt
stopped_since (Err (Stopped Store)) L log a b c le cause = (cause.0, omega (arith, le, cause.1))
stopped_since (Err (Stopped Sink)) L log a b c le cause = cause
stopped_since (Err (Stopped Memory)) L log a b c le cause = tt

-- no fault of the store comes where a text is looked at
pub text_stopped : (r : Result Answer Halt) (S L : Type 0) → IfStopped r (λ stop. HasCause stop ⊥ L) → IfStopped r (λ stop. HasCause stop S L)
text_stopped (Ok answer) S L cause = tt
text_stopped (Err (Refused answer)) S L cause = tt
text_stopped (Err (Stopped Store)) S L cause = absurd cause
text_stopped (Err (Stopped Sink)) S L cause = cause
text_stopped (Err (Stopped Memory)) S L cause = tt

-- ---- the words that ask for it

module _ (words : List (List ℕ)) (request : Request) (problem derivation : List ℕ) (named : Option (List ℕ)) (form : IsForm words request) (is : request.task ≡ Verify problem derivation named) where
  asked_one : (told : Option Files) (answer : Answer) (old new : Option (List ℕ)) → IfSome told (λ files. IsAnswerWithLog (EndsVerify files request.root request.limit problem derivation) answer old new) → IfSome told (λ files. IsAnswerWithLog (Said.Ends files words) answer old new)
  asked_one None answer old new ends = tt
  asked_one (Some files) answer old new (log, taken, ends) = (log, taken, inr (request, form, subst (λ (task : Task). Said.EndsTask files request.root request.limit task (with_log answer log)) (sym is) ends))

  pub verify_asked : (told : Option Files) (r : Result Answer Halt) (old new : Option (List ℕ)) → IfAnswer r (λ answer. IfSome told (λ files. IsAnswerWithLog (EndsVerify files request.root request.limit problem derivation) answer old new)) → IfAnswer r (λ answer. IfSome told (λ files. IsAnswerWithLog (Said.Ends files words) answer old new))
  verify_asked told (Ok answer) old new ends = asked_one told answer old new ends
  verify_asked told (Err (Refused answer)) old new ends = asked_one told answer old new ends
  verify_asked told (Err (Stopped stop)) old new ends = tt

  pub verify_logged : (told : Option Files) (old new : Option (List ℕ)) → IfSome told (λ files. TakesSomeOfProblemLog files request.root problem old new) → IfSome told (λ files. TakesSomeOfRunLog files words old new)
  verify_logged None old new taken = tt
  verify_logged (Some files) old new taken = inr (request, form, subst (λ (task : Task). TakesSomeOfTaskLog files request.root task old new) (sym is) taken)
