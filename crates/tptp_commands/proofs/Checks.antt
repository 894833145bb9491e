-- How the command `check` ends, by what it meets in turn.
use Rattle.std.proofs.Common.{◌≡◌, inl, inr, ℕ, ◌+◌, ◌-◌, ◌≤◌, List, length, Option, None, Some, IfSome, Result, Ok, Err, ◌∙◌, ap, subst, arith}
use Rattle.std.proofs.lemmas.Option.{slice_get_within}
use Rattle.tptp_base.specs.declared.read.TheConstants.{FILE_SIZE}
use Rattle.tptp_base.specs.Count.{Rose}
use Rattle.tptp_base.specs.Store.{Files, HasFile}
use Rattle.kernel.specs.Statements.{Statements}
use Rattle.kernel.specs.Entries.{Refutes}
use Rattle.proof_log.specs.Checks.{IsFirstIllegal, IsNotRefuted}
use Rattle.proof_log.specs.LogChecks.{IsLogWith}
use Rattle.proof_log.specs.Logs.{IsFirstFault, IsFirstDeep}
use Rattle.proof_log.specs.declared.checking.CheckFault.TheVariants.{Illegal, NotRefuted}
use Rattle.proof_log.specs.declared.reader.LogFault.TheVariants.{Text, Deep}
use Rattle.proof_log.proofs.Steps.{log_long}
use Rattle.proof_log.specs.declared.reader.TheConstants.{MAX_NESTING}
use Rattle.read_problems.specs.Given.{given_theory, IsGiven}
use Rattle.tptp_commands.specs.CheckedLog.{log_fault, illegal_entry, not_refuted, refuted, SaysLog, EndsCheck}
use Rattle.read_problems.specs.Denoted.{IsProblemRefusal}
use Rattle.read_problems.specs.Ending.{Ending, AfterFile, IsReadRefusal}
use Rattle.read_problems.specs.Answer.{ending_of}
use Rattle.read_problems.specs.Stop.{HasCause, IfAnswer, IfStopped}
use Rattle.read_problems.specs.declared.stop.Answer.{Answer}
use Rattle.read_problems.specs.declared.stop.Halt.{Halt}
use Rattle.read_problems.specs.declared.stop.Halt.TheVariants.{Refused, Stopped}
use Rattle.read_problems.specs.declared.stop.Stop.TheVariants.{Store, Sink, Memory}
use Rattle.read_problems.specs.declared.refusals.TheConstants.{TOTAL_SIZE}
use Rattle.read_problems.proofs.Stages.{after_read, after_refused, if_told}

-- ---- the text of a log

module _ (t : Statements) (text : List ℕ) where
  -- the number of an entry is less than how many bytes there are
  pub number_fits : (number : ℕ) → IsLogWith MAX_NESTING text (λ entries. IsFirstIllegal t entries number) → length text ≤ FILE_SIZE → number + 1 ≤ FILE_SIZE
  number_fits number (entries, is, first) small =
      let less = slice_get_within entries number first.entry first.there in omega (arith, less, log_long MAX_NESTING text entries is, small)

  module _ (ending : Ending) where
    pub refuted_said : (count : ℕ) → IsLogWith MAX_NESTING text (λ entries. Refutes t entries × (count ≡ length entries)) → ending ≡ refuted count → SaysLog t text ending
    refuted_said count (entries, is, (refutes, counted)) says = inr (entries, is, inl (refutes, says ∙ ap refuted counted))

    pub fault_said : (offset : ℕ) → IsFirstFault MAX_NESTING text offset → ending ≡ log_fault offset → SaysLog t text ending
    fault_said offset first says = inl (Text offset, first, says)

    pub deep_said : (offset : ℕ) → IsFirstDeep MAX_NESTING text offset → ending ≡ log_fault offset → SaysLog t text ending
    deep_said offset first says = inl (Deep offset, first, says)

    pub illegal_said : (number : ℕ) → IsLogWith MAX_NESTING text (λ entries. IsFirstIllegal t entries number) → ending ≡ illegal_entry (number + 1) → SaysLog t text ending
    illegal_said number (entries, is, first) says = inr (entries, is, inr (Illegal number, first, says))

    pub unrefuted_said : IsLogWith MAX_NESTING text (IsNotRefuted t) → ending ≡ not_refuted → SaysLog t text ending
    unrefuted_said (entries, is, unrefuted) says = inr (entries, is, inr (NotRefuted, unrefuted, says))

-- ---- how the command ends

module _ (told : Option Files) (log : List ℕ) (theory : Statements) (budget : ℕ) (ending : Ending) where
  abbrev AfterLog : Type 0
  AfterLog = IfSome told (λ files. AfterFile files log budget (SaysLog theory) ending)

  pub log_unread : IfSome told (λ files. IsReadRefusal files log budget ending) → AfterLog
  log_unread refused = after_refused told log budget (λ files. SaysLog theory) ending refused

  pub log_said : (text : List ℕ) → HasFile told log (λ file. file ≡ text) → length text ≤ budget → length text ≤ FILE_SIZE → SaysLog theory text ending → AfterLog
  log_said text has in_budget in_limit said = after_read told log budget text (λ files. SaysLog theory) ending has in_budget in_limit (if_told told said)

module _ (root : Option (List ℕ)) (problem log : List ℕ) where
  abbrev Ends : Option Files → Ending → Type 0
  Ends told ending = IfSome told (λ files. EndsCheck files root problem log ending)

  pub ends_refused : (ending : Ending) (told : Option Files) → IsProblemRefusal told root problem ending → Ends told ending
  ends_refused ending None refused = tt
  ends_refused ending (Some files) (inl refused) = inl refused
  ends_refused ending (Some files) (inr (whole, resolves, refused)) = inr (whole, resolves, inl refused)

  given_then : (ending : Ending) (told : Option Files) (theory : Statements) (read : ℕ) → IsGiven told root problem theory read → AfterLog told log theory (TOTAL_SIZE - read) ending → Ends told ending
  given_then ending None theory read given after = tt
  given_then ending (Some files) theory read (whole, resolves, (lines, v, denotes, is), same) after =
      let of_theory : Statements → Type 0 = λ t. AfterFile files log (TOTAL_SIZE - read) (SaysLog t) ending in
      let of_read : ℕ → Type 0 = λ n. AfterFile files log (TOTAL_SIZE - n) (SaysLog (given_theory lines v)) ending in
      inr (whole, resolves, inr (lines, v, denotes, subst of_read same (subst of_theory is after)))

  answer_ends : (told : Option Files) (theory : Statements) (read : ℕ) (r : Result Answer Halt) → IsGiven told root problem theory read → IfAnswer r (λ answer. AfterLog told log theory (TOTAL_SIZE - read) (ending_of answer)) → IfAnswer r (λ answer. Ends told (ending_of answer))
  answer_ends told theory read (Ok answer) given after = given_then (ending_of answer) told theory read given after
  answer_ends told theory read (Err (Refused answer)) given after = given_then (ending_of answer) told theory read given after
  answer_ends told theory read (Err (Stopped stop)) given after = tt

  pub log_ends : (told later : Option Files) (theory : Statements) (read : ℕ) (r : Result Answer Halt) → IsGiven told root problem theory read → later ≡ told → IfAnswer r (λ answer. AfterLog later log theory (TOTAL_SIZE - read) (ending_of answer)) → IfAnswer r (λ answer. Ends told (ending_of answer))
  log_ends told later theory read r given same after =
      answer_ends told theory read r given (subst (λ (files : Option Files). IfAnswer r (λ answer. AfterLog files log theory (TOTAL_SIZE - read) (ending_of answer))) same after)

-- a fault of the store that rose later on has risen since before
pub stopped_since : (r : Result Answer Halt) (a b c : ℕ) → a ≤ b → IfStopped r (λ stop. HasCause stop (Rose b c) ⊥) → IfStopped r (λ stop. HasCause stop (Rose a c) ⊥)
stopped_since (Ok answer) a b c le cause = tt
stopped_since (Err (Refused answer)) a b c le cause = tt
stopped_since (Err (Stopped Store)) a b c le cause = omega (arith, le, cause)
stopped_since (Err (Stopped Sink)) a b c le cause = cause
stopped_since (Err (Stopped Memory)) a b c le cause = tt
