-- What reading a text answers is the only answer, but for want of memory.
use Rattle.std.proofs.Common.{◌≡◌, ℕ, ◌-◌, ◌≤◌, List, length, Result, Ok, Err, inl, inr, refl, sym, ◌∙◌, ap, arith}
use Rattle.tptp_base.specs.declared.read.TheConstants.{FILE_SIZE}
use Rattle.first_fault.specs.Nesting.{Within}
use Rattle.first_fault.specs.code.Reading.{Cause, Unexpected, TooDeep}
use Rattle.kernel.specs.declared.entry.Entry.{Entry}
use Rattle.proof_log.specs.declared.reader.LogFault.{LogFault}
use Rattle.proof_log.specs.declared.reader.LogFault.TheVariants as fault
use Rattle.proof_log.specs.Entries.{AreLogged, log_text, nested_log}
use Rattle.proof_log.specs.Logs.{IsFirstFault, IsFirstDeep}
use Rattle.proof_log.specs.Answers.{Answers, IsReadAs, IsRefusedFor}
use Rattle.proof_log.proofs.WholeReader.{LogOutcome}
use Rattle.proof_log.proofs.LogLaws.{one_log}
use Rattle.proof_log.proofs.LogAnswers.{no_first_fault, no_first_deep}
use Rattle.proof_log.proofs.OnlyFault.{fault_only, deep_only}

module _ (limit : ℕ) (text : List ℕ) where
  -- the rest at which the reader stops
  abbrev rest_or : LogOutcome → List ℕ
  rest_or (Ok es) = text
  rest_or (Err f) = f.1

  abbrev cause_or : LogOutcome → Cause
  cause_or (Ok es) = Unexpected
  cause_or (Err f) = f.0

  pub one_fault : (k n : ℕ) → IsFirstFault limit text k → IsFirstFault limit text n → k ≡ n
  one_fault k n x y =
      let r = fault_only limit text k x in
      let q = fault_only limit text n y in
      sym r.2 ∙ ap (λ o. length text - length (rest_or o)) (sym r.1 ∙ q.1) ∙ q.2

  pub one_deep : (k n : ℕ) → IsFirstDeep limit text k → IsFirstDeep limit text n → k ≡ n
  one_deep k n x y =
      let r = deep_only limit text k x in
      let q = deep_only limit text n y in
      sym r.2 ∙ ap (λ o. length text - length (rest_or o)) (sym r.1 ∙ q.1) ∙ q.2

  pub not_both : (k n : ℕ) → IsFirstFault limit text k → IsFirstDeep limit text n → ⊥
  not_both k n x y =
      let r = fault_only limit text k x in
      let q = deep_only limit text n y in
      let causes : Unexpected ≡ TooDeep = ap cause_or (sym r.1 ∙ q.1) in cc

  pub read_alone : (r : Result (List Entry) LogFault) → Answers limit text r → (entries : List Entry) → AreLogged entries → log_text entries ≡ text → Within limit (nested_log entries) → length text ≤ FILE_SIZE → IsReadAs entries r
  read_alone (Ok found) h entries logged is within small = one_log found entries h.logged logged (h.is ∙ sym is)
  read_alone (Err (fault.Text k)) h entries logged is within small = absurd (no_first_fault limit text entries k (record { logged = logged; is = is; within = within }) h)
  read_alone (Err (fault.Deep k)) h entries logged is within small = absurd (no_first_deep limit text entries k (record { logged = logged; is = is; within = within }) h)
  read_alone (Err fault.Limit) h entries logged is within small = absurd (omega (arith, h, small))
  read_alone (Err fault.Memory) h entries logged is within small = refl

  pub text_alone : (r : Result (List Entry) LogFault) → Answers limit text r → (offset : ℕ) → IsFirstFault limit text offset → length text ≤ FILE_SIZE → IsRefusedFor (fault.Text offset) r
  text_alone (Ok found) h offset first small = no_first_fault limit text found offset h first
  text_alone (Err (fault.Text k)) h offset first small = inl (ap fault.Text (one_fault k offset h first))
  text_alone (Err (fault.Deep k)) h offset first small = absurd (not_both offset k first h)
  text_alone (Err fault.Limit) h offset first small = absurd (omega (arith, h, small))
  text_alone (Err fault.Memory) h offset first small = inr refl

  pub deep_alone : (r : Result (List Entry) LogFault) → Answers limit text r → (offset : ℕ) → IsFirstDeep limit text offset → length text ≤ FILE_SIZE → IsRefusedFor (fault.Deep offset) r
  deep_alone (Ok found) h offset first small = no_first_deep limit text found offset h first
  deep_alone (Err (fault.Text k)) h offset first small = absurd (not_both k offset h first)
  deep_alone (Err (fault.Deep k)) h offset first small = inl (ap fault.Deep (one_deep k offset h first))
  deep_alone (Err fault.Limit) h offset first small = absurd (omega (arith, h, small))
  deep_alone (Err fault.Memory) h offset first small = inr refl
