-- What the function that reads a log answers.
use Rattle.std.proofs.Common.{◌≡◌, ℕ, ◌-◌, List, length, Ok, Err, ◌⊎◌, inl, inr, refl, sym, ◌∙◌, ap, subst}
use Rattle.first_fault.specs.Nesting.{Within}
use Rattle.first_fault.specs.code.Reading.{Cause, Unexpected, TooDeep}
use Rattle.kernel.specs.declared.entry.Entry.{Entry}
use Rattle.proof_log.specs.declared.stop.Stop.{Stop}
use Rattle.proof_log.specs.declared.stop.Stop.TheVariants as stop
use Rattle.proof_log.specs.declared.reader.LogFault.TheVariants as fault
use Rattle.proof_log.specs.Entries.{AreLogged, log_text, nested_log}
use Rattle.proof_log.specs.Logs.{IsFirstFault, IsFirstDeep}
use Rattle.proof_log.specs.code.Answers.{fault_of}
use Rattle.proof_log.specs.Answers.{IsLogOf, Tells}
use Rattle.proof_log.proofs.WholeReader.{FailsEntries, LogOutcome, log}
use Rattle.proof_log.proofs.LogLaws.{log_plain, never_over}
use Rattle.proof_log.proofs.LogWhole.{IsWholeLog, ExactWhole, exact_log, FoundLog, found_log}
use Rattle.proof_log.proofs.Offsets.{first_fault, first_deep}
use Rattle.proof_log.proofs.OnlyFault.{Refused, fault_only, deep_only}

module _ (limit : ℕ) (text : List ℕ) where
  log_read_by : (es : List Entry) → IsWholeLog limit es text → IsLogOf limit text es
  log_read_by es h = record { logged = h.logged; is = sym (log_plain es) ∙ sym h.text; within = h.within }

  -- what is read
  pub log_read : (es : List Entry) → log limit text ≡ Ok es → IsLogOf limit text es
  log_read es e = log_read_by es (subst (ExactWhole limit text) e (exact_log limit text))

  -- what a fault tells
  pub log_tells : (why : Stop) (rest : List ℕ) → FailsEntries (log limit text) why rest → Tells limit text (fault_of why (length text - length rest))
  log_tells stop.Memory rest h = tt
  log_tells stop.Unexpected rest h = first_fault limit text rest (subst (ExactWhole limit text) h (exact_log limit text))
  log_tells stop.TooDeep rest h = first_deep limit text rest (subst (ExactWhole limit text) h (exact_log limit text))

  found_by : (es : List Entry) → log_text es ≡ text → Within limit (nested_log es) → FoundLog limit es → log limit text ≡ Ok es
  found_by es e w (inl h) = ap (log limit) (sym e ∙ sym (log_plain es)) ∙ h.1
  found_by es e w (inr h) = absurd (never_over w h.1)

  pub reads : (es : List Entry) → AreLogged es → log_text es ≡ text → Within limit (nested_log es) → log limit text ≡ Ok es
  reads es logged e w = found_by es e w (found_log limit es logged)

  -- a log is read
  pub only_read : (es found : List Entry) → AreLogged es → log_text es ≡ text → Within limit (nested_log es) → log limit text ≡ Ok found → found ≡ es
  only_read es found logged e w h = let same : ◌≡◌ {A = LogOutcome} (Ok found) (Ok es) = sym h ∙ reads es logged e w in cc

  pub only_memory : (es : List Entry) (why : Stop) (rest : List ℕ) (offset : ℕ) → AreLogged es → log_text es ≡ text → Within limit (nested_log es) → FailsEntries (log limit text) why rest → fault_of why offset ≡ fault.Memory
  only_memory es stop.Memory rest offset logged e w h = refl
  only_memory es stop.Unexpected rest offset logged e w h = let never : ◌≡◌ {A = LogOutcome} (Err (Unexpected, rest)) (Ok es) = sym h ∙ reads es logged e w in cc
  only_memory es stop.TooDeep rest offset logged e w h = let never : ◌≡◌ {A = LogOutcome} (Err (TooDeep, rest)) (Ok es) = sym h ∙ reads es logged e w in cc

  abbrev cause_or : LogOutcome → Cause
  cause_or (Ok es) = Unexpected
  cause_or (Err f) = f.0

  abbrev rest_or : LogOutcome → List ℕ
  rest_or (Ok es) = text
  rest_or (Err f) = f.1

  refused_at : (c : Cause) (offset : ℕ) (rest : List ℕ) → Refused limit text offset c → log limit text ≡ Err (c, rest) → length text - length rest ≡ offset
  refused_at c offset rest r e = ap (λ o. length text - length (rest_or o)) (sym e ∙ r.1) ∙ r.2

  -- a first fault is told
  pub only_text : (why : Stop) (rest : List ℕ) (offset : ℕ) → IsFirstFault limit text offset → FailsEntries (log limit text) why rest → (fault_of why (length text - length rest) ≡ fault.Text offset) ⊎ (fault_of why (length text - length rest) ≡ fault.Memory)
  only_text stop.Memory rest offset f h = inr refl
  only_text stop.Unexpected rest offset f h = inl (ap fault.Text (refused_at Unexpected offset rest (fault_only limit text offset f) h))
  only_text stop.TooDeep rest offset f h = let r = fault_only limit text offset f in let causes : TooDeep ≡ Unexpected = ap cause_or (sym h ∙ r.1) in cc

  pub only_deep : (why : Stop) (rest : List ℕ) (offset : ℕ) → IsFirstDeep limit text offset → FailsEntries (log limit text) why rest → (fault_of why (length text - length rest) ≡ fault.Deep offset) ⊎ (fault_of why (length text - length rest) ≡ fault.Memory)
  only_deep stop.Memory rest offset f h = inr refl
  only_deep stop.TooDeep rest offset f h = inl (ap fault.Deep (refused_at TooDeep offset rest (deep_only limit text offset f) h))
  only_deep stop.Unexpected rest offset f h = let r = deep_only limit text offset f in let causes : Unexpected ≡ TooDeep = ap cause_or (sym h ∙ r.1) in cc

  -- a log with a fault is not read
  pub text_not_read : (es : List Entry) (offset : ℕ) → IsFirstFault limit text offset → log limit text ≡ Ok es → ⊥
  text_not_read es offset f h = let r = fault_only limit text offset f in let never : ◌≡◌ {A = LogOutcome} (Ok es) (Err (Unexpected, r.0)) = sym h ∙ r.1 in cc

  pub deep_not_read : (es : List Entry) (offset : ℕ) → IsFirstDeep limit text offset → log limit text ≡ Ok es → ⊥
  deep_not_read es offset f h = let r = deep_only limit text offset f in let never : ◌≡◌ {A = LogOutcome} (Ok es) (Err (TooDeep, r.0)) = sym h ∙ r.1 in cc

  pub no_first_fault : (es : List Entry) (offset : ℕ) → IsLogOf limit text es → IsFirstFault limit text offset → ⊥
  no_first_fault es offset is f = text_not_read es offset f (reads es is.logged is.is is.within)

  pub no_first_deep : (es : List Entry) (offset : ℕ) → IsLogOf limit text es → IsFirstDeep limit text offset → ⊥
  no_first_deep es offset is f = deep_not_read es offset f (reads es is.logged is.is is.within)
