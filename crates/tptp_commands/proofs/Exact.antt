-- When a check ends with status 0.
use Rattle.std.proofs.Common.{◌≡◌, ◌⊎◌, inl, inr, ℕ, ◌-◌, List, length, Option, None, Some, Result, Ok, Err, refl, sym, ◌∙◌, ap, subst}
use Rattle.tptp_base.specs.Store.{Files, file_at}
use Rattle.fof_terms.specs.Vocabulary.{Vocabulary}
use Rattle.kernel.specs.Statements.{Statements}
use Rattle.kernel.specs.Entries.{Refutes}
use Rattle.kernel.specs.declared.entry.Entry.{Entry}
use Rattle.include_resolve.specs.declared.fault.IncludeFault.{IncludeFault}
use Rattle.include_resolve.specs.declared.problem.Problem.{Problem}
use Rattle.include_resolve.specs.Parts.{Answer}
use Rattle.include_resolve.proofs.OneAnswer.{one}
use Rattle.sort_check.specs.declared.fault.SortFault.{SortFault}
use Rattle.sort_check.specs.declared.line.Line.{Line}
use Rattle.sort_check.specs.declared.line.TextKind.TheVariants as kind
use Rattle.sort_check.specs.Texts.{denoted}
use Rattle.proof_log.specs.Answers.{IsLogOf, Tells}
use Rattle.proof_log.specs.declared.checking.CheckFault.{CheckFault}
use Rattle.proof_log.specs.declared.checking.CheckFault.TheVariants.{Illegal, NotRefuted, Memory as OutOfMemory}
use Rattle.proof_log.specs.declared.reader.LogFault.{LogFault}
use Rattle.proof_log.specs.declared.reader.LogFault.TheVariants.{Text, Deep, Limit, Memory}
use Rattle.proof_log.specs.declared.reader.TheConstants.{MAX_NESTING}
use Rattle.proof_log.proofs.LogAnswers.{no_first_fault, no_first_deep}
use Rattle.proof_log.proofs.LogLaws.{one_log}
use Rattle.proof_log.proofs.OneTheory.{refuted_alone}
use Rattle.read_problems.specs.Given.{given_theory, IsGiven}
use Rattle.tptp_commands.specs.CheckedLog.{refuted, EndsCheck, SaysCheckFault, SaysEntries, SaysLogFault, SaysLog}
use Rattle.read_problems.specs.Denoted.{first_vocabulary, AfterDenoted}
use Rattle.read_problems.specs.Ending.{Ending, AfterFile}
use Rattle.tptp_commands.specs.Refuted.{IsInBudget, HasRefutation, IsExact, IsRefused, GivesTheSame}
use Rattle.read_problems.specs.declared.refusals.TheConstants.{TOTAL_SIZE}
use Rattle.read_problems.proofs.NoRefusal.{no_refusal, no_include, no_sort}

-- ---- what is said of a text

not_checked : {T : Type 0} (fault : CheckFault) (ending : Ending) → ending.status ≡ 0 → SaysCheckFault fault ending → T
not_checked (Illegal number) ending zero says = no_refusal ending 0 _ zero says
not_checked NotRefuted ending zero says = no_refusal ending 0 _ zero says
not_checked OutOfMemory ending zero says = absurd says

not_faulty : {T : Type 0} (fault : LogFault) (ending : Ending) → ending.status ≡ 0 → SaysLogFault fault ending → T
not_faulty (Text offset) ending zero says = no_refusal ending 0 _ zero says
not_faulty (Deep offset) ending zero says = no_refusal ending 0 _ zero says
not_faulty Limit ending zero says = absurd says
not_faulty Memory ending zero says = absurd says

said_refuted : (t : Statements) (text : List ℕ) (ending : Ending) → ending.status ≡ 0 → SaysLog t text ending → (entries : List Entry) × IsLogOf MAX_NESTING text entries × Refutes t entries
said_refuted t text ending zero (inl (fault, answers, says)) = not_faulty fault ending zero says
said_refuted t text ending zero (inr (entries, is, inl (refutes, said))) = (entries, is, refutes)
said_refuted t text ending zero (inr (entries, is, inr (fault, told, says))) = not_checked fault ending zero says

-- what is said of entries that refute the theory
entries_refuted : (t : Statements) (entries : List Entry) (ending : Ending) → Refutes t entries → SaysEntries t entries ending → ending ≡ refuted (length entries)
entries_refuted t entries ending refutes (inl (again, said)) = said
entries_refuted t entries ending refutes (inr (fault, told, says)) = absurd (subst (λ (f : CheckFault). SaysCheckFault f ending) (refuted_alone t entries (Err fault) told refutes) says)

-- a log has no fault that could be said
no_fault : (text : List ℕ) (entries : List Entry) (ending : Ending) (fault : LogFault) → IsLogOf MAX_NESTING text entries → Tells MAX_NESTING text fault → SaysLogFault fault ending → ⊥
no_fault text entries ending (Text offset) is tells says = no_first_fault MAX_NESTING text entries offset is tells
no_fault text entries ending (Deep offset) is tells says = no_first_deep MAX_NESTING text entries offset is tells
no_fault text entries ending Limit is tells says = says
no_fault text entries ending Memory is tells says = says

-- what is said of their text
text_refuted : (t : Statements) (text : List ℕ) (entries : List Entry) (ending : Ending) → IsLogOf MAX_NESTING text entries → Refutes t entries → SaysLog t text ending → ending ≡ refuted (length entries)
text_refuted t text entries ending is refutes (inl (fault, tells, says)) = absurd (no_fault text entries ending fault is tells says)
text_refuted t text entries ending is refutes (inr (found, are, says)) =
    let same : entries ≡ found = one_log entries found is.logged are.logged (is.is ∙ sym are.is) in
    entries_refuted t found ending (subst (Refutes t) same refutes) says ∙ ap (λ (es : List Entry). refuted (length es)) (sym same)

-- ---- how a check ends

module _ (files : Files) (root : Option (List ℕ)) (problem log : List ℕ) (ending : Ending) where
  pub log_exact : (t : Statements) (read : ℕ) → IsGiven (Some files) root problem t read → AfterFile files log (TOTAL_SIZE - read) (SaysLog t) ending → IsExact files root problem log ending
  log_exact t read given after = record { theory = t; read = read; given = given; only = λ zero. found zero (file_at files log) refl; always = says_so }
    where
      found : ending.status ≡ 0 → (found : Option (List ℕ)) → file_at files log ≡ found → HasRefutation files log t read
      found zero None is = no_refusal ending 2 _ zero (after.missing is)
      found zero (Some text) is =
          let fits : IsInBudget read (length text) = λ limit over. no_refusal ending 6 _ zero (after.limit limit text is over) in
          let said = said_refuted t text ending zero (after.read text is fits) in
          record { text = text; there = is; fits = fits; entries = said.0; is = said.1; refutes = said.2 }

      says_so : HasRefutation files log t read → ending.status ≡ 0
      says_so has = ap (λ (e : Ending). e.status) (text_refuted t has.text has.entries ending has.is has.refutes (after.read has.text has.there has.fits))

  pub check_exact : EndsCheck files root problem log ending → IsRefused files root problem ending ⊎ IsExact files root problem log ending
  check_exact (inl (fault, resolves, says)) = inl (inl (fault, resolves, says), λ zero. no_include fault ending zero says)
  check_exact (inr (whole, resolves, inl (fault, denotes, says))) = inl (inr (whole, resolves, (fault, denotes, says)), λ zero. no_sort whole.files fault ending zero says)
  check_exact (inr (whole, resolves, inr (lines, v, denotes, after))) = inr (log_exact (given_theory lines v) whole.read (whole, resolves, (lines, v, denotes, refl), refl) after)

-- ---- the log of a success

no_answer : {T : Type 0} (fault : IncludeFault) (whole : Problem) → ◌≡◌ {A = Answer} (Err fault) (Ok whole) → T
no_answer fault whole same = absurd cc

abbrev problem_or : Problem → Answer → Problem
problem_or other (Ok whole) = whole
problem_or other (Err fault) = other

one_problem : (whole other : Problem) → ◌≡◌ {A = Answer} (Ok other) (Ok whole) → other ≡ whole
one_problem whole other same = ap (problem_or whole) same

abbrev Denotes : Type 0
Denotes = Result (List Line × Vocabulary) SortFault

no_lines : {T : Type 0} (fault : SortFault) (lines : List Line) (v : Vocabulary) → ◌≡◌ {A = Denotes} (Err fault) (Ok (lines, v)) → T
no_lines fault lines v same = absurd cc

abbrev theory_or : Statements → Denotes → Statements
theory_or other (Ok (lines, v)) = given_theory lines v
theory_or other (Err fault) = other

module _ (after : Files) (root : Option (List ℕ)) (problem log text : List ℕ) (t : Statements) (entries : List Entry) (ending : Ending) (there : file_at after log ≡ Some text) (is : IsLogOf MAX_NESTING text entries) (refutes : Refutes t entries) where
  theory_checks : (whole : Problem) (lines : List Line) (v : Vocabulary) → denoted whole.items first_vocabulary kind.Problem ≡ Ok (lines, v) → t ≡ given_theory lines v → IsInBudget whole.read (length text)
      → AfterDenoted whole (λ lines v. AfterFile after log (TOTAL_SIZE - whole.read) (SaysLog (given_theory lines v))) ending → ending ≡ refuted (length entries)
  theory_checks whole lines v denotes theory fits (inl (fault, faulty, says)) = no_lines fault lines v (sym faulty ∙ denotes)
  theory_checks whole lines v denotes theory fits (inr (others, w, again, file)) =
      let same : t ≡ given_theory others w = theory ∙ ap (theory_or t) (sym denotes ∙ again) in
      text_refuted (given_theory others w) text entries ending is (subst (λ (s : Statements). Refutes s entries) same refutes) (file.read text there fits)

  pub problem_checks : (files : Files) (read : ℕ) → GivesTheSame files after root problem → IsGiven (Some files) root problem t read → IsInBudget read (length text) → EndsCheck after root problem log ending → ending ≡ refuted (length entries)
  problem_checks files read same (whole, resolves, theory, bytes) fits (inl (fault, faulty, says)) = no_answer fault whole (one after root problem (Err fault) (Ok whole) faulty (same whole resolves))
  problem_checks files read same (whole, resolves, (lines, v, denotes, is_theory), bytes) fits (inr (other, again, rest)) =
      let Rest : Problem → Type 0 = λ p. AfterDenoted p (λ lines v. AfterFile after log (TOTAL_SIZE - p.read) (SaysLog (given_theory lines v))) ending in
      theory_checks whole lines v denotes is_theory (subst (λ (n : ℕ). IsInBudget n (length text)) bytes fits) (subst Rest (one_problem whole other (one after root problem (Ok other) (Ok whole) again (same whole resolves))) rest)
