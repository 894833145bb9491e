-- Status 3 of a run comes with an absence in the store, or says another fault than a missing file.
use Rattle.std.proofs.Common.{◌≡◌, ◌⊎◌, inl, inr, ℕ, ◌≤◌, List, Option, None, Some, IfSome, IsSomeAnd, Result, Err, sym, ap, subst, arith}
use Rattle.tptp_base.specs.declared.name.Name.{Name}
use Rattle.tptp_base.specs.Sink.{Takes}
use Rattle.tptp_base.specs.Store.{Files, HasFile, file_at}
use Rattle.fof_terms.specs.Vocabulary.{Vocabulary}
use Rattle.kernel.specs.Statements.{Statements}
use Rattle.include_resolve.specs.declared.fault.IncludeFault.TheVariants as included
use Rattle.include_resolve.specs.declared.problem.Problem.{Problem}
use Rattle.sort_check.specs.declared.line.TextKind.TheVariants as kind
use Rattle.sort_check.specs.Texts.{denoted}
use Rattle.read_problems.specs.Answer.{ending_of}
use Rattle.read_problems.specs.Given.{IsGiven}
use Rattle.read_problems.specs.Denoted.{first_vocabulary}
use Rattle.tptp_commands.specs.Derived.{IsDerivationRefusal}
use Rattle.read_problems.specs.Ending.{Ending, says}
use Rattle.read_problems.specs.OtherFaults.{SaysWalkFault, SaysProblemFault}
use Rattle.tptp_commands.specs.OtherFaults.{SaysDerivedFault, SaysModelledFault}
use Rattle.tptp_run.specs.OtherFaults.{SaysTaskFault, SaysOtherFault, TakesOtherFault}
use Rattle.tptp_run.specs.Outcome.{LacksProblem, LacksOther, SaysMissing}
use Rattle.read_problems.specs.Stop.{IfAnswer}
use Rattle.tptp_commands.specs.Words.{Task, Verify, Format, Parse, Check, Make, Prove, Model, Request, IsForm}
use Rattle.read_problems.specs.declared.stop.Answer.{Answer}
use Rattle.read_problems.specs.declared.stop.Halt.{Halt}
use Rattle.read_problems.proofs.OneProblem.{one_include_fault, no_include_fault, one_problem, no_sort_fault}
use Rattle.tptp_commands.proofs.Requests.{one_root, one_task}
use Rattle.tptp_commands.proofs.Absences.{answered_so}

pub report_said : (file text : List ℕ) (given : List Name) (v : Vocabulary) (answer : Answer) → (answer.status ≤ 1) ⊎ (answer.status ≡ 7) → answer.status ≡ 3 → IsDerivationRefusal file text given v (ending_of answer)
report_said file text given v answer (inl few) three = absurd (omega (arith, three, few))
report_said file text given v answer (inr seven) three = absurd (omega (arith, three, seven))

pub usage_said : (R : Type 0) (told : Option Files) (words : List (List ℕ)) (answer : Answer) (text : List ℕ) → ending_of answer ≡ says 2 text → answer.status ≡ 3 → R ⊎ SaysOtherFault told words (ending_of answer)
usage_said R told words answer text is three = absurd (omega (arith, three, ap (λ (e : Ending). e.status) is))

-- ---- a file that is missing is said so

no_text : (files : Files) (file text : List ℕ) → HasFile (Some files) file (λ bytes. bytes ≡ text) → file_at files file ≡ None → ⊥
no_text files file text has none = at (file_at files file) none has
  where
    at : (found : Option (List ℕ)) → found ≡ None → IsSomeAnd found (λ bytes. bytes ≡ text) → ⊥
    at None is has = has
    at (Some bytes) is has = cc

module _ (files : Files) (root : Option (List ℕ)) (file : List ℕ) (ending : Ending) where
  no_walk_fault : SaysWalkFault (Some files) root file ending → LacksProblem files root file → ⊥
  no_walk_fault (fault, resolves, other, says) (written, lacks) = other written (one_include_fault files root file fault (included.Missing written) resolves lacks)

  no_problem_fault : SaysProblemFault (Some files) root file ending → LacksProblem files root file → ⊥
  no_problem_fault (inl said) lacks = no_walk_fault said lacks
  no_problem_fault (inr (problem, resolves, said)) (written, lacks) = no_include_fault files root file (included.Missing written) problem lacks resolves

  given_no_fault : (theory : Statements) (read : ℕ) → IsGiven (Some files) root file theory read → SaysProblemFault (Some files) root file ending → ⊥
  given_no_fault theory read (whole, resolves, is, same) (inl (fault, faulty, other, says)) = no_include_fault files root file fault whole faulty resolves
  given_no_fault theory read (whole, resolves, (lines, v, means, is), same) (inr (other, also, (fault, denotes, says))) =
      let one : other ≡ whole = one_problem files root file other whole also resolves in
      no_sort_fault whole.items fault lines v (subst (λ (p : Problem). denoted p.items first_vocabulary kind.Problem ≡ Err fault) one denotes) means

  no_fault_of_other : (name : List ℕ) → SaysProblemFault (Some files) root file ending → LacksProblem files root file ⊎ LacksOther files root file name → ⊥
  no_fault_of_other name said (inl lacks) = no_problem_fault said lacks
  no_fault_of_other name said (inr (sorted, none)) = given_no_fault sorted.theory sorted.read sorted.is said

  no_derived_fault : (name : List ℕ) → SaysDerivedFault (Some files) root file name ending → LacksProblem files root file ⊎ LacksOther files root file name → ⊥
  no_derived_fault name (whole, lines, v, resolves, denotes, said) (inl (written, lacks)) = no_include_fault files root file (included.Missing written) whole lacks resolves
  no_derived_fault name (whole, lines, v, resolves, denotes, (text, has, refused)) (inr (sorted, none)) = no_text files name text has none

no_modelled_fault : (files : Files) (root : Option (List ℕ)) (problem name : List ℕ) (ending : Ending) → SaysModelledFault (Some files) root problem name ending → LacksProblem files root problem ⊎ LacksOther files root problem name → ⊥
no_modelled_fault files root problem name ending (whole, resolves, said) (inl (written, lacks)) = no_include_fault files root problem (included.Missing written) whole lacks resolves
no_modelled_fault files root problem name ending (whole, resolves, (text, has, refused)) (inr (sorted, none)) = no_text files name text has none

no_task_fault : (files : Files) (root : Option (List ℕ)) (task : Task) (ending : Ending) → SaysTaskFault (Some files) root task ending → SaysMissing files root task → ⊥
no_task_fault files root (Verify problem derivation log) ending (inl said) lacks = no_fault_of_other files root problem ending derivation said lacks
no_task_fault files root (Verify problem derivation log) ending (inr said) lacks = no_derived_fault files root problem ending derivation said lacks
no_task_fault files root (Format file) ending (text, has, refused) none = no_text files file text has none
no_task_fault files root (Parse file) ending said lacks = no_problem_fault files root file ending said lacks
no_task_fault files root (Check problem log) ending said lacks = no_fault_of_other files root problem ending log said lacks
no_task_fault files root (Make count) ending said lacks = lacks
no_task_fault files root (Prove problem) ending said lacks = no_problem_fault files root problem ending said lacks
no_task_fault files root (Model problem model) ending (inl said) lacks = no_fault_of_other files root problem ending model said lacks
no_task_fault files root (Model problem model) ending (inr said) lacks = no_modelled_fault files root problem model ending said lacks

-- ---- the words that ask for the task

module _ (R : Type 0) (told : Option Files) (words : List (List ℕ)) where
  -- what is said of a task is said of the words that ask for it
  pub asked_absence : (request : Request) (own : Task) (r : Result Answer Halt) → IsForm words request → request.task ≡ own
      → IfAnswer r (λ answer. answer.status ≡ 3 → R ⊎ SaysTaskFault told request.root own (ending_of answer)) → IfAnswer r (λ answer. answer.status ≡ 3 → R ⊎ SaysOtherFault told words (ending_of answer))
  asked_absence request own r form is given = answered_so r (λ answer. R ⊎ SaysTaskFault told request.root own (ending_of answer)) (λ answer. R ⊎ SaysOtherFault told words (ending_of answer)) (λ answer. so (ending_of answer)) given
    where
      so : (ending : Ending) → R ⊎ SaysTaskFault told request.root own ending → R ⊎ SaysOtherFault told words ending
      so ending (inl rose) = inl rose
      so ending (inr said) = inr (request, form, subst (λ (task : Task). SaysTaskFault told request.root task ending) (sym is) said)

  -- what is said is taken
  pub taken_absence : (ending : Ending) (old new : Option (List ℕ)) → Takes old new ending.out → R ⊎ SaysOtherFault told words ending → R ⊎ TakesOtherFault told words old new
  taken_absence ending old new taken (inl rose) = inl rose
  taken_absence ending old new taken (inr said) = inr (ending, said, taken)

-- where a file is missing
abbrev pub WhereMissing : Type 0 → List (List ℕ) → Files → Type 0
WhereMissing R words files = (request : Request) → IsForm words request → SaysMissing files request.root request.task → R

-- where a file is missing nothing else is said
told_missing : (R : Type 0) (files : Files) (words : List (List ℕ)) (ending : Ending) → R ⊎ SaysOtherFault (Some files) words ending → WhereMissing R words files
told_missing R files words ending (inl rose) request form lacks = rose
told_missing R files words ending (inr (other, found, said)) request form lacks =
    let of_root : Option (List ℕ) → Type 0 = λ root. SaysTaskFault (Some files) root request.task ending in
    let of_task : Task → Type 0 = λ task. SaysTaskFault (Some files) other.root task ending in
    absurd (no_task_fault files request.root request.task ending (subst of_root (one_root words other request found form) (subst of_task (one_task words other request found form) said)) lacks)

pub missing_rises : (R : Type 0) (told : Option Files) (words : List (List ℕ)) (ending : Ending) → R ⊎ SaysOtherFault told words ending → IfSome told (λ files. WhereMissing R words files)
missing_rises R None words ending said = tt
missing_rises R (Some files) words ending said = told_missing R files words ending said
