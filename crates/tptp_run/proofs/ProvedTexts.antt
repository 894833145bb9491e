-- What follows where a run that searches for a proof ends with status 0.
use Rattle.std.proofs.Common.{◌≡◌, inl, inr, ℕ, ◌-◌, true, List, length, Option, None, Some, Ok, refl, sym, ◌∙◌, ap, subst}
use Rattle.tptp_base.specs.Store.{Files, file_at}
use Rattle.tptp_base.specs.Read.{IsOver}
use Rattle.fof_terms.specs.Vocabulary.{Vocabulary}
use Rattle.kernel.specs.Entries.{Refutes}
use Rattle.kernel.specs.Statements.{Statements}
use Rattle.kernel.specs.declared.entry.Entry.{Entry}
use Rattle.include_resolve.specs.declared.problem.Problem.{Problem}
use Rattle.include_resolve.specs.Resolved.{Resolves}
use Rattle.sort_check.specs.Texts.{denoted}
use Rattle.sort_check.specs.declared.line.Line.{Line}
use Rattle.sort_check.specs.declared.line.TextKind.TheVariants as kind
use Rattle.derivation_check.proofs.Ends.{refutes}
use Rattle.problem_proofs.specs.declared.proved.Proved.TheVariants.{Proof, Open}
use Rattle.read_problems.proofs.NoRefusal.{no_include, no_refusal, no_sort}
use Rattle.read_problems.specs.Denoted.{first_vocabulary}
use Rattle.read_problems.specs.Ending.{Ending, AfterFile}
use Rattle.read_problems.specs.Given.{IsGiven, given_theory}
use Rattle.read_problems.specs.Sources.{given_names, conjecture_marks, has_conjecture}
use Rattle.read_problems.specs.declared.refusals.TheConstants.{TOTAL_SIZE}
use Rattle.tptp_commands.proofs.Requests.{one_request}
use Rattle.tptp_commands.specs.Refuted.{GivesTheSame, IsInBudget}
use Rattle.tptp_commands.specs.Words.{Task, Prove, Request, IsForm}
use Rattle.tptp_run.specs.Ends.{EndsTask, Ends}
use Rattle.tptp_run.specs.Proving.{EndsProve, IsVerified}
use Rattle.tptp_run.specs.Verifying.{EndsVerify, SaysDerivation, asked_by}

-- The text that was printed, of which a check has verified all.
record IsPrinted (files : Files) (root : Option (List ℕ)) (limit : ℕ) (problem text : List ℕ) : Type 0 where
  whole : Problem
  resolves : Resolves (Some files) root problem (Ok whole)
  lines : List Line
  v : Vocabulary
  denotes : denoted whole.items first_vocabulary kind.Problem ≡ Ok (lines, v)
  fits : IsInBudget whole.read (length text)
  verified : IsVerified problem limit (given_theory lines v) (given_names lines) (conjecture_marks lines) (has_conjecture lines) text

printed_by : (files : Files) (root : Option (List ℕ)) (limit : ℕ) (problem : List ℕ) (ending : Ending) → ending.status ≡ 0 → EndsProve files root limit problem ending → IsPrinted files root limit problem ending.out
printed_by files root limit problem ending zero (inl (fault, resolves, says)) = no_include fault ending zero says
printed_by files root limit problem ending zero (inr (whole, resolves, inl (fault, denotes, says))) = no_sort whole.files fault ending zero says
printed_by files root limit problem ending zero (inr (whole, resolves, inr (lines, v, denotes, inl (name, over, said)))) = no_refusal ending 6 _ zero said
printed_by files root limit problem ending zero (inr (whole, resolves, inr (lines, v, denotes, inr (room, (Open why, proved, said))))) = no_refusal ending 0 _ zero said
printed_by files root limit problem ending zero (inr (whole, resolves, inr (lines, v, denotes, inr (room, (Proof items, proved, inl (name, over, said)))))) = no_refusal ending 6 _ zero said
printed_by files root limit problem ending zero (inr (whole, resolves, inr (lines, v, denotes, inr (room, (Proof items, proved, inr (fits, verified, said)))))) =
    let out_is = sym (ap (λ (e : Ending). e.out) said) in
    record {
      whole = whole;
      resolves = resolves;
      lines = lines;
      v = v;
      denotes = denotes;
      fits = subst (λ (text : List ℕ). IsInBudget whole.read (length text)) out_is fits;
      verified = subst (IsVerified problem limit (given_theory lines v) (given_names lines) (conjecture_marks lines) (has_conjecture lines)) out_is verified;
    }

-- ---- the text is verified

known : (found text : List ℕ) {o : Option (List ℕ)} → o ≡ Some found → o ≡ Some text → text ≡ found
known found text first second = cc

not_missing : {T : Type 0} {text : List ℕ} {o : Option (List ℕ)} → o ≡ Some text → o ≡ None → T
not_missing is none = absurd (let e = sym is ∙ none in cc)

abbrev MayBeVerified : Files → Option (List ℕ) → ℕ → List ℕ → List ℕ → Type 0
MayBeVerified after root limit problem file = (again : Ending) × EndsVerify after root limit problem file again × (again.status ≡ 0)

printed_verified : (files after : Files) (root : Option (List ℕ)) (limit : ℕ) (problem file text : List ℕ) → IsPrinted files root limit problem text → GivesTheSame files after root problem → file_at after file ≡ Some text → MayBeVerified after root limit problem file
printed_verified files after root limit problem file text p alike there =
    let again : Ending = record { status = 0; out = p.verified.report; log = p.verified.log } in
    let rest : List ℕ → Ending → Type 0 = SaysDerivation problem file limit (given_theory p.lines p.v) (given_names p.lines) (conjecture_marks p.lines) (has_conjecture p.lines) in
    let says : rest text again = inr (p.verified.d, p.verified.w, p.verified.is, inl (record { verified = true; status = refl; checks = p.verified.checks })) in
    let read : AfterFile after file (TOTAL_SIZE - p.whole.read) rest again = record {
      missing = λ none. not_missing there none;
      limit = λ name found is over. absurd (p.fits name (subst (λ (t : List ℕ). IsOver name (TOTAL_SIZE - p.whole.read) (length t)) (known text found there is) over));
      read = λ found is fits. subst (λ (t : List ℕ). rest t again) (sym (known text found there is)) says;
    } in
    (again, inr (p.whole, alike p.whole p.resolves, inr (p.lines, p.v, p.denotes, read)), refl)

-- ---- what the problem gives is refuted

abbrev HasEntries : Files → Option (List ℕ) → List ℕ → Type 0
HasEntries files root problem = (theory : Statements) × (read : ℕ) × IsGiven (Some files) root problem theory read × ((entries : List Entry) × Refutes theory entries)

printed_refutes : (files : Files) (root : Option (List ℕ)) (limit : ℕ) (problem text : List ℕ) → IsPrinted files root limit problem text → HasEntries files root problem
printed_refutes files root limit problem text p =
    let t : Statements = given_theory p.lines p.v in
    let shown = refutes (asked_by problem text (conjecture_marks p.lines) (has_conjecture p.lines) limit) t p.verified.d p.verified.w p.verified.report p.verified.log p.verified.checks in
    (t, p.whole.read, (p.whole, p.resolves, (p.lines, p.v, p.denotes, refl), refl), (shown.0, shown.2))

-- ---- a run on words

prove_of : (files : Files) (words : List (List ℕ)) (request : Request) (problem : List ℕ) (ending : Ending) → Ends files words ending → IsForm words request → request.task ≡ Prove problem → EndsProve files request.root request.limit problem ending
prove_of files words request problem ending (inl none) form is = absurd (none.0 request form)
prove_of files words request problem ending (inr (other, found, ends)) form is =
    let asks : Request → Type 0 = λ r. EndsTask files r.root r.limit r.task ending in
    let of_task : Task → Type 0 = λ task. EndsTask files request.root request.limit task ending in
    subst of_task is (subst asks (one_request words other request found form) ends)

module _ (files : Files) (words : List (List ℕ)) (request : Request) (problem : List ℕ) (ending : Ending) (ends : Ends files words ending) (form : IsForm words request) (is : request.task ≡ Prove problem) (zero : ending.status ≡ 0) where
  printed : IsPrinted files request.root request.limit problem ending.out
  printed = printed_by files request.root request.limit problem ending zero (prove_of files words request problem ending ends form is)

  pub run_verified : (after : Files) (file : List ℕ) → GivesTheSame files after request.root problem → file_at after file ≡ Some ending.out → MayBeVerified after request.root request.limit problem file
  run_verified after file alike there = printed_verified files after request.root request.limit problem file ending.out printed alike there

  pub run_refutes : HasEntries files request.root problem
  run_refutes = printed_refutes files request.root request.limit problem ending.out printed
