-- A run that ends with status 0 has logged a refutation of its problem.
use Rattle.std.proofs.Common.{◌≡◌, inl, inr, ℕ, ◌-◌, Bool, true, false, List, [], codes, Option, None, Some, IfSome, refl, sym, ◌∙◌, ap, subst, arith}
use Rattle.std.specs.Io.KnownBytes.{append_known}
use Rattle.tptp_base.specs.Sink.{Takes}
use Rattle.tptp_base.specs.Store.{Files, file_at}
use Rattle.kernel.specs.Statements.{Statements}
use Rattle.fof_terms.specs.Vocabulary.{Vocabulary}
use Rattle.derivation_text.specs.declared.fault.DerivationFault.TheVariants as derived
use Rattle.derivation_text.specs.declared.derivation.Derivation.{Derivation}
use Rattle.derivation_check.specs.Cases.{Asked}
use Rattle.derivation_check.specs.Checks.{Checks}
use Rattle.sort_check.specs.Bringing.{Brings}
use Rattle.derivation_text.proofs.Bringing.{derivation_brings}
use Rattle.derivation_check.proofs.Ends.{refutes_logged}
use Rattle.tptp_run.specs.code.Answer.{with_log, IsAnswerWithLog}
use Rattle.read_problems.specs.Given.{given_theory, IsGiven}
use Rattle.read_problems.specs.Ending.{Ending, says}
use Rattle.tptp_run.specs.Ends.{EndsTask, Ends}
use Rattle.tptp_commands.specs.Made as made
use Rattle.tptp_run.specs.Making.{EndsMake}
use Rattle.tptp_run.specs.Outcome.{IsRefutation}
use Rattle.read_problems.specs.Sources.{given_names, conjecture_marks, has_conjecture}
use Rattle.tptp_run.specs.Verifying.{EndsChecked, EndsVerify, SaysDerivation, asked_by, status_of}
use Rattle.tptp_commands.specs.Words.{Task, Verify, Format, Parse, Check, Make, Prove, Model, Request, IsForm}
use Rattle.read_problems.specs.declared.refusals.TheConstants.{TOTAL_SIZE}
use Rattle.read_problems.specs.declared.stop.Answer.{Answer}
use Rattle.tptp_commands.proofs.Requests.{one_request}
use Rattle.read_problems.proofs.Stages.{if_map}
use Rattle.read_problems.proofs.NoRefusal.{no_include, no_sort, file_read}
use Rattle.tptp_commands.proofs.NoDerivation.{no_derivation}

-- ---- the command

pub verified_is : (verified : Bool) → status_of verified ≡ 0 → verified ≡ true
verified_is true e = refl
verified_is false e = absurd (omega (arith, e))

module _ (files : Files) (root : Option (List ℕ)) (limit : ℕ) (problem file : List ℕ) (ending : Ending) (old new : Option (List ℕ)) (zero : ending.status ≡ 0) (taken : Takes old new ending.log) where
  checked_refutes : (asked : Asked) (t : Statements) (read : ℕ) (d : Derivation) (w : Vocabulary) → IsGiven (Some files) root problem t read → Brings t.vocabulary w → EndsChecked asked t d w ending → IsRefutation files root problem old new
  checked_refutes asked t read d w given brings ends =
      let all : Checks asked t d w true ending.out ending.log = subst (λ (b : Bool). Checks asked t d w b ending.out ending.log) (verified_is ends.verified (sym ends.status ∙ zero)) ends.checks in
      let shown = refutes_logged asked t d w ending.out ending.log all brings in
      record { theory = t; read = read; is = given; entries = shown.0; taken = taken ∙ ap (append_known old) shown.1; refutes = shown.2; logged = shown.3 }

  verify_refutes : EndsVerify files root limit problem file ending → IsRefutation files root problem old new
  verify_refutes (inl (fault, resolves, says)) = no_include fault ending zero says
  verify_refutes (inr (whole, resolves, inl (fault, denotes, says))) = no_sort whole.files fault ending zero says
  verify_refutes (inr (whole, resolves, inr (lines, v, denotes, after))) =
      let rest : List ℕ → Ending → Type 0 = SaysDerivation problem file limit (given_theory lines v) (given_names lines) (conjecture_marks lines) (has_conjecture lines) in
      let text : (text : List ℕ) × (file_at files file ≡ Some text) × rest text ending = file_read files file (TOTAL_SIZE - whole.read) rest ending zero after in
      derived (whole, resolves, (lines, v, denotes, refl), refl) text.2
    where
      derived : IsGiven (Some files) root problem (given_theory lines v) whole.read → {text : List ℕ} → SaysDerivation problem file limit (given_theory lines v) (given_names lines) (conjecture_marks lines) (has_conjecture lines) text ending → IsRefutation files root problem old new
      derived given (inl (fault, first, says)) = no_derivation file fault ending zero says
      derived given {text = text} (inr (d, w, is, inl ends)) = checked_refutes _ (given_theory lines v) whole.read d w given (derivation_brings text (given_names lines) v d w is) ends
      derived given (inr (d, w, is, inr lacks)) = absurd (omega (arith, zero, lacks.status))

format_no_verify : (file problem derivation : List ℕ) (log : Option (List ℕ)) → Format file ≡ Verify problem derivation log → ⊥
format_no_verify file problem derivation log e = cc

parse_no_verify : (file problem derivation : List ℕ) (log : Option (List ℕ)) → Parse file ≡ Verify problem derivation log → ⊥
parse_no_verify file problem derivation log e = cc

check_no_verify : (own other problem derivation : List ℕ) (log : Option (List ℕ)) → Check own other ≡ Verify problem derivation log → ⊥
check_no_verify own other problem derivation log e = cc

model_no_verify : (own other problem derivation : List ℕ) (log : Option (List ℕ)) → Model own other ≡ Verify problem derivation log → ⊥
model_no_verify own other problem derivation log e = cc

make_no_verify : (count : ℕ) (problem derivation : List ℕ) (log : Option (List ℕ)) → Make count ≡ Verify problem derivation log → ⊥
make_no_verify count problem derivation log e = cc

prove_no_verify : (own problem derivation : List ℕ) (log : Option (List ℕ)) → Prove own ≡ Verify problem derivation log → ⊥
prove_no_verify own problem derivation log e = cc

abbrev problem_of : Task → List ℕ
problem_of (Verify problem derivation log) = problem
problem_of (Format file) = file
problem_of (Parse file) = file
problem_of (Check problem log) = problem
problem_of (Make count) = []
problem_of (Prove problem) = problem
problem_of (Model problem model) = problem

task_refutes : (files : Files) (root : Option (List ℕ)) (limit : ℕ) (task : Task) (problem derivation : List ℕ) (named : Option (List ℕ)) (ending : Ending) (old new : Option (List ℕ)) → ending.status ≡ 0 → Takes old new ending.log → EndsTask files root limit task ending
    → task ≡ Verify problem derivation named → IsRefutation files root problem old new
task_refutes files root limit (Verify own other log) problem derivation named ending old new zero taken ends is =
    subst (λ (name : List ℕ). IsRefutation files root name old new) (ap problem_of is) (verify_refutes files root limit own other ending old new zero taken ends)
task_refutes files root limit (Format file) problem derivation named ending old new zero taken ends is = absurd (format_no_verify file problem derivation named is)
task_refutes files root limit (Parse file) problem derivation named ending old new zero taken ends is = absurd (parse_no_verify file problem derivation named is)
task_refutes files root limit (Check own other) problem derivation named ending old new zero taken ends is = absurd (check_no_verify own other problem derivation named is)
task_refutes files root limit (Make count) problem derivation named ending old new zero taken ends is = absurd (make_no_verify count problem derivation named is)
task_refutes files root limit (Prove own) problem derivation named ending old new zero taken ends is = absurd (prove_no_verify own problem derivation named is)
task_refutes files root limit (Model own other) problem derivation named ending old new zero taken ends is = absurd (model_no_verify own other problem derivation named is)

ends_refutes : (files : Files) (words : List (List ℕ)) (request : Request) (problem derivation : List ℕ) (named : Option (List ℕ)) (ending : Ending) (old new : Option (List ℕ)) → ending.status ≡ 0 → Takes old new ending.log → Ends files words ending
    → IsForm words request → request.task ≡ Verify problem derivation named → IsRefutation files request.root problem old new
ends_refutes files words request problem derivation named ending old new zero taken (inl none) form is = absurd (none.0 request form)
ends_refutes files words request problem derivation named ending old new zero taken (inr (other, found, ends)) form is =
    let asks : Request → Type 0 = λ r. EndsTask files r.root r.limit r.task ending in
    task_refutes files request.root request.limit request.task problem derivation named ending old new zero taken (subst asks (one_request words other request found form) ends) is

-- the headline
pub success_refutes : (told : Option Files) (words : List (List ℕ)) (answer : Answer) (old new : Option (List ℕ)) → IfSome told (λ files. IsAnswerWithLog (Ends files words) answer old new) → answer.status ≡ 0
    → IfSome told (λ files. (request : Request) → IsForm words request → (problem derivation : List ℕ) (named : Option (List ℕ)) → request.task ≡ Verify problem derivation named → IsRefutation files request.root problem old new)
success_refutes told words answer old new ends zero =
    if_map told (λ files. IsAnswerWithLog (Ends files words) answer old new)
    (λ files. (request : Request) → IsForm words request → (problem derivation : List ℕ) (named : Option (List ℕ)) → request.task ≡ Verify problem derivation named → IsRefutation files request.root problem old new) ends
    (λ files is request form problem derivation named asked. ends_refutes files words request problem derivation named (with_log answer is.0) old new zero is.1 is.2 form asked)

-- ---- the made problem

make_refutes : (count limit : ℕ) (ending : Ending) (old new : Option (List ℕ)) → Takes old new ending.log → EndsMake count limit ending → IsRefutation (made.files count) None made.problem_name old new
make_refutes count limit ending old new taken ends =
    checked_refutes (made.files count) None limit made.problem_name (codes "make.s") (record { status = 0; out = ends.report; log = ending.log }) old new refl taken
    (asked_by made.problem_name (made.derivation count) (conjecture_marks ends.lines) (has_conjecture ends.lines) limit) (given_theory ends.lines ends.v) ends.whole.read ends.d ends.w
    (ends.whole, ends.resolves, (ends.lines, ends.v, ends.denotes, refl), refl) (derivation_brings (made.derivation count) (given_names ends.lines) ends.v ends.d ends.w ends.is) (record { verified = true; status = refl; checks = ends.checks })

makes_refute : (files : Files) (words : List (List ℕ)) (request : Request) (count : ℕ) (ending : Ending) (old new : Option (List ℕ)) → Takes old new ending.log → Ends files words ending → IsForm words request → request.task ≡ Make count
    → IsRefutation (made.files count) None made.problem_name old new
makes_refute files words request count ending old new taken (inl none) form is = absurd (none.0 request form)
makes_refute files words request count ending old new taken (inr (other, found, ends)) form is =
    let asks : Task → Type 0 = λ task. EndsTask files other.root other.limit task ending in
    make_refutes count other.limit ending old new taken (subst asks (ap (λ (r : Request). r.task) (one_request words other request found form) ∙ is) ends)

-- the headline of `make`
pub success_makes : (told : Option Files) (words : List (List ℕ)) (answer : Answer) (old new : Option (List ℕ)) → IfSome told (λ files. IsAnswerWithLog (Ends files words) answer old new) → answer.status ≡ 0
    → IfSome told (λ files. (request : Request) → IsForm words request → (count : ℕ) → request.task ≡ Make count → IsRefutation (made.files count) None made.problem_name old new)
success_makes told words answer old new ends zero =
    if_map told (λ files. IsAnswerWithLog (Ends files words) answer old new)
    (λ files. (request : Request) → IsForm words request → (count : ℕ) → request.task ≡ Make count → IsRefutation (made.files count) None made.problem_name old new) ends
    (λ files is request form count asked. makes_refute files words request count (with_log answer is.0) old new is.1 is.2 form asked)
