-- When a run that checks a log ends with status 0.
use Rattle.std.specs.Prelude.{if◌then◌else◌, nat_eq}
use Rattle.std.specs.Cmp.Lexicographic.{pointwise, bytes_decides}
use Rattle.std.proofs.Common.{◌≡◌, ◌⊎◌, inl, inr, ℕ, Bool, true, false, List, [], ◌∷◌, length, Option, Some, Ok, refl, sym, ◌∙◌, subst}
use Rattle.tptp_base.specs.Store.{Files, file_at}
use Rattle.include_resolve.specs.Tried.{Tries}
use Rattle.include_resolve.proofs.OnlyTried.{further_file}
use Rattle.proof_log.specs.Answers.{NestWithin, IsLogOf}
use Rattle.proof_log.specs.Entries.{log_text}
use Rattle.proof_log.specs.declared.reader.TheConstants.{MAX_NESTING}
use Rattle.tptp_commands.specs.CheckedLog.{refuted, EndsCheck}
use Rattle.read_problems.specs.Ending.{Ending}
use Rattle.tptp_run.specs.Ends.{EndsTask, Ends}
use Rattle.tptp_run.specs.Outcome.{IsRefutation}
use Rattle.tptp_commands.specs.Refuted.{IsInBudget, IsExact, IsRefused, GivesTheSame}
use Rattle.tptp_commands.specs.Words.{Task, Check, Request, IsForm}
use Rattle.tptp_commands.proofs.Requests.{one_root, one_task}
use Rattle.tptp_commands.proofs.Exact.{problem_checks, check_exact}

known : (old text : List ℕ) → Some text ≡ Some old → text ≡ old
known old text same = cc

module _ (files after : Files) (root : Option (List ℕ)) (problem log text : List ℕ) (run : IsRefutation files root problem (Some []) (Some text)) where
  logged_is : NestWithin MAX_NESTING run.entries → IsLogOf MAX_NESTING text run.entries
  logged_is within = record { logged = run.logged; is = sym (known (log_text run.entries) text run.taken); within = within }

  pub logged_checks : NestWithin MAX_NESTING run.entries → GivesTheSame files after root problem → file_at after log ≡ Some text → IsInBudget run.read (length text) → (ending : Ending) → EndsCheck after root problem log ending → ending ≡ refuted (length run.entries)
  logged_checks within same there fits ending ends = problem_checks after root problem log text run.theory run.entries ending there (logged_is within) run.refutes files run.read same run.is fits ends

-- ---- a run on words

first_file : (name text : List ℕ) (files : Files) → file_at ((name, text) ∷ files) name ≡ Some text
first_file name text files = by (pointwise nat_eq name name) refl
  where
    by : (b : Bool) → pointwise nat_eq name name ≡ b → (if b then Some text else file_at files name) ≡ Some text
    by true test = refl
    by false test = let wrong : true ≡ false = sym ((bytes_decides name name).1 refl) ∙ test in absurd cc

check_of : (files : Files) (words : List (List ℕ)) (request : Request) (problem log : List ℕ) (ending : Ending) → Ends files words ending → IsForm words request → request.task ≡ Check problem log → EndsCheck files request.root problem log ending
check_of files words request problem log ending (inl none) form is = absurd (none.0 request form)
check_of files words request problem log ending (inr (other, found, ends)) form is =
    let of_root : Option (List ℕ) → Type 0 = λ root. EndsTask files root other.limit (Check problem log) ending in
    let of_task : Task → Type 0 = λ task. EndsTask files other.root other.limit task ending in
    subst of_root (one_root words other request found form) (subst of_task (one_task words other request found form ∙ is) ends)

pub run_exact : (files : Files) (words : List (List ℕ)) (request : Request) (problem log : List ℕ) (ending : Ending) → Ends files words ending → IsForm words request → request.task ≡ Check problem log → IsRefused files request.root problem ending ⊎ IsExact files request.root problem log ending
run_exact files words request problem log ending ends form is = check_exact files request.root problem log ending (check_of files words request problem log ending ends form is)

pub run_checks : (files after : Files) (words : List (List ℕ)) (request : Request) (problem log text : List ℕ) (run : IsRefutation files request.root problem (Some []) (Some text)) → NestWithin MAX_NESTING run.entries → GivesTheSame files after request.root problem → file_at after log ≡ Some text → IsInBudget run.read (length text)
    → (ending : Ending) → Ends after words ending → IsForm words request → request.task ≡ Check problem log → ending ≡ refuted (length run.entries)
run_checks files after words request problem log text run within same there fits ending ends form is =
    logged_checks files after request.root problem log text run within same there fits ending (check_of after words request problem log ending ends form is)

-- the log in the same store, under a name that the walk does not try
pub run_checks_beside : (files : Files) (words : List (List ℕ)) (request : Request) (problem log text : List ℕ) (run : IsRefutation files request.root problem (Some []) (Some text)) → NestWithin MAX_NESTING run.entries → (Tries files request.root problem log → ⊥) → IsInBudget run.read (length text)
    → (ending : Ending) → Ends ((log, text) ∷ files) words ending → IsForm words request → request.task ≡ Check problem log → ending ≡ refuted (length run.entries)
run_checks_beside files words request problem log text run within untried fits =
    run_checks files ((log, text) ∷ files) words request problem log text run within (λ whole resolves. further_file files request.root problem log text (Ok whole) untried resolves) (first_file log text files) fits
