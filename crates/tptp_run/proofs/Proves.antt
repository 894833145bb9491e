-- How the command `prove` ends, by what it meets in turn.
use Rattle.std.specs.List.{All}
use Rattle.std.proofs.Common.{◌≡◌, ◌⊎◌, inl, inr, ℕ, ◌≤◌, Bool, true, List, [], Option, None, Some, IfSome, Result, Ok, Err, sym, ap, subst, arith}
use Rattle.std.proofs.lemmas.List.Elements.{All-weaker}
use Rattle.tptp_base.specs.Store.{Files}
use Rattle.tptp_base.specs.declared.item.Item.{Item}
use Rattle.tptp_base.specs.declared.limit.LimitName.{LimitName}
use Rattle.tptp_base.specs.declared.name.Name.{Name}
use Rattle.fof_terms.proofs.Scoped.{raised}
use Rattle.fof_terms.specs.Vocabulary.{Vocabulary}
use Rattle.kernel.specs.Statements.{Statements}
use Rattle.clause_rules.specs.Steps.{IsReady}
use Rattle.sort_check.specs.Given.{given_entries}
use Rattle.sort_check.specs.Sorting.{AreGivenSorted, IsSentence}
use Rattle.sort_check.specs.declared.line.GivenEntry.{GivenEntry}
use Rattle.sort_check.specs.declared.line.Line.{Line}
use Rattle.derivation_check.specs.Claim.{default_word}
use Rattle.derivation_check.specs.Checks.{Checks}
use Rattle.derivation_check.specs.declared.checking.Report.{Report}
use Rattle.derivation_text.specs.Derivations.{IsDerivation}
use Rattle.problem_proofs.specs.Posed.{HasSymbols}
use Rattle.problem_proofs.specs.Proved.{IsProved, MayBeOver}
use Rattle.problem_proofs.specs.declared.proved.Proved.{Proved}
use Rattle.problem_proofs.specs.declared.proved.Proved.TheVariants.{Proof, Open}
use Rattle.problem_proofs.specs.declared.proved.Why.{Why}
use Rattle.read_problems.specs.Answer.{ending_of}
use Rattle.read_problems.specs.Denoted.{IsProblemRefusal}
use Rattle.read_problems.specs.Ending.{Ending, IsAnswer}
use Rattle.read_problems.specs.Given.{given_theory}
use Rattle.read_problems.specs.Posed.{IsPosed}
use Rattle.read_problems.specs.Sources.{Gives, given_names, conjecture_marks, has_conjecture}
use Rattle.read_problems.specs.Stop.{HasCause, IfAnswer, IfRefused, IfStopped}
use Rattle.read_problems.specs.declared.posed.Posed.{Posed}
use Rattle.read_problems.specs.declared.sources.Source.{Source}
use Rattle.read_problems.specs.declared.stop.Answer.{Answer}
use Rattle.read_problems.specs.declared.stop.Halt.{Halt}
use Rattle.read_problems.specs.declared.stop.Halt.TheVariants.{Refused, Stopped}
use Rattle.read_problems.specs.declared.stop.Stop.TheVariants.{Store, Sink, Memory}
use Rattle.tptp_commands.specs.Presented.{is_over, not_proved, proof_text}
use Rattle.tptp_run.specs.Proving.{EndsProve, IsVerified, SaysProof, SaysProved, SaysSearched, why_word}
use Rattle.tptp_run.specs.Verifying.{asked_by}
use Rattle.tptp_run.specs.code.Making.{IsReportOn}

-- ---- what is posed is ready for the rules

pub posed_ready : (v : Vocabulary) (given entries : List GivenEntry) → entries ≡ given → AreGivenSorted v given → All (λ (g : GivenEntry). IsReady v g.form) entries
posed_ready v given entries same good =
    subst (All (λ (g : GivenEntry). IsReady v g.form)) (sym same) (All-weaker (λ (g : GivenEntry). IsSentence v g.form) (λ (g : GivenEntry). IsReady v g.form) (λ g sorted. raised v [] 500 1000000000 g.form (omega arith) sorted) given good)

-- ---- the check

pub verified_by : (problem text : List ℕ) (limit : ℕ) (t : Statements) (names : List Name) (v : Vocabulary) (marks : List Bool) (conjecture : Bool) (report : Report) (old new : Option (List ℕ)) → t.vocabulary ≡ v → IsReportOn problem text limit t names v marks conjecture report old new → report.verified ≡ true
    → IsVerified problem limit t names marks conjecture text
verified_by problem text limit t names v marks conjecture report old new same (d, w, is, (log, taken, checks, counts)) verified = record {
  d = d;
  w = w;
  is = subst (λ (u : Vocabulary). IsDerivation text names u d w) (sym same) is;
  report = report.text;
  log = log;
  checks = subst (λ (b : Bool). Checks (asked_by problem text marks conjecture limit) t d w b report.text log) verified checks;
}

-- ---- statuses

pub over_status : (answer : Answer) (file : List ℕ) (name : LimitName) → ending_of answer ≡ is_over file name → answer.status ≡ 7
over_status answer file name is = ap (λ (e : Ending). e.status) is

-- a proof, none, or a limit
abbrev pub IsOfSearch : ℕ → Type 0
IsOfSearch status = (status ≤ 1) ⊎ (status ≡ 7)

pub over_search : (answer : Answer) (file : List ℕ) (name : LimitName) → ending_of answer ≡ is_over file name → IsOfSearch answer.status
over_search answer file name is = inr (over_status answer file name is)

pub open_search : (answer : Answer) (reason : List ℕ) → ending_of answer ≡ not_proved reason → IsOfSearch answer.status
open_search answer reason is =
    let one : answer.status ≡ 1 = ap (λ (e : Ending). e.status) is in
    inl (omega (arith, one))

proof_search : (status : ℕ) → (status ≡ 0) ⊎ (status ≡ 7) → IsOfSearch status
proof_search status (inl zero) = inl (omega (arith, zero))
proof_search status (inr seven) = inr seven

pub proofs_search : (r : Result Answer Halt) → IfAnswer r (λ answer. (answer.status ≡ 0) ⊎ (answer.status ≡ 7)) → IfAnswer r (λ answer. IsOfSearch answer.status)
proofs_search (Ok answer) status = proof_search answer.status status
proofs_search (Err (Refused answer)) status = proof_search answer.status status
proofs_search (Err (Stopped stop)) status = tt

is_answer : (status : ℕ) → IsOfSearch status → IsAnswer status
is_answer status (inl few) = inl (omega (arith, few))
is_answer status (inr seven) = inr seven

pub are_answers : (r : Result Answer Halt) → IfAnswer r (λ answer. IsOfSearch answer.status) → IfAnswer r (λ answer. IsAnswer answer.status)
are_answers (Ok answer) status = is_answer answer.status status
are_answers (Err (Refused answer)) status = is_answer answer.status status
are_answers (Err (Stopped stop)) status = tt

no_three : (status : ℕ) (P : Type 0) → IsOfSearch status → status ≡ 3 → P
no_three status P (inl few) three = absurd (omega (arith, few, three))
no_three status P (inr seven) three = absurd (omega (arith, seven, three))

pub are_no_three : (r : Result Answer Halt) (P : Answer → Type 0) → IfAnswer r (λ answer. IsOfSearch answer.status) → IfAnswer r (λ answer. answer.status ≡ 3 → P answer)
are_no_three (Ok answer) P status = no_three answer.status (P answer) status
are_no_three (Err (Refused answer)) P status = no_three answer.status (P answer) status
are_no_three (Err (Stopped stop)) P status = tt

-- no fault of the store comes behind the read
pub no_store : (r : Result Answer Halt) (S : Type 0) → IfStopped r (λ stop. HasCause stop ⊥ ⊥) → IfStopped r (λ stop. HasCause stop S ⊥)
no_store (Ok answer) S cause = tt
no_store (Err (Refused answer)) S cause = tt
no_store (Err (Stopped Store)) S cause = absurd cause
no_store (Err (Stopped Sink)) S cause = cause
no_store (Err (Stopped Memory)) S cause = tt

-- ---- what is said of what is posed

module _ (limit : ℕ) (problem : List ℕ) (posed : Posed) where
  -- any lines that give what is posed
  abbrev pub OfLines : (List Line → Type 0) → Type 0
  OfLines P = (lines : List Line) → posed.given ≡ given_entries lines → P lines

  abbrev pub Proves : List Item → Ending → Type 0
  Proves items ending = OfLines (λ lines. SaysProved problem limit posed.read lines posed.signature (Proof items) ending)

  abbrev pub Searches : Ending → Type 0
  Searches ending = OfLines (λ lines. SaysSearched problem limit posed.read lines posed.signature ending)

  -- ---- the items of a proof

  module _ (items : List Item) (source : Source) (read : source.read ≡ posed.read) (gives : OfLines (λ lines. Gives lines posed.signature source)) where
    abbrev Says : ℕ → Statements → List Name → List Bool → Bool → Ending → Type 0
    Says bytes t names marks conjecture ending = SaysProof problem limit bytes t names marks conjecture (proof_text problem (default_word conjecture) items) ending

    source_proof : (ending : Ending) → Says source.read source.theory source.names source.marks source.has_conjecture ending → Proves items ending
    source_proof ending says = λ lines of_lines.
        let is = gives lines of_lines in
        let v = posed.signature in
        let of_read : ℕ → Type 0 = λ n. Says n (given_theory lines v) (given_names lines) (conjecture_marks lines) (has_conjecture lines) ending in
        let of_theory : Statements → Type 0 = λ t. Says source.read t (given_names lines) (conjecture_marks lines) (has_conjecture lines) ending in
        let of_names : List Name → Type 0 = λ ns. Says source.read source.theory ns (conjecture_marks lines) (has_conjecture lines) ending in
        let of_marks : List Bool → Type 0 = λ ms. Says source.read source.theory source.names ms (has_conjecture lines) ending in
        let of_conjecture : Bool → Type 0 = λ b. Says source.read source.theory source.names source.marks b ending in
        subst of_read read (subst of_theory is.theory (subst of_names is.names (subst of_marks is.marks (subst of_conjecture is.conjecture says))))

    pub source_proofs : (r : Result Answer Halt) → IfAnswer r (λ answer. Says source.read source.theory source.names source.marks source.has_conjecture (ending_of answer)) → IfAnswer r (λ answer. Proves items (ending_of answer))
    source_proofs (Ok answer) says = source_proof (ending_of answer) says
    source_proofs (Err (Refused answer)) says = source_proof (ending_of answer) says
    source_proofs (Err (Stopped stop)) says = tt

  -- ---- what the search comes to

  pub over_said : (ending : Ending) (name : LimitName) → MayBeOver posed.signature posed.given limit name → ending ≡ is_over problem name → Searches ending
  over_said ending name over said = λ lines gives. inl (name, subst (λ (given : List GivenEntry). MayBeOver posed.signature given limit name) gives over, said)

  module _ (room : HasSymbols posed.signature posed.given) where
    found : (proved : Proved) → IsProved posed.signature posed.given problem limit proved → (ending : Ending) → OfLines (λ lines. SaysProved problem limit posed.read lines posed.signature proved ending) → Searches ending
    found proved is ending says = λ lines gives.
        inr (subst (HasSymbols posed.signature) gives room, (proved, subst (λ (given : List GivenEntry). IsProved posed.signature given problem limit proved) gives is, says lines gives))

    pub open_said : (ending : Ending) (why : Why) → IsProved posed.signature posed.given problem limit (Open why) → ending ≡ not_proved (why_word why) → Searches ending
    open_said ending why is said = found (Open why) is ending (λ lines gives. said)

    pub proof_said : (items : List Item) → IsProved posed.signature posed.given problem limit (Proof items) → (r : Result Answer Halt) → IfAnswer r (λ answer. Proves items (ending_of answer)) → IfAnswer r (λ answer. Searches (ending_of answer))
    proof_said items is (Ok answer) says = found (Proof items) is (ending_of answer) says
    proof_said items is (Err (Refused answer)) says = found (Proof items) is (ending_of answer) says
    proof_said items is (Err (Stopped stop)) says = tt

-- ---- the whole command

module _ (root : Option (List ℕ)) (limit : ℕ) (problem : List ℕ) where
  abbrev Ends : Option Files → Ending → Type 0
  Ends told ending = IfSome told (λ files. EndsProve files root limit problem ending)

  problem_refused : (told : Option Files) (ending : Ending) → IsProblemRefusal told root problem ending → Ends told ending
  problem_refused None ending refused = tt
  problem_refused (Some files) ending (inl refused) = inl refused
  problem_refused (Some files) ending (inr (whole, resolves, refused)) = inr (whole, resolves, inl refused)

  pub prove_refused : (T : Type 0) (halt : Halt) (told : Option Files) → IfRefused {T = T} (Err halt) (λ answer. IsProblemRefusal told root problem (ending_of answer)) → IfAnswer (Err halt) (λ answer. Ends told (ending_of answer))
  prove_refused T (Refused answer) told refused = problem_refused told (ending_of answer) refused
  prove_refused T (Stopped stop) told refused = tt

  module _ (posed : Posed) where
    posed_end : (told : Option Files) → IsPosed told root problem posed → (ending : Ending) → Searches limit problem posed ending → Ends told ending
    posed_end None is ending says = tt
    posed_end (Some files) is ending says =
        inr (is.whole, is.resolves, inr (is.lines, posed.signature, is.denotes, subst (λ (n : ℕ). SaysSearched problem limit n is.lines posed.signature ending) is.read (says is.lines is.gives)))

    pub posed_ends : (told : Option Files) → IsPosed told root problem posed → (r : Result Answer Halt) → IfAnswer r (λ answer. Searches limit problem posed (ending_of answer)) → IfAnswer r (λ answer. Ends told (ending_of answer))
    posed_ends told is (Ok answer) says = posed_end told is (ending_of answer) says
    posed_ends told is (Err (Refused answer)) says = posed_end told is (ending_of answer) says
    posed_ends told is (Err (Stopped stop)) says = tt
