-- Where a run verifies a derivation that claims that the axioms contradict each other, its log cites no conjecture.
use Rattle.std.specs.Prelude.{codes, unwrap_or}
use Rattle.std.specs.Option.{option_map}
use Rattle.std.proofs.Common.{◌≡◌, inl, inr, ℕ, ◌-◌, Bool, true, false, List, Option, Some, Ok, slice_get, sym, ◌∙◌, ap, subst, arith}
use Rattle.std.proofs.lemmas.List.{length-map}
use Rattle.std.proofs.lemmas.Option.{slice_get-map, slice_get_within}
use Rattle.tptp_base.specs.Store.{Files, file_at}
use Rattle.fof_terms.specs.Vocabulary.{Vocabulary}
use Rattle.include_resolve.specs.declared.problem.Problem.{Problem}
use Rattle.include_resolve.specs.Resolved.{Resolves}
use Rattle.sort_check.specs.declared.line.GivenEntry.{GivenEntry}
use Rattle.sort_check.specs.declared.line.Line.{Line}
use Rattle.sort_check.specs.declared.line.TextKind.TheVariants as kind
use Rattle.sort_check.specs.Given.{given_entries}
use Rattle.sort_check.specs.Texts.{denoted}
use Rattle.derivation_check.specs.Cases.{Asked, claimed}
use Rattle.derivation_check.specs.Checks.{Checks}
use Rattle.derivation_text.specs.declared.derivation.Derivation.{Derivation}
use Rattle.verifier.specs.Marks.{is_marked}
use Rattle.derivation_check.proofs.Ends.{spares}
use Rattle.read_problems.specs.Given.{given_theory}
use Rattle.tptp_run.specs.Contradictory.{RefutesAxioms}
use Rattle.read_problems.specs.Denoted.{first_vocabulary}
use Rattle.read_problems.specs.Ending.{Ending}
use Rattle.tptp_run.specs.Ends.{EndsTask, Ends}
use Rattle.read_problems.specs.Sources.{given_names, conjecture_marks, entry_marks, has_conjecture, is_of_conjecture}
use Rattle.tptp_run.specs.Verifying.{EndsChecked, EndsVerify, SaysDerivation, asked_by}
use Rattle.tptp_commands.specs.Words.{Task, Verify, Request, IsForm}
use Rattle.read_problems.specs.declared.refusals.TheConstants.{TOTAL_SIZE}
use Rattle.read_problems.proofs.NoRefusal.{no_include, no_sort, file_read}
use Rattle.tptp_commands.proofs.NoDerivation.{no_derivation}
use Rattle.tptp_run.proofs.Headline.{verified_is}
use Rattle.tptp_commands.proofs.Requests.{one_request}

one_text : (found : Option (List ℕ)) (text other : List ℕ) → found ≡ Some text → found ≡ Some other → text ≡ other
one_text found text other first second = cc

-- a given formula of one of these roles is marked
role_marked : (entries : List GivenEntry) (number : ℕ) (entry : GivenEntry) → slice_get entries number ≡ Some entry → is_of_conjecture entry.role ≡ true → is_marked (entry_marks entries) number ≡ true
role_marked entries number entry at role =
    let mark : GivenEntry → Bool = λ (e : GivenEntry). is_of_conjecture e.role in
    ap (λ (o : Option Bool). unwrap_or o false) (slice_get-map mark entries number ∙ ap (option_map mark) at) ∙ role

module _ (files : Files) (root : Option (List ℕ)) (limit : ℕ) (problem file text : List ℕ) (ending : Ending) (zero : ending.status ≡ 0) (there : file_at files file ≡ Some text) (word : claimed text ≡ Some (codes "ContradictoryAxioms")) where
  checked_spares : (whole : Problem) (lines : List Line) (v : Vocabulary) (d : Derivation) (w : Vocabulary) → Resolves (Some files) root problem (Ok whole) → denoted whole.items first_vocabulary kind.Problem ≡ Ok (lines, v)
      → EndsChecked (asked_by problem text (conjecture_marks lines) (has_conjecture lines) limit) (given_theory lines v) d w ending → RefutesAxioms files root problem ending.log
  checked_spares whole lines v d w resolves denotes ends =
      let asked : Asked = asked_by problem text (conjecture_marks lines) (has_conjecture lines) limit in
      let all : Checks asked (given_theory lines v) d w true ending.out ending.log = subst (λ (b : Bool). Checks asked (given_theory lines v) d w b ending.out ending.log) (verified_is ends.verified (sym ends.status ∙ zero)) ends.checks in
      let shown = spares asked (given_theory lines v) d w ending.out ending.log all word in
      record {
        whole = whole;
        lines = lines;
        v = v;
        resolves = resolves;
        denotes = denotes;
        entries = shown.0;
        log_is = shown.1;
        refutes = shown.2;
        spares = λ number entry at role.
            shown.3 number (omega (arith, slice_get_within (given_entries lines) number entry at, length-map (given_entries lines) (λ (e : GivenEntry). e.form))) (role_marked (given_entries lines) number entry at role);
      }

  verify_spares : EndsVerify files root limit problem file ending → RefutesAxioms files root problem ending.log
  verify_spares (inl (fault, resolves, says)) = no_include fault ending zero says
  verify_spares (inr (whole, resolves, inl (fault, denotes, says))) = no_sort whole.files fault ending zero says
  verify_spares (inr (whole, resolves, inr (lines, v, denotes, after))) =
      let rest : List ℕ → Ending → Type 0 = SaysDerivation problem file limit (given_theory lines v) (given_names lines) (conjecture_marks lines) (has_conjecture lines) in
      let read : (text : List ℕ) × (file_at files file ≡ Some text) × rest text ending = file_read files file (TOTAL_SIZE - whole.read) rest ending zero after in
      said (subst (λ (bytes : List ℕ). rest bytes ending) (one_text (file_at files file) read.0 text read.1 there) read.2)
    where
      said : SaysDerivation problem file limit (given_theory lines v) (given_names lines) (conjecture_marks lines) (has_conjecture lines) text ending → RefutesAxioms files root problem ending.log
      said (inl (fault, first, says)) = no_derivation file fault ending zero says
      said (inr (d, w, is, inl ends)) = checked_spares whole lines v d w resolves denotes ends
      said (inr (d, w, is, inr lacks)) = absurd (omega (arith, zero, lacks.status))

pub ends_spares : (files : Files) (words : List (List ℕ)) (request : Request) (problem derivation text : List ℕ) (named : Option (List ℕ)) (ending : Ending) → Ends files words ending → IsForm words request → request.task ≡ Verify problem derivation named → ending.status ≡ 0
    → file_at files derivation ≡ Some text → claimed text ≡ Some (codes "ContradictoryAxioms") → RefutesAxioms files request.root problem ending.log
ends_spares files words request problem derivation text named ending (inl none) form is zero there word = absurd (none.0 request form)
ends_spares files words request problem derivation text named ending (inr (other, found, ends)) form is zero there word =
    let asks : Request → Type 0 = λ r. EndsTask files r.root r.limit r.task ending in
    let own : Task → Type 0 = λ task. EndsTask files request.root request.limit task ending in
    verify_spares files request.root request.limit problem derivation text ending zero there word (subst own is (subst asks (one_request words other request found form) ends))
