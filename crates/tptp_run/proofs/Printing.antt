-- A proof that is printed is verified by its check.
use Rattle.std.proofs.Common.{◌≡◌, ◌≤◌, ◌<◌, ◌^◌, ℕ, Bool, true, List, Option, length, refl, sym, ◌∙◌, ap, subst, arith}
use Rattle.std.proofs.lemmas.List.{length-map}
use Rattle.tptp_base.specs.Count.{Rose}
use Rattle.tptp_base.specs.Store.{Files}
use Rattle.tptp_base.specs.declared.item.Item.{Item}
use Rattle.tptp_base.specs.declared.name.Name.{Name}
use Rattle.tptp_base.specs.declared.read.TheConstants.{FILE_SIZE}
use Rattle.fof_terms.specs.Vocabulary.{Vocabulary}
use Rattle.kernel.specs.Statements.{Statements}
use Rattle.sort_check.specs.Sorting.{AreGivenSorted}
use Rattle.sort_check.specs.declared.fault.SortFault.{SortFault}
use Rattle.sort_check.specs.declared.line.GivenEntry.{GivenEntry}
use Rattle.tstp_graph.specs.declared.fault.GraphFault.{GraphFault}
use Rattle.tptp_lexer.specs.declared.fault.LexFault.{LexFault}
use Rattle.tptp_grammar.specs.declared.fault.GrammarFault.{GrammarFault}
use Rattle.derivation_check.specs.Cases.{Asked}
use Rattle.derivation_check.specs.declared.checking.Report.{Report}
use Rattle.derivation_text.specs.Derivations.{IsDerivation, IsDerivationFault}
use Rattle.derivation_text.specs.Wants.{IsWant}
use Rattle.derivation_text.specs.declared.fault.DerivationFault.{DerivationFault}
use Rattle.derivation_text.specs.declared.fault.DerivationFault.TheVariants as derived
use Rattle.problem_proofs.specs.Proved.{IsProved}
use Rattle.problem_proofs.specs.declared.proved.Proved.TheVariants.{Proof}
use Rattle.read_problems.specs.Ending.{Ending}
use Rattle.read_problems.specs.Posed.{IsPosed as IsPosedBy}
use Rattle.read_problems.specs.Sources.{entry_marks, entry_names, entry_theory, have_conjecture, is_of_conjecture}
use Rattle.read_problems.specs.declared.posed.Posed.{Posed}
use Rattle.read_problems.specs.declared.sources.Source.{Source}
use Rattle.read_problems.specs.Spelled.{SaysGrammarFault, SaysLexFault}
use Rattle.tptp_commands.specs.Derived.{IsDerivationRefusal, SaysDerivationFault, SaysGraphFault, SaysLineFault}
use Rattle.proofs_are_verified.specs.Printed.{Asks, IsPosed}
use Rattle.proofs_are_verified.specs.code.Texts.{IsProofText}
use Rattle.proofs_are_verified.proofs.Posed.{problem_posed}
use Rattle.proofs_are_verified.proofs.Problems.{text_no_fault, text_not_stopped, text_verified}
use Rattle.tptp_run.specs.Verifying.{asked_by}
use Rattle.tptp_run.specs.code.Making.{IsReportOn}
use Rattle.tptp_run.specs.code.Printing.{HasNoReport, IsProofFrom, text_of}
use Rattle.tptp_run.specs.declared.report.NoReport.{NoReport}
use Rattle.tptp_run.specs.declared.report.NoReport.TheVariants.{Text, Room, Sink, Memory}

-- ---- what is refused is no want of memory

not_wanting : (file : List ℕ) (fault : DerivationFault) (ending : Ending) → SaysDerivationFault file fault ending → IsWant fault → ⊥
not_wanting file (derived.Lex fault) ending says want = subst (λ (f : LexFault). SaysLexFault file f ending) want says
not_wanting file (derived.Grammar fault) ending says want = subst (λ (f : GrammarFault). SaysGrammarFault file f ending) want says
not_wanting file (derived.Graph fault) ending says want = subst (λ (f : GraphFault). SaysGraphFault file f ending) want says
not_wanting file (derived.Sort fault) ending says want = subst (λ (f : SortFault). SaysLineFault file f ending) want says
not_wanting file derived.Memory ending says want = says

pub refused_text : (file text : List ℕ) (names : List Name) (v : Vocabulary) (ending : Ending) → IsDerivationRefusal file text names v ending → (fault : DerivationFault) × IsDerivationFault text names v fault × (IsWant fault → ⊥)
refused_text file text names v ending (fault, first, says) = (fault, first, not_wanting file fault ending says)

-- ---- what is posed

pub is_posed : (told : Option Files) (root : Option (List ℕ)) (file : List ℕ) (posed : Posed) → IsPosedBy told root file posed → AreGivenSorted posed.signature posed.given → length posed.given < 2 ^ 32 → IsPosed posed.signature posed.given
is_posed told root file posed is sorted few =
    subst (IsPosed posed.signature) (sym is.gives)
    (problem_posed told root file is.whole is.lines posed.signature is.resolves is.denotes (subst (AreGivenSorted posed.signature) is.gives sorted) (subst (λ (given : List GivenEntry). length given < 2 ^ 32) is.gives few))

-- ---- the text of a proof

pub proof_printed : (v : Vocabulary) (given : List GivenEntry) (limit : ℕ) (file : List ℕ) (items : List Item) → IsPosed v given → limit < 2 ^ 32 → 0 < length file → IsProved v given file limit (Proof items)
    → IsProofText v given limit file (have_conjecture given) (text_of file (have_conjecture given) items)
proof_printed v given limit file items posed small named proved = record { posed = posed; small = small; named = named; items = items; proved = proved; is = refl }

pub proof_from : (posed : Posed) (limit : ℕ) (file : List ℕ) (items : List Item) (source : Source) → IsProofText posed.signature posed.given limit file (have_conjecture posed.given) (text_of file (have_conjecture posed.given) items)
    → source.theory ≡ entry_theory posed.signature posed.given → source.signature ≡ posed.signature → source.names ≡ entry_names posed.given → source.marks ≡ entry_marks posed.given → source.has_conjecture ≡ have_conjecture posed.given
    → IsProofFrom file limit source (text_of file source.has_conjecture items)
proof_from posed limit file items source proof theory signature names marks conjecture = record {
  given = posed.given;
  proof = subst (λ (v : Vocabulary). IsProofText v posed.given limit file source.has_conjecture (text_of file source.has_conjecture items)) (sym signature)
      (subst (λ (b : Bool). IsProofText posed.signature posed.given limit file b (text_of file b items)) (sym conjecture) proof);
  theory = theory ∙ ap (λ (v : Vocabulary). entry_theory v posed.given) (sym signature);
  names = names;
  marks = marks;
}

-- ---- its check

module _ (file : List ℕ) (limit : ℕ) (source : Source) (text : List ℕ) (is : IsProofFrom file limit source text) (short : length text ≤ FILE_SIZE) where
  abbrev asked : Asked
  asked = asked_by file text source.marks source.has_conjecture limit

  asks : Asks is.given source.has_conjecture text asked source.theory
  asks = record {
    output = refl;
    claim = refl;
    formulas = ap (λ (t : Statements). t.formulas) is.theory;
    marks = omega (arith, ap length is.marks, ap (λ (t : Statements). length t.formulas) is.theory, length-map is.given (λ (entry : GivenEntry). is_of_conjecture entry.role), length-map is.given (λ (entry : GivenEntry). entry.form));
  }

  pub report_verified : (report : Report) (old new : Option (List ℕ)) → IsReportOn file text limit source.theory source.names source.signature source.marks source.has_conjecture report old new → report.verified ≡ true
  report_verified report old new (d, w, read, (log, taken, checks, counts)) =
      let own = subst (λ (names : List Name). IsDerivation text names source.signature d w) is.names read in
      text_verified source.signature is.given limit file source.has_conjecture text is.proof short asked source.theory asks d w own report.verified report.text log checks

  -- there is no report for want of memory alone
  pub only_memory : (fault : NoReport) → HasNoReport file text limit source.theory source.names source.signature source.marks source.has_conjecture (Rose 0 0) fault → fault ≡ Memory
  only_memory Text (fault, first, other) = absurd (other (text_no_fault source.signature is.given limit file source.has_conjecture text is.proof short fault (subst (λ (names : List Name). IsDerivationFault text names source.signature fault) is.names first)))
  only_memory Room (d, w, read, (place, log, stops)) =
      let own = subst (λ (names : List Name). IsDerivation text names source.signature d w) is.names read in
      absurd (text_not_stopped source.signature is.given limit file source.has_conjecture text is.proof short asked source.theory asks d w own place log stops)
  only_memory Sink failed = absurd (omega (arith, failed))
  only_memory Memory none = refl
