-- A run whose lines are all accepted, one of them falsehood, refutes.
use Rattle.std.proofs.Common.{◌≡◌, ℕ, ◌+◌, true, List, [], ◌∷◌, ◌++◌, length, Option, None, Some, slice_get, refl, sym, ◌∙◌, ap, subst, arith}
use Rattle.std.proofs.lemmas.Option.{slice_get_within}
use Rattle.fof_terms.specs.declared.form.Form.{Form, Or}
use Rattle.fof_terms.proofs.Scoped.{or_sorted}
use Rattle.fof_terms.specs.Sorts.{Sorted}
use Rattle.kernel.specs.Statements.{Statements}
use Rattle.kernel.specs.Entries.{Admits, Refutes, with_formula}
use Rattle.kernel.proofs.EntryLaws.{admits_append, admits_more}
use Rattle.kernel.specs.Proves.{Proves}
use Rattle.kernel.proofs.RuleEquivalences.{Proves-Line}
use Rattle.kernel.specs.declared.proof.Proof.{Line as Cited}
use Rattle.kernel.specs.declared.entry.Entry.{Entry}
use Rattle.kernel.specs.declared.entry.Entry.TheVariants.{Lemma}
use Rattle.tstp_graph.specs.Order.{is_taken, first_left}
use Rattle.verifier.specs.declared.answer.Verdict.{Verdict}
use Rattle.verifier.specs.declared.answer.Verdict.TheVariants.{Failed, NoFalse, BadClaim, Verified}
use Rattle.std.proofs.lemmas.List.{append-nil}
use Rattle.tptp_base.specs.Sink.{Takes, TakesPrefix}
use Rattle.proof_log.specs.Entries.{AreNumbersInRange, entry_text}
use Rattle.verifier.specs.Closing.{Closes, ClosesLog, HasFalseLine, IsFalseLine, IsLastFalse, IsVerified}
use Rattle.verifier.specs.Logged.{LogsSome}
use Rattle.verifier.specs.Lines.{Derivation, LinesStand}
use Rattle.verifier.specs.Report.{HasFalse, AreAccepted}
use Rattle.verifier.specs.Run.{IsRun, begun}
use Rattle.verifier.specs.declared.answer.LineAnswer.{LineAnswer}
use Rattle.verifier.proofs.Numbers.{all_numbered, begun_numbered, run_numbered}
use Rattle.verifier.proofs.Running.{answers_admit}
use Rattle.verifier.proofs.Slots.{last_is, has_value}
use Rattle.verifier.proofs.Turns.{none_left}

-- the entries of a run are legal in turn
pub run_admits : (start : Statements) (d : Derivation) (order : List ℕ) (answers : List LineAnswer) (entries : List Entry) (end : Statements) → IsRun start d order answers entries end → Admits start entries end
run_admits start d order answers entries end run = answers_admit d answers _ order entries (record { theory = end; numbers = run.numbers }) run.answered

-- falsehood among lines that are all accepted has a number
pub falsehood_numbered : (start : Statements) (d : Derivation) (order : List ℕ) (answers : List LineAnswer) (entries : List Entry) (end : Statements) → length d.forms ≡ length d.nodes → first_left (is_taken order) 0 d.nodes ≡ None → (run : IsRun start d order answers entries end) → AreAccepted answers → HasFalse d.forms → HasFalseLine d.forms run.numbers
falsehood_numbered start d order answers entries end same all run accepted (place, at) =
    let node = has_value d.nodes place (omega (arith, same, slice_get_within d.forms place (Or []) at)) in
    let zero_more : 0 + place ≡ place = omega arith in
    let taken : is_taken order place ≡ true = ap (is_taken order) (sym zero_more) ∙ none_left (is_taken order) 0 d.nodes place node.0 all node.1 in
    let has = all_numbered d answers (begun start d) order entries (record { theory = end; numbers = run.numbers }) place (length start.formulas) accepted (begun_numbered start d) run.answered taken in
    (has.0, record { place = place; is_false = at; numbered = has.1 })

-- a line that has a number stands in the theory behind the run
pub run_stands : (start : Statements) (d : Derivation) (order : List ℕ) (answers : List LineAnswer) (entries : List Entry) (end : Statements) → (run : IsRun start d order answers entries end) → LinesStand end d.forms run.numbers
run_stands start d order answers entries end run = (run_numbered start d order answers entries end run).stand

-- so falsehood stands there
pub falsehood_stands : (start : Statements) (d : Derivation) (order : List ℕ) (answers : List LineAnswer) (entries : List Entry) (end : Statements) → length d.forms ≡ length d.nodes → first_left (is_taken order) 0 d.nodes ≡ None → IsRun start d order answers entries end → AreAccepted answers → HasFalse d.forms → HasFalse end.formulas
falsehood_stands start d order answers entries end same all run accepted has =
    let found = falsehood_numbered start d order answers entries end same all run accepted has in
    (found.0, run_stands start d order answers entries end run found.1.place found.0 (Or []) found.1.numbered found.1.is_false)

false_sorted : (t : Statements) → Sorted t.vocabulary [] (Or [])
false_sorted t = or_sorted t.vocabulary [] 2147483647 (record { few_variables = omega arith; sorts_exist = tt }) [] tt

-- a line of the theory shows falsehood
pub line_shows : (t : Statements) (number : ℕ) → slice_get t.formulas number ≡ Some (Or []) → Proves t [] [] (Cited number) (Or [])
line_shows t number at = (Proves-Line t [] [] number (Or [])).1 (false_sorted t, at)

-- a line that is falsehood shows it
false_line_shows : (t : Statements) (forms : List Form) (numbers : List (Option ℕ)) (number : ℕ) → LinesStand t forms numbers → IsFalseLine forms numbers number → Proves t [] [] (Cited number) (Or [])
false_line_shows t forms numbers number stand is = line_shows t number (stand is.place number (Or []) is.numbered is.is_false)

-- the last entries are legal
pub closes_admits : (verdict : Verdict) (u : Statements) (forms : List Form) (numbers : List (Option ℕ)) (last : List Entry) → LinesStand u forms numbers → Closes verdict forms numbers last → (w : Statements) × Admits u last w
closes_admits (Verified word name lines) u forms numbers last stand (number, false_line, is) =
    let shows = false_line_shows u forms numbers number stand false_line.is in
    (with_formula u (Or []), subst (λ (es : List Entry). Admits u es (with_formula u (Or []))) (sym is) ((Or [], shows), (with_formula u (Or []), (Or [], shows, refl), refl)))
closes_admits (Failed unverified skipped lines) u forms numbers last stand is = (u, subst (λ (es : List Entry). Admits u es u) (sym is) refl)
closes_admits NoFalse u forms numbers last stand is = (u, subst (λ (es : List Entry). Admits u es u) (sym is) refl)
closes_admits (BadClaim word) u forms numbers last stand is = (u, subst (λ (es : List Entry). Admits u es u) (sym is) refl)

-- legal entries, and the last one for a verdict that all is verified, refute
pub closed_refutes : (t u : Statements) (entries last : List Entry) (forms : List Form) (numbers : List (Option ℕ)) (verdict : Verdict) → Admits t entries u → LinesStand u forms numbers → IsVerified verdict → Closes verdict forms numbers last → Refutes t (entries ++ last)
closed_refutes t u entries last forms numbers (Failed unverified skipped lines) admits stand verified closes = absurd verified
closed_refutes t u entries last forms numbers NoFalse admits stand verified closes = absurd verified
closed_refutes t u entries last forms numbers (BadClaim word) admits stand verified closes = absurd verified
closed_refutes t u entries last forms numbers (Verified word problem lines) admits stand verified (number, false_line, is) =
    let shows = false_line_shows u forms numbers number stand false_line.is in
    subst (λ (es : List Entry). Refutes t (entries ++ es)) (sym is)
    (with_formula u (Or []), admits_more t u (with_formula u (Or [])) entries (Lemma (Cited number)) admits (Or [], shows) (Or [], shows, refl), last_is u.formulas (Or []))

-- behind entries that lead to where a run begins
pub run_refutes : (t start : Statements) (before : List Entry) (d : Derivation) (order : List ℕ) (answers : List LineAnswer) (entries : List Entry) (end : Statements) (verdict : Verdict) (last : List Entry) → Admits t before start → (run : IsRun start d order answers entries end) → IsVerified verdict → Closes verdict d.forms run.numbers last
    → Refutes t (before ++ entries ++ last)
run_refutes t start before d order answers entries end verdict last first run verified closes =
    closed_refutes t end (before ++ entries) last d.forms run.numbers verdict (admits_append t start end before entries first (run_admits start d order answers entries end run)) (run_stands start d order answers entries end run) verified closes

-- ---- the last entry

-- the lemma that is logged where all is verified
pub last_closes : (verdict : Verdict) (forms : List Form) (numbers : List (Option ℕ)) (number : ℕ) (old new : Option (List ℕ)) → IsVerified verdict → IsLastFalse forms numbers number → Takes old new (entry_text (Lemma (Cited number))) → AreNumbersInRange (Lemma (Cited number)) → ClosesLog verdict forms numbers old new
last_closes (Failed unverified skipped lines) forms numbers number old new verified is taken fits = absurd verified
last_closes NoFalse forms numbers number old new verified is taken fits = absurd verified
last_closes (BadClaim word) forms numbers number old new verified is taken fits = absurd verified
last_closes (Verified word problem lines) forms numbers number old new verified is taken fits =
    (Lemma (Cited number) ∷ [], (number, is, refl), subst (Takes old new) (sym (append-nil (entry_text (Lemma (Cited number))))) taken, (fits, tt))

-- the last entry is cut
pub last_cut : (t : Statements) (forms : List Form) (numbers : List (Option ℕ)) (number : ℕ) (old new : Option (List ℕ)) → LinesStand t forms numbers → IsFalseLine forms numbers number → TakesPrefix old new (entry_text (Lemma (Cited number))) → LogsSome t old new
last_cut t forms numbers number old new stand is cut =
    let shows = false_line_shows t forms numbers number stand is in
    record {
      entries = Lemma (Cited number) ∷ [];
      theory = with_formula t (Or []);
      legal = ((Or [], shows), (with_formula t (Or []), (Or [], shows, refl), refl));
      taken = subst (TakesPrefix old new) (sym (append-nil (entry_text (Lemma (Cited number))))) cut;
    }
