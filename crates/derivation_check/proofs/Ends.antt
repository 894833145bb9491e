-- How a check ends: its report, and its log as a whole.
use Rattle.std.specs.Prelude.{IfOk, OnErr, codes}
use Rattle.std.proofs.Common.{◌≡◌, ◌<◌, ◌≤◌, inl, inr, arith, ℕ, Bool, true, false, List, [], ◌++◌, length, map, drop, Option, None, Some, Result, Ok, Err, refl, sym, ◌∙◌, ap, subst, append_assoc}
use Rattle.fof_terms.specs.Vocabulary.{Vocabulary}
use Rattle.fof_terms.specs.declared.form.Form.{Form}
use Rattle.kernel.specs.Statements.{Statements}
use Rattle.kernel.specs.Entries.{Refutes}
use Rattle.kernel.proofs.EntryLaws.{admits_append}
use Rattle.kernel.specs.declared.entry.Decl.TheVariants.{Sort, Symbol}
use Rattle.kernel.specs.declared.entry.Entry.{Entry}
use Rattle.kernel.specs.declared.entry.Entry.TheVariants.{Declare}
use Rattle.proof_log.specs.Entries.{AreLogged, log_text}
use Rattle.sort_check.specs.Bringing.{Brings}
use Rattle.tstp_graph.specs.Order.{is_taken, first_left, TakesInTurn}
use Rattle.verifier.specs.declared.answer.Verdict.{Verdict}
use Rattle.verifier.specs.declared.answer.Verdict.TheVariants.{Failed, NoFalse, BadClaim, Verified}
use Rattle.derivation_text.specs.declared.derivation.Derivation.{Derivation}
use Rattle.verifier.specs.Marks.{cites_marked, is_marked, some_marked_ref}
use Rattle.derivation_check.specs.Claim.{IsJustified, JustifiesSome}
use Rattle.verifier.specs.Citing.{DoNotCite}
use Rattle.verifier.specs.Closing.{Closes, HasFalseLine, IsVerified}
use Rattle.verifier.specs.Declarations.{declarations}
use Rattle.verifier.specs.Good.{HaveRoom}
use Rattle.verifier.specs.Lines.{LinesStand}
use Rattle.verifier.specs.Logged.{LogsSome}
use Rattle.verifier.specs.Report.{AreAccepted, HasFalse}
use Rattle.derivation_check.specs.Endings.{IsVerdict}
use Rattle.verifier.specs.Unsearched.{AreUnsearched}
use Rattle.verifier.specs.declared.answer.LineAnswer.{LineAnswer}
use Rattle.derivation_check.specs.declared.claiming.Claim.{Claim}
use Rattle.verifier.specs.declared.fault.RunFault.{RunFault}
use Rattle.verifier.specs.declared.run.Outcome.{Outcome}
use Rattle.verifier.proofs.Logs.{range_both}
use Rattle.verifier.proofs.Accepting.{accepted_good}
use Rattle.verifier.proofs.Citing.{both_spare, declarations_spare, run_spares}
use Rattle.verifier.proofs.Refuting.{closed_refutes, closes_admits, falsehood_numbered, run_stands}
use Rattle.verifier.proofs.Goodness.{good_accepted}
use Rattle.verifier.proofs.Rooms.{good_not_stopped as never_stopped}
use Rattle.verifier.proofs.Marking.{good_unmarked}
use Rattle.derivation_check.specs.Cases.{Asked, claim_by, claimed, lines_over, widened}
use Rattle.derivation_check.specs.Checks.{Checks, Stops, is_verified}
use Rattle.derivation_check.specs.GoodCases.{IsGoodCase}
use Rattle.derivation_check.specs.code.Logs.{Closed, LogsRuns}
use Rattle.derivation_check.specs.Logs.{ChecksWithLog, TakesSomeOfLog}
use Rattle.derivation_check.specs.declared.checking.Report.{Report}
use Rattle.derivation_check.proofs.Logged.{check_logged}
use Rattle.derivation_check.proofs.LogTexts.{log_all, log_cut, log_more}
use Rattle.derivation_check.proofs.Runs.{runs_admit}

-- a verdict that all is verified says that falsehood is among the lines
pub verdict_found : (claim : Claim) (problem : List ℕ) (forms : List Form) (numbers : List (Option ℕ)) (answers : List LineAnswer) (verdict : Verdict) → IsVerdict claim problem forms answers verdict → (AreAccepted answers → HasFalse forms → HasFalseLine forms numbers) → IsVerified verdict → HasFalseLine forms numbers
verdict_found claim problem forms numbers answers (Verified word name lines) is found sure = found is.0 is.1
verdict_found claim problem forms numbers answers (Failed unverified skipped lines) is found sure = absurd sure
verdict_found claim problem forms numbers answers NoFalse is found sure = absurd sure
verdict_found claim problem forms numbers answers (BadClaim word) is found sure = absurd sure

verified_sure : (verdict : Verdict) → true ≡ is_verified verdict → IsVerified verdict
verified_sure (Verified word name lines) e = tt
verified_sure (Failed unverified skipped lines) e = absurd cc
verified_sure NoFalse e = absurd cc
verified_sure (BadClaim word) e = absurd cc

module _ (asked : Asked) (t : Statements) (d : Derivation) (w : Vocabulary) (outcome : Outcome) (end : Statements) (old mid : Option (List ℕ)) (ran : LogsRuns asked.limit t d w outcome.answers outcome.numbers end old mid) where
  pub found : length d.forms ≡ length d.graph.nodes → first_left (is_taken d.graph.order) 0 d.graph.nodes ≡ None → AreAccepted outcome.answers → HasFalse d.forms → HasFalseLine d.forms outcome.numbers
  found same all accepted has =
      subst (HasFalseLine d.forms) ran.numbered (falsehood_numbered (widened t w) (lines_over t d asked.limit) d.graph.order outcome.answers ran.runs.own end same all ran.runs.run accepted has)

  stand : LinesStand end d.forms outcome.numbers
  stand = subst (LinesStand end d.forms) ran.numbered (run_stands (widened t w) (lines_over t d asked.limit) d.graph.order outcome.answers ran.runs.own end ran.runs.run)

  pub run_count : length d.names ≡ length d.graph.nodes → length d.names ≡ length outcome.answers
  run_count each = each ∙ sym ran.runs.run.count

  module _ (new : Option (List ℕ)) where
    joined : (report : Report) → Closed asked d outcome.answers outcome.numbers report mid new → ChecksWithLog asked t d w report old new
    joined report closed = (
      log_text (ran.entries ++ closed.last),
      log_more old mid new ran.entries closed.last ran.taken closed.taken,
      record {
        answers = outcome.answers;
        entries = ran.entries;
        end = end;
        runs = ran.runs;
        verdict = closed.verdict;
        first_that_applies = closed.first_that_applies;
        last = closed.last;
        closes = subst (λ (numbers : List (Option ℕ)). Closes closed.verdict d.forms numbers closed.last) (sym ran.numbered) closed.closes;
        in_range = range_both ran.entries closed.last ran.in_range closed.in_range;
        verified_is = closed.verified;
        report_is = closed.text;
        log_is = refl;
      },
      closed.counts,
    )

    pub all_joined : (r : Result Report RunFault) → IfOk r (λ report. Closed asked d outcome.answers outcome.numbers report mid new) → IfOk r (λ report. ChecksWithLog asked t d w report old new)
    all_joined (Ok report) closed = joined report closed
    all_joined (Err fault) closed = tt

    pub all_logged : (r : Result Report RunFault) → IfOk r (λ report. Closed asked d outcome.answers outcome.numbers report mid new) → ((u : Statements) → LinesStand u d.forms outcome.numbers → OnErr r (LogsSome u mid new)) → TakesSomeOfLog t old new
    all_logged (Ok report) closed cut =
        let legal = closes_admits closed.verdict end d.forms outcome.numbers closed.last stand closed.closes in
        log_all t legal.0 (ran.entries ++ closed.last) old new
        (admits_append t end legal.0 ran.entries closed.last (runs_admit asked.limit t d w outcome.answers ran.entries end ran.runs) legal.1)
        (log_more old mid new ran.entries closed.last ran.taken closed.taken)
    all_logged (Err fault) closed cut = log_cut t end ran.entries old mid new (runs_admit asked.limit t d w outcome.answers ran.entries end ran.runs) ran.taken (cut end stand)

-- ---- laws

check_refutes : (asked : Asked) (t : Statements) (d : Derivation) (w : Vocabulary) (report log : List ℕ) (c : Checks asked t d w true report log) → Refutes t (c.entries ++ c.last)
check_refutes asked t d w report log c =
    closed_refutes t c.end c.entries c.last d.forms c.runs.run.numbers c.verdict (runs_admit asked.limit t d w c.answers c.entries c.end c.runs)
    (run_stands (widened t w) (lines_over t d asked.limit) d.graph.order c.answers c.runs.own c.end c.runs.run) (verified_sure c.verdict c.verified_is) c.closes

-- a verified derivation refutes
pub refutes : (asked : Asked) (t : Statements) (d : Derivation) (w : Vocabulary) (report log : List ℕ) → Checks asked t d w true report log → (entries : List Entry) × (log ≡ log_text entries) × Refutes t entries
refutes asked t d w report log c = (c.entries ++ c.last, c.log_is, check_refutes asked t d w report log c)

-- and its log can be read back, where it names what it brings
pub refutes_logged : (asked : Asked) (t : Statements) (d : Derivation) (w : Vocabulary) (report log : List ℕ) → Checks asked t d w true report log → Brings t.vocabulary w → (entries : List Entry) × (log ≡ log_text entries) × Refutes t entries × AreLogged entries
refutes_logged asked t d w report log c brings = (c.entries ++ c.last, c.log_is, check_refutes asked t d w report log c, check_logged asked t d w true report log c brings)

of_some : (x y : List ℕ) → Some x ≡ Some y → x ≡ y
of_some x y is = cc

-- a claim that the axioms contradict each other is justified only where no line cites a conjecture
claim_unmarked : (claim : Claim) → claim.word ≡ Some (codes "ContradictoryAxioms") → IsJustified claim → claim.cites_conjecture ≡ false
claim_unmarked claim word justified = by claim.word word justified
  where
    by : (said : Option (List ℕ)) → said ≡ Some (codes "ContradictoryAxioms") → JustifiesSome said claim.has_conjecture claim.cites_conjecture → claim.cites_conjecture ≡ false
    by None is justifies = absurd (cc)
    by (Some w) is (inl theorem) =
        let same : codes "Theorem" ≡ codes "ContradictoryAxioms" = sym theorem.0 ∙ of_some w (codes "ContradictoryAxioms") is in
        let letters : 7 ≡ 19 = ap (λ (xs : List ℕ). length xs) same in
        absurd (omega (arith, letters))
    by (Some w) is (inr (inl unsatisfiable)) =
        let same : codes "Unsatisfiable" ≡ codes "ContradictoryAxioms" = sym unsatisfiable.0 ∙ of_some w (codes "ContradictoryAxioms") is in
        let letters : 13 ≡ 19 = ap (λ (xs : List ℕ). length xs) same in
        absurd (omega (arith, letters))
    by (Some w) is (inr (inr contradictory)) = contradictory.2

verdict_parts : (claim : Claim) (problem : List ℕ) (forms : List Form) (answers : List LineAnswer) (verdict : Verdict) → IsVerdict claim problem forms answers verdict → IsVerified verdict → AreAccepted answers × HasFalse forms × IsJustified claim
verdict_parts claim problem forms answers (Verified word name lines) is sure = (is.0, is.1, is.2)
verdict_parts claim problem forms answers (Failed unverified skipped lines) is sure = absurd sure
verdict_parts claim problem forms answers NoFalse is sure = absurd sure
verdict_parts claim problem forms answers (BadClaim word) is sure = absurd sure

-- so no entry of the log does
check_spares : (asked : Asked) (t : Statements) (d : Derivation) (w : Vocabulary) (report log : List ℕ) (c : Checks asked t d w true report log) → claimed asked.output ≡ Some (codes "ContradictoryAxioms") → (number : ℕ) → number < length t.formulas → is_marked asked.marks number ≡ true → DoNotCite number (c.entries ++ c.last)
check_spares asked t d w report log c word number within marked =
    let parts = verdict_parts (claim_by asked c.answers) asked.problem d.forms c.answers c.verdict c.first_that_applies (verified_sure c.verdict c.verified_is) in
    let sorts = map (λ name. Declare (Sort name)) (drop (length t.vocabulary.sorts) w.sorts) in
    let symbols = map (λ symbol. Declare (Symbol symbol)) (drop (length t.vocabulary.symbols) w.symbols) in
    subst (λ (es : List Entry). DoNotCite number (es ++ c.last)) (sym c.runs.entries_are)
    (subst (DoNotCite number) (sym (append_assoc (declarations t.vocabulary w) c.runs.own c.last))
    (both_spare number (declarations t.vocabulary w) (c.runs.own ++ c.last)
    (both_spare number sorts symbols (declarations_spare number (λ name. Sort name) (drop (length t.vocabulary.sorts) w.sorts)) (declarations_spare number (λ symbol. Symbol symbol) (drop (length t.vocabulary.symbols) w.symbols)))
    (run_spares (widened t w) (lines_over t d asked.limit) d.graph.order c.answers c.runs.own c.end c.verdict c.last asked.marks number c.runs.run c.closes (claim_unmarked (claim_by asked c.answers) word parts.2) within marked)))

pub spares : (asked : Asked) (t : Statements) (d : Derivation) (w : Vocabulary) (report log : List ℕ) → Checks asked t d w true report log → claimed asked.output ≡ Some (codes "ContradictoryAxioms")
    → (entries : List Entry) × (log ≡ log_text entries) × Refutes t entries × ((number : ℕ) → number < length t.formulas → is_marked asked.marks number ≡ true → DoNotCite number entries)
spares asked t d w report log c word = (c.entries ++ c.last, c.log_is, check_refutes asked t d w report log c, check_spares asked t d w report log c word)

-- a good derivation with a justified claim has no other verdict
good_verdict : (claim : Claim) (problem : List ℕ) (forms : List Form) (answers : List LineAnswer) (verdict : Verdict) → AreAccepted answers → HasFalse forms → IsJustified claim → IsVerdict claim problem forms answers verdict → is_verified verdict ≡ true
good_verdict claim problem forms answers (Verified word name lines) accepted has justified is = refl
good_verdict claim problem forms answers (Failed unverified skipped lines) accepted has justified is = absurd (some_not accepted is.0)
  where
    some_not : {n : ℕ} → n ≡ 0 → 0 < n → ⊥
    some_not zero less = omega (arith, zero, less)
good_verdict claim problem forms answers NoFalse accepted has justified is = absurd (is.1 has)
good_verdict claim problem forms answers (BadClaim word) accepted has justified is = absurd (is.2 justified)

-- a claim that is justified is so where the lines cite less of the conjecture
still_justified : (word : Option (List ℕ)) (has before after : Bool) → (before ≡ false → after ≡ false) → JustifiesSome word has before → JustifiesSome word has after
still_justified None has before after less justified = tt
still_justified (Some word) has before after less (inl theorem) = inl theorem
still_justified (Some word) has before after less (inr (inl unsatisfiable)) = inr (inl unsatisfiable)
still_justified (Some word) has before after less (inr (inr (is, with_conjecture, none))) = inr (inr (is, with_conjecture, less none))

pub good_verified : (asked : Asked) (t : Statements) (d : Derivation) (w : Vocabulary) (verified : Bool) (report log : List ℕ) → length asked.marks ≤ length t.formulas → TakesInTurn d.graph.nodes [] d.graph.order → first_left (is_taken d.graph.order) 0 d.graph.nodes ≡ None
    → IsGoodCase asked t d w → Checks asked t d w verified report log → verified ≡ true
good_verified asked t d w verified report log marked turns all good c =
    let accepted = good_accepted (widened t w) (lines_over t d asked.limit) d.graph.order good.cites c.answers c.runs.own c.end refl good.good turns all c.runs.run in
    let less = good_unmarked (widened t w) (lines_over t d asked.limit) d.graph.order good.cites c.answers c.runs.own c.end asked.marks refl good.good turns all c.runs.run marked in
    let justified = still_justified (claimed asked.output) asked.has_conjecture (some_marked_ref asked.marks good.cites) (cites_marked asked.marks c.answers) less good.justified in
    c.verified_is ∙ good_verdict (claim_by asked c.answers) asked.problem d.forms c.answers c.verdict accepted good.good.ends justified c.first_that_applies

-- a check of a good derivation does not stop
pub good_not_stopped : (asked : Asked) (t : Statements) (d : Derivation) (w : Vocabulary) (place : ℕ) (log : List ℕ) → TakesInTurn d.graph.nodes [] d.graph.order → IsGoodCase asked t d w → Stops asked t d w place log → ⊥
good_not_stopped asked t d w place log turns good s = never_stopped (widened t w) (lines_over t d asked.limit) d.graph.order good.cites place s.own s.end refl good.good turns good.room s.stopped

-- a derivation that is verified by rules alone is good, where there is room by its texts, and its claim is justified by
-- what its lines cite
pub verified_good : (asked : Asked) (t : Statements) (d : Derivation) (w : Vocabulary) (report log : List ℕ) → length asked.marks ≤ length t.formulas → HaveRoom w (lines_over t d asked.limit) → (c : Checks asked t d w true report log) → AreUnsearched c.answers → IsGoodCase asked t d w
verified_good asked t d w report log marked room c direct =
    let sure = verified_sure c.verdict c.verified_is in
    let parts = verdict_parts (claim_by asked c.answers) asked.problem d.forms c.answers c.verdict c.first_that_applies sure in
    let good = accepted_good (widened t w) (lines_over t d asked.limit) d.graph.order c.answers c.runs.own c.end refl c.runs.run parts.0 direct parts.1 in
    record {
      cites = good.0;
      good = good.1;
      justified = still_justified (claimed asked.output) asked.has_conjecture (cites_marked asked.marks c.answers) (some_marked_ref asked.marks good.0) (good.2 asked.marks marked) parts.2;
      room = room;
    }
