-- How lines are run one by one.
use Rattle.std.proofs.Common.{◌≡◌, ℕ, zero, suc, ◌+◌, ◌<◌, true, List, [], ◌∷◌, ◌++◌, length, take, drop, get_or, Option, None, Some, Result, IfOk, slice_get, slice_set, replicate, refl, sym, ◌∙◌, ap, subst, append_assoc, drop-cons, add-one, arith}
use Rattle.std.proofs.lemmas.List.{append-nil, length-set, take_more}
use Rattle.fof_terms.specs.declared.form.Form.{Form}
use Rattle.tptp_base.specs.Sink.{Takes}
use Rattle.tptp_base.proofs.Taken.{takes_nothing}
use Rattle.kernel.specs.Statements.{Statements}
use Rattle.kernel.specs.Entries.{Admits}
use Rattle.kernel.proofs.EntryLaws.{admits_append}
use Rattle.kernel.specs.declared.entry.Entry.{Entry}
use Rattle.proof_log.specs.Entries.{HaveNumbersInRange}
use Rattle.clause_form.specs.declared.path.Parent.{Parent}
use Rattle.tstp_graph.specs.declared.shape.Node.{Node}
use Rattle.tstp_graph.specs.Order.{is_taken, TakesInTurn}
use Rattle.verifier.specs.Lines.{Derivation, Line, parents_of}
use Rattle.verifier.specs.Logged.{LogsSome, LogsRun, LogsStopped, entries_text}
use Rattle.verifier.specs.code.Numbered.{progress_of}
use Rattle.verifier.specs.Run.{Progress, IsAnswered, AnswersPlace, AreAnswered, LacksRoom, begun}
use Rattle.verifier.specs.code.Taking.{RunsLine, StopsAt}
use Rattle.verifier.specs.declared.answer.LineAnswer.{LineAnswer}
use Rattle.verifier.specs.declared.answer.LineAnswer.TheVariants.{Accepted, Unverified, Skipped}
use Rattle.verifier.specs.declared.run.Outcome.{Outcome}
use Rattle.verifier.proofs.Logs.{range_both, takes_more_entries, logs_more}
use Rattle.verifier.proofs.Slots.{set_here, set_elsewhere}
use Rattle.verifier.proofs.Turns.{HasTurn, turn_of, taken_last, taken_still, taken_apart}

-- the entries of one answer are legal in turn
pub answer_admits : (d : Derivation) (old : Progress) (place : ℕ) (line : Line) (parents : Option (List Parent)) (answer : LineAnswer) (entries : List Entry) (new : Progress) → IsAnswered d old place line parents answer entries new → Admits old.theory entries new.theory
answer_admits d old place line None Skipped entries new is = subst (λ (es : List Entry). Admits old.theory es new.theory) (sym is.0) (ap (λ (p : Progress). p.theory) is.1)
answer_admits d old place line None (Accepted rule cites) entries new is = absurd is
answer_admits d old place line None (Unverified reason) entries new is = absurd is
answer_admits d old place line (Some parents) Skipped entries new is = absurd is
answer_admits d old place line (Some parents) (Accepted rule cites) entries new is = subst (λ (p : Progress). Admits old.theory entries p.theory) (sym is.1.2) is.1.1
answer_admits d old place line (Some parents) (Unverified reason) entries new is = subst (λ (es : List Entry). Admits old.theory es new.theory) (sym is.1) (ap (λ (p : Progress). p.theory) is.2)

pub place_admits : (d : Derivation) (answers : List LineAnswer) (old : Progress) (place : ℕ) (entries : List Entry) (new : Progress) → AnswersPlace d answers old place entries new → Admits old.theory entries new.theory
place_admits d answers old place entries new a =
    answer_admits d old place a.line (parents_of d.given d.forms old.numbers a.line.node.parents) a.answer entries new a.is

-- the entries of all answers are
pub answers_admit : (d : Derivation) (answers : List LineAnswer) (old : Progress) (places : List ℕ) (entries : List Entry) (new : Progress) → AreAnswered d answers old places entries new → Admits old.theory entries new.theory
answers_admit d answers old [] entries new are = subst (λ (es : List Entry). Admits old.theory es new.theory) (sym are.0) (ap (λ (p : Progress). p.theory) are.1)
answers_admit d answers old (place ∷ places) entries new (own, mid, answered, (later, is, rest)) =
    subst (λ (es : List Entry). Admits old.theory es new.theory) (sym is)
    (admits_append old.theory mid.theory new.theory own later (place_admits d answers old place own mid answered) (answers_admit d answers mid places later new rest))

-- both lists have the same answers at the places that are taken
abbrev pub AgreeOn : List ℕ → List LineAnswer → List LineAnswer → Type 0
AgreeOn taken final answers = (k : ℕ) → is_taken taken k ≡ true → slice_get final k ≡ slice_get answers k

-- Some lines of the order are answered, and what is answered of lines behind them can follow.
pub record IsRunning (d : Derivation) (start : Progress) (order : List ℕ) (now : Progress) (answers : List LineAnswer) (done rest : List ℕ) (log_old log_now : Option (List ℕ)) : Type 0 where
  pub order_is : order ≡ done ++ rest
  pub turns : TakesInTurn d.nodes done rest
  pub count : length answers ≡ length d.nodes
  pub entries : List Entry
  pub legal : Admits start.theory entries now.theory
  pub goes_on : (final : List LineAnswer) → AgreeOn done final answers → (places : List ℕ) (later : List Entry) (end : Progress) → AreAnswered d final now places later end → AreAnswered d final start (done ++ places) (entries ++ later) end
  pub taken : Takes log_old log_now (entries_text entries)
  pub in_range : HaveNumbersInRange entries

pub running_none : (d : Derivation) (start : Progress) (order : List ℕ) (answers : List LineAnswer) (log : Option (List ℕ)) → TakesInTurn d.nodes [] order → length answers ≡ length d.nodes → IsRunning d start order start answers [] order log log
running_none d start order answers log turns count = record {
  order_is = refl;
  turns = turns;
  count = count;
  entries = [];
  legal = refl;
  goes_on = λ final agree places later end are. are;
  taken = takes_nothing log;
  in_range = tt;
}

-- the place that has its turn
pub running_turn : (d : Derivation) (start : Progress) (order : List ℕ) (now : Progress) (answers : List LineAnswer) (done here rest : List ℕ) (place : ℕ) (log_old log_now : Option (List ℕ)) → here ≡ place ∷ rest → IsRunning d start order now answers done here log_old log_now → HasTurn d.nodes done place
running_turn d start order now answers done here rest place log_old log_now is so_far =
    let turns : TakesInTurn d.nodes done (place ∷ rest) = subst (TakesInTurn d.nodes done) is so_far.turns in
    turn_of d.nodes done place turns.0

within : {X : Type 0} (xs : List X) (k : ℕ) (x : X) → slice_get xs k ≡ Some x → k < length xs
within [] k x at = absurd (cc)
within (y ∷ xs) zero x at = omega arith
within (y ∷ xs) (suc k) x at = let lt = within xs k x at in omega arith

pub turn_within : (nodes : List Node) (done : List ℕ) (place : ℕ) → HasTurn nodes done place → place < length nodes
turn_within nodes done place turn = within nodes place turn.node turn.there

pub running_more : (d : Derivation) (start : Progress) (order : List ℕ) (now new : Progress) (answers more : List LineAnswer) (done longer here rest : List ℕ) (place : ℕ) (answer : LineAnswer) (log_old log_now log_new : Option (List ℕ)) → here ≡ place ∷ rest → longer ≡ done ++ place ∷ [] → more ≡ slice_set answers place answer
    → IsRunning d start order now answers done here log_old log_now → RunsLine d now place answer new log_now log_new → IsRunning d start order new more longer rest log_old log_new
running_more d start order now new answers more done longer here rest place answer log_old log_now log_new is_here is_longer is_more so_far answered =
    let before : IsRunning d start order now answers done (place ∷ rest) log_old log_now = subst (λ (ps : List ℕ). IsRunning d start order now answers done ps log_old log_now) is_here so_far in
    let turn : HasTurn d.nodes done place = turn_of d.nodes done place before.turns.0 in
    let set : List LineAnswer = slice_set answers place answer in
    let here_is : slice_get set place ≡ Some answer = set_here answers place answer (omega (arith, turn_within d.nodes done place turn, before.count)) in
    let stays : (k : ℕ) → is_taken done k ≡ true → slice_get set k ≡ slice_get answers k = λ k taken. set_elsewhere answers place k answer (taken_apart done place k turn.is_new taken) in
    subst (λ (as_ : List LineAnswer). IsRunning d start order new as_ longer rest log_old log_new) (sym is_more)
    (subst (λ (ps : List ℕ). IsRunning d start order new set ps rest log_old log_new) (sym is_longer) (record {
      order_is = before.order_is ∙ sym (append_assoc done (place ∷ []) rest);
      turns = before.turns.1;
      count = length-set answers place answer ∙ before.count;
      entries = before.entries ++ answered.entries;
      legal = admits_append start.theory now.theory new.theory before.entries answered.entries before.legal (answer_admits d now place answered.line (parents_of d.given d.forms now.numbers answered.line.node.parents) answer answered.entries new answered.is);
      goes_on = λ final agree places later end are.
          subst (λ (ps : List ℕ). AreAnswered d final start ps ((before.entries ++ answered.entries) ++ later) end) (sym (append_assoc done (place ∷ []) places))
          (subst (λ (es : List Entry). AreAnswered d final start (done ++ place ∷ places) es end) (sym (append_assoc before.entries answered.entries later))
          (before.goes_on final (λ k taken. agree k (taken_still done place k taken) ∙ stays k taken) (place ∷ places) (answered.entries ++ later) end (
            answered.entries,
            new,
            record { line = answered.line; there = answered.there; room = answered.room; answer = answer; answer_there = agree place (taken_last done place) ∙ here_is; is = answered.is },
            (later, refl, are),
          )));
      taken = takes_more_entries log_old log_now log_new before.entries answered.entries before.taken answered.taken;
      in_range = range_both before.entries answered.entries before.in_range answered.in_range;
    }))

-- the log is cut behind the lines so far
pub running_cut : (d : Derivation) (start : Progress) (order : List ℕ) (now : Progress) (answers : List LineAnswer) (done rest : List ℕ) (log_old log_now log_new : Option (List ℕ)) → IsRunning d start order now answers done rest log_old log_now → LogsSome now.theory log_now log_new → LogsSome start.theory log_old log_new
running_cut d start order now answers done rest log_old log_now log_new so_far cut = logs_more start.theory now.theory so_far.entries log_old log_now log_new so_far.legal so_far.taken cut

-- the lines so far are answered
answered_so_far : (d : Derivation) (start : Progress) (order : List ℕ) (now : Progress) (answers : List LineAnswer) (done rest : List ℕ) (log_old log_now : Option (List ℕ)) → (r : IsRunning d start order now answers done rest log_old log_now) → AreAnswered d answers start done r.entries now
answered_so_far d start order now answers done rest log_old log_now r =
    subst (λ (ps : List ℕ). AreAnswered d answers start ps r.entries now) (append-nil done)
    (subst (λ (es : List Entry). AreAnswered d answers start (done ++ []) es now) (append-nil r.entries) (r.goes_on answers (λ k taken. refl) [] [] now (refl, refl)))

pub running_all : (d : Derivation) (t : Statements) (order : List ℕ) (end : Statements) (numbers : List (Option ℕ)) (answers : List LineAnswer) (done rest : List ℕ) (log_old log_now : Option (List ℕ)) → rest ≡ [] → IsRunning d (begun t d) order (progress_of end numbers) answers done rest log_old log_now → LogsRun t d order answers numbers end log_old log_now
running_all d t order end numbers answers done rest log_old log_now none so_far =
    let all : IsRunning d (begun t d) order (progress_of end numbers) answers done [] log_old log_now = subst (λ (ps : List ℕ). IsRunning d (begun t d) order (progress_of end numbers) answers done ps log_old log_now) none so_far in
    let order_is : order ≡ done = all.order_is ∙ append-nil done in
    record {
      entries = all.entries;
      run = record {
        count = all.count;
        numbers = numbers;
        answered = subst (λ (ps : List ℕ). AreAnswered d answers (begun t d) ps all.entries (progress_of end numbers)) (sym order_is) (answered_so_far d (begun t d) order (progress_of end numbers) answers done [] log_old log_now all);
      };
      numbered = refl;
      taken = all.taken;
      in_range = all.in_range;
    }

-- the run stops where there is no room for the line that has its turn
pub running_stopped : (d : Derivation) (t : Statements) (order : List ℕ) (end : Statements) (numbers : List (Option ℕ)) (answers : List LineAnswer) (done here rest : List ℕ) (place : ℕ) (log_old log_now : Option (List ℕ)) → here ≡ place ∷ rest
    → IsRunning d (begun t d) order (progress_of end numbers) answers done here log_old log_now → LacksRoom d (progress_of end numbers) place → LogsStopped t d order place end log_old log_now
running_stopped d t order end numbers answers done here rest place log_old log_now here_is so_far lacks = record {
  entries = so_far.entries;
  stopped = record {
    before = done;
    behind = rest;
    order_is = so_far.order_is ∙ ap (λ (ps : List ℕ). done ++ ps) here_is;
    answers = answers;
    numbers = numbers;
    answered = answered_so_far d (begun t d) order (progress_of end numbers) answers done here log_old log_now so_far;
    lacks = lacks;
  };
  taken = so_far.taken;
  in_range = so_far.in_range;
}

-- as the code finds it
pub stopped_here : (d : Derivation) (t : Statements) (order : List ℕ) (now end : Statements) (numbers after : List (Option ℕ)) (answers : List LineAnswer) (done here rest : List ℕ) (place at : ℕ) (log_old log_now log_new : Option (List ℕ)) → here ≡ place ∷ rest
    → IsRunning d (begun t d) order (progress_of now numbers) answers done here log_old log_now → StopsAt d (progress_of now numbers) place (progress_of end after) log_now log_new at → LogsStopped t d order at end log_old log_new
stopped_here d t order now end numbers after answers done here rest place at log_old log_now log_new here_is so_far (at_is, lacks, same, log_is) =
    subst (λ (k : ℕ). LogsStopped t d order k end log_old log_new) (sym at_is)
    (subst (λ (x : Statements). LogsStopped t d order place x log_old log_new) (sym (ap (λ (p : Progress). p.theory) same))
    (subst (λ (log : Option (List ℕ)). LogsStopped t d order place now log_old log) (sym log_is)
    (running_stopped d t order now numbers answers done here rest place log_old log_now here_is so_far lacks)))

-- ---- the places in an order

pub place_here : (order : List ℕ) (i : ℕ) → i < length order → drop i order ≡ get_or order i 0 ∷ drop (i + 1) order
place_here order i lt = rw add-one (drop-cons order i 0 lt)

pub place_done : (order : List ℕ) (i : ℕ) → i < length order → take (i + 1) order ≡ take i order ++ get_or order i 0 ∷ []
place_done order i lt = take_more order i 0 lt

pub running_begins : (d : Derivation) (t : Statements) (order : List ℕ) (numbers : List (Option ℕ)) (answers : List LineAnswer) (count : ℕ) (log : Option (List ℕ)) → numbers ≡ replicate count None → count ≡ length d.nodes → length answers ≡ count → TakesInTurn d.nodes [] order → IsRunning d (begun t d) order (progress_of t numbers) answers [] order log log
running_begins d t order numbers answers count log is all same turns =
    subst (λ (ns : List (Option ℕ)). IsRunning d (begun t d) order (progress_of t ns) answers [] order log log) (sym (is ∙ ap (λ (n : ℕ). replicate n None) all))
    (running_none d (begun t d) order answers log turns (same ∙ all))

-- a run over the formulas of a theory, which are the given formulas
module _ {E : Type 0} (result : Result Outcome E) (t end : Statements) (old new : Option (List ℕ)) (limit : ℕ) where
  pub ran_over : (given all : List Form) (nodes graph : List Node) (forms : List Form) (places order : List ℕ) → given ≡ all → nodes ≡ graph → places ≡ order
      → IfOk result (λ ran. LogsRun t (record { given = given; nodes = nodes; forms = forms; limit = limit }) places ran.answers ran.numbers end old new) → IfOk result (λ ran. LogsRun t (record { given = all; nodes = graph; forms = forms; limit = limit }) order ran.answers ran.numbers end old new)
  ran_over given all nodes graph forms places order one two three ran =
      subst (λ (ps : List ℕ). IfOk result (λ ran. LogsRun t (record { given = all; nodes = graph; forms = forms; limit = limit }) ps ran.answers ran.numbers end old new)) three
      (subst (λ (ns : List Node). IfOk result (λ ran. LogsRun t (record { given = all; nodes = ns; forms = forms; limit = limit }) places ran.answers ran.numbers end old new)) two
      (subst (λ (fs : List Form). IfOk result (λ ran. LogsRun t (record { given = fs; nodes = nodes; forms = forms; limit = limit }) places ran.answers ran.numbers end old new)) one ran))

-- the same where the run stops
module _ (t end : Statements) (old new : Option (List ℕ)) (limit place : ℕ) where
  pub stopped_over : (given all : List Form) (nodes graph : List Node) (forms : List Form) (places order : List ℕ) → given ≡ all → nodes ≡ graph → places ≡ order
      → LogsStopped t (record { given = given; nodes = nodes; forms = forms; limit = limit }) places place end old new → LogsStopped t (record { given = all; nodes = graph; forms = forms; limit = limit }) order place end old new
  stopped_over given all nodes graph forms places order one two three stopped =
      subst (λ (ps : List ℕ). LogsStopped t (record { given = all; nodes = graph; forms = forms; limit = limit }) ps place end old new) three
      (subst (λ (ns : List Node). LogsStopped t (record { given = all; nodes = ns; forms = forms; limit = limit }) places place end old new) two
      (subst (λ (fs : List Form). LogsStopped t (record { given = fs; nodes = nodes; forms = forms; limit = limit }) places place end old new) one stopped))
