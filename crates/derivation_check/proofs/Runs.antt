-- A run of the lines of a derivation, behind its declarations.
use Rattle.std.specs.List.{All}
use Rattle.std.proofs.Common.{◌≡◌, ℕ, ◌++◌, List, [], Option, refl, sym, subst, arith}
use Rattle.tptp_base.specs.Sink.{Takes}
use Rattle.fof_terms.specs.Vocabulary.{Vocabulary}
use Rattle.fof_terms.proofs.Scoped.{raised}
use Rattle.fof_terms.proofs.SortLawsFacts.{grown_sorted}
use Rattle.kernel.specs.Statements.{Statements}
use Rattle.kernel.specs.Entries.{Admits}
use Rattle.kernel.proofs.EntryLaws.{admits_append}
use Rattle.kernel.specs.declared.entry.Entry.{Entry}
use Rattle.proof_log.specs.Entries.{HaveNumbersInRange, log_text}
use Rattle.sort_check.specs.Sorting.{Extends, IsSentence}
use Rattle.clause_rules.specs.Steps.{IsReady}
use Rattle.derivation_text.specs.declared.derivation.Derivation.{Derivation}
use Rattle.verifier.specs.Declarations.{declarations}
use Rattle.verifier.specs.Logged.{LogsRun, LogsSome, LogsStopped}
use Rattle.verifier.specs.Run.{IsStopped}
use Rattle.verifier.specs.declared.answer.LineAnswer.{LineAnswer}
use Rattle.verifier.proofs.Logs.{range_both}
use Rattle.verifier.proofs.Refuting.{run_admits}
use Rattle.derivation_check.specs.Cases.{Asked, lines_over, widened}
use Rattle.derivation_check.specs.Checks.{Runs}
use Rattle.derivation_check.specs.code.Logs.{LogsRuns, StopsRun}
use Rattle.derivation_check.specs.Logs.{StopsWithLog, TakesSomeOfLog}
use Rattle.derivation_check.proofs.LogTexts.{log_cut, log_more}

-- what is given is ready for the rules, also in a longer vocabulary
pub given_ready : (t u : Statements) (w : Vocabulary) → u ≡ widened t w → Extends t.vocabulary w → All (IsSentence t.vocabulary) t.formulas → All (IsReady u.vocabulary) u.formulas
given_ready t u w is extends all = subst (λ (x : Statements). All (IsReady x.vocabulary) x.formulas) (sym is) (λ i d lt. raised w [] 500 1000000000 _ (omega arith) (grown_sorted t.vocabulary w extends.grows 500 [] _ (all i d lt)))

module _ (limit : ℕ) (t : Statements) (d : Derivation) (w : Vocabulary) where
  -- the lines are run behind the declarations
  pub runs : (u : Statements) (answers : List LineAnswer) (numbers : List (Option ℕ)) (end : Statements) (old mid new : Option (List ℕ)) → u ≡ widened t w → Admits t (declarations t.vocabulary w) (widened t w) → Takes old mid (log_text (declarations t.vocabulary w)) → HaveNumbersInRange (declarations t.vocabulary w)
      → LogsRun u (record { given = u.formulas; nodes = d.graph.nodes; forms = d.forms; limit = limit }) d.graph.order answers numbers end mid new → LogsRuns limit t d w answers numbers end old new
  runs u answers numbers end old mid new is declared taken in_range run =
      let own : LogsRun (widened t w) (lines_over t d limit) d.graph.order answers numbers end mid new =
      subst (λ (x : Statements). LogsRun x (record { given = x.formulas; nodes = d.graph.nodes; forms = d.forms; limit = limit }) d.graph.order answers numbers end mid new) is run in record {
        entries = declarations t.vocabulary w ++ own.entries;
        runs = record { own = own.entries; declared = declared; run = own.run; entries_are = refl };
        numbered = own.numbered;
        taken = log_more old mid new (declarations t.vocabulary w) own.entries taken own.taken;
        in_range = range_both (declarations t.vocabulary w) own.entries in_range own.in_range;
      }

  -- or stop there
  pub stops : (place : ℕ) (u : Statements) (end : Statements) (old mid new : Option (List ℕ)) → u ≡ widened t w → Admits t (declarations t.vocabulary w) (widened t w) → Takes old mid (log_text (declarations t.vocabulary w)) → HaveNumbersInRange (declarations t.vocabulary w)
      → LogsStopped u (record { given = u.formulas; nodes = d.graph.nodes; forms = d.forms; limit = limit }) d.graph.order place end mid new → StopsRun limit t d w old new place
  stops place u end old mid new is declared taken in_range run =
      let own : LogsStopped (widened t w) (lines_over t d limit) d.graph.order place end mid new =
      subst (λ (x : Statements). LogsStopped x (record { given = x.formulas; nodes = d.graph.nodes; forms = d.forms; limit = limit }) d.graph.order place end mid new) is run in record {
        own = own.entries;
        end = end;
        declared = declared;
        stopped = own.stopped;
        taken = log_more old mid new (declarations t.vocabulary w) own.entries taken own.taken;
        in_range = range_both (declarations t.vocabulary w) own.entries in_range own.in_range;
      }

  -- all its entries are legal in turn
  pub runs_admit : (answers : List LineAnswer) (entries : List Entry) (end : Statements) → Runs limit t d w answers entries end → Admits t entries end
  runs_admit answers entries end r =
      subst (λ (es : List Entry). Admits t es end) (sym r.entries_are)
      (admits_append t (widened t w) end (declarations t.vocabulary w) r.own r.declared (run_admits (widened t w) (lines_over t d limit) d.graph.order answers r.own end r.run))

  -- the run is cut
  pub run_cut : (u : Statements) (old mid new : Option (List ℕ)) → u ≡ widened t w → Admits t (declarations t.vocabulary w) (widened t w) → Takes old mid (log_text (declarations t.vocabulary w)) → LogsSome u mid new → TakesSomeOfLog t old new
  run_cut u old mid new is declared taken cut = log_cut t (widened t w) (declarations t.vocabulary w) old mid new declared taken (subst (λ (x : Statements). LogsSome x mid new) is cut)

-- what a run that stops has logged is the log of a check that stops
pub check_stops : (asked : Asked) (limit : ℕ) (t : Statements) (d : Derivation) (w : Vocabulary) (old new : Option (List ℕ)) (place : ℕ) → asked.limit ≡ limit → StopsRun limit t d w old new place → StopsWithLog asked t d w old new place
check_stops asked limit t d w old new place same s = (
  log_text (declarations t.vocabulary w ++ s.own),
  s.taken,
  record {
    own = s.own;
    end = s.end;
    declared = s.declared;
    stopped = subst (λ (l : ℕ). IsStopped (widened t w) (lines_over t d l) d.graph.order place s.own s.end) (sym same) s.stopped;
    in_range = s.in_range;
    log_is = refl;
  },
)
