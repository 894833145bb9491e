use Rattle.std.proofs.Common.{ℕ, ◌≡◌, ◌++◌, ◌∷◌, [], List, Option, sym, subst, refl, ◌∙◌, length}
use Rattle.std.proofs.lemmas.Result.{IfOk-weaker}
use Rattle.clause_learning.specs.declared.literal.Literal.{Literal}
use Rattle.clause_learning.specs.declared.analysis.Stop.{Stop}
use Rattle.clause_learning.specs.declared.clauses.Clauses.{Clauses}
use Rattle.clause_learning.specs.declared.solver.Solver.{Solver}
use Rattle.clause_learning.specs.Valuations.{HasAtoms}
use Rattle.clause_learning.specs.code.Trails.{clauses_of}
use Rattle.clause_learning.specs.code.Held.{IsStopped, IsWalked}
use Rattle.clause_learning.specs.code.States.{AreLearned, IsNoted, IsTurned}
use Rattle.clause_learning.proofs.Stating.{refuted}
use Rattle.clause_learning.proofs.Turning.{learned_turn}
use Rattle.clause_learning.proofs.solver.Solver.learn.Goals as goal

pub begin-requires : goal.begin-requires
begin-requires c = let P : ℕ → Type 0 = λ n. HasAtoms n (clauses_of c.args.self.now.clauses) in subst P (sym c.requires.state.marks.many) c.requires.state.clauses.within

pub walk-requires-clause-within : goal.walk-requires-clause-within
walk-requires-clause-within c =
    let P : ℕ → Type 0 = λ n. HasAtoms n (clauses_of c.args.self.now.clauses) in
    subst P (sym (c.in_ok-begin.ensures.many ∙ c.requires.state.marks.many)) c.requires.state.clauses.within

pub narrow-requires-clause-within : goal.narrow-requires-clause-within
narrow-requires-clause-within c =
    let P : ℕ → Type 0 = λ n. HasAtoms n (clauses_of c.args.self.now.clauses) in
    subst P (sym (c.in_ok-stop.ensures.many ∙ c.in_ok-begin.ensures.many ∙ c.requires.state.marks.many)) c.requires.state.clauses.within

pub narrow-requires-clause-stopped : goal.narrow-requires-clause-stopped
narrow-requires-clause-stopped c =
    let old = c.args.self.now in
    let W : Option Stop → Type 0 = λ o. IsWalked (clauses_of old.clauses) c.walk.new.from c.walk.new.marks old.trail c.walk.new.trail o in
    let stopped : IsStopped (clauses_of old.clauses) c.walk.new.from c.walk.new.marks old.trail c.walk.new.trail c.in-Some.stop = subst W c.in-Some.is c.in_ok-stop.ensures.walked in
    stopped.here

pub note-requires : goal.note-requires
note-requires c =
    let old = c.args.self.now in
    let W : Option Stop → Type 0 = λ o. IsWalked (clauses_of old.clauses) c.walk.new.from c.walk.new.marks old.trail c.walk.new.trail o in
    let stopped : IsStopped (clauses_of old.clauses) c.walk.new.from c.walk.new.marks old.trail c.walk.new.trail c.in-Some.stop = subst W c.in-Some.is c.in_ok-stop.ensures.walked in
    let L : ℕ → Type 0 = λ n. AreLearned n old.clauses in
    record {
      clauses = subst L (sym stopped.many) c.requires.state.clauses;
      many = c.in_ok-narrow-in-Some.ensures.many ∙ c.in_ok-stop.ensures.many ∙ c.in_ok-begin.ensures.many ∙ c.requires.state.marks.many ∙ sym stopped.many;
      stopped = c.in_ok-narrow-in-Some.ensures.stopped;
    }

pub returns-in_ok-narrow-in-Some : goal.returns-in_ok-narrow-in-Some
returns-in_ok-narrow-in-Some c =
    let old = c.args.self.now in
    let W : Option Stop → Type 0 = λ o. IsWalked (clauses_of old.clauses) c.walk.new.from c.walk.new.marks old.trail c.walk.new.trail o in
    let stopped : IsStopped (clauses_of old.clauses) c.walk.new.from c.walk.new.marks old.trail c.walk.new.trail c.in-Some.stop = subst W c.in-Some.is c.in_ok-stop.ensures.walked in
    let mid : Solver = record { clauses = old.clauses; trail = c.walk.new.trail; marks = c.narrow.new.marks; restarts = old.restarts } in
    IfOk-weaker c.note.result (IsNoted mid c.in-Some.stop c.note.new.self) (IsTurned old c.note.new.self)
    (λ t noted. learned_turn old mid c.note.new.self c.walk.new.from c.walk.new.marks c.in-Some.stop t refl refl stopped noted) c.note.ensures

pub returns-in_ok-push-in-None : goal.returns-in_ok-push-in-None
returns-in_ok-push-in-None c =
    let old = c.args.self.now in
    let new : Clauses = record { inputs = old.clauses.inputs; log = c.push.new.self } in
    let from = c.walk.new.from in
    let W : Option Stop → Type 0 = λ o. IsWalked (clauses_of old.clauses) from c.walk.new.marks old.trail c.walk.new.trail o in
    let L : List Literal → Type 0 = λ ls. new.log ≡ old.clauses.log ++ record { lits = ls; from = from } ∷ [] in
    record {
      inputs = refl;
      refuted = refuted old.clauses new from (length old.trail.values) c.requires.state.clauses refl (subst L c.new.ensures c.in_ok-push-in-None.ensures.ok) (subst W c.in-None.is c.in_ok-stop.ensures.walked);
    }
