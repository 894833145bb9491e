use Rattle.std.proofs.Common.{ℕ, Some, refl, subst}
use Rattle.clause_learning.specs.declared.literal.Literal.{Literal}
use Rattle.clause_learning.specs.declared.solver.Solver.{Solver}
use Rattle.clause_learning.specs.Literals.{complement}
use Rattle.clause_learning.specs.code.Trails.{IsPushed}
use Rattle.clause_learning.specs.code.Marked.{AreClear}
use Rattle.clause_learning.specs.code.Held.{IsCollected}
use Rattle.clause_learning.proofs.Cutting.{stop_within}
use Rattle.clause_learning.proofs.Stating.{noted}
use Rattle.clause_learning.proofs.solver.Solver.note.Goals as goal

pub retreat-requires : goal.retreat-requires
retreat-requires c = let h = c.requires.stopped in stop_within c.args.self.now.trail.steps h.step c.args.stop.keep h.free

pub returns : goal.returns
returns c =
    let old = c.args.self.now in
    let t = c.retreat.new.trail in
    let l = c.args.stop.literal in
    let new : Solver = record { clauses = record { inputs = old.clauses.inputs; log = c.push.new.self }; trail = c.push-2.new.self; marks = c.clear.new.self; restarts = c.count.new.self } in
    let C : Literal → Type 0 = λ a. IsCollected a t.values old.marks c.in_ok-lits.lits in
    let P : Literal → Type 0 = λ a. IsPushed t a (Some c.len-number.result) c.push-2.new.self in
    let Q : ℕ → Type 0 = λ n. IsPushed t (complement l) (Some n) c.push-2.new.self in
    let M : ℕ → Type 0 = λ n. AreClear n c.clear.new.self in
    noted old new t c.args.stop (record { lits = c.in_ok-lits.lits; from = c.args.from }) c.requires.clauses c.requires.stopped c.in_ok-retreat.ensures
    (subst C c.opposite-asserted.ensures c.in_ok-lits.ensures) (subst M c.requires.many c.clear.ensures) refl c.in_ok-push.ensures.ok c.count.ensures
    (subst Q c.len-number.ensures (subst P c.opposite-asserted.ensures c.in_ok-push-2.ensures))
