use Rattle.std.proofs.Common.{ℕ, Option, sym, subst, refl, ◌∙◌}
use Rattle.clause_learning.specs.Valuations.{HasAtoms}
use Rattle.clause_learning.specs.code.Trails.{clauses_of}
use Rattle.clause_learning.specs.code.Held.{IsPassed}
use Rattle.clause_learning.proofs.Stating.{walking, walk_at, walk_reason, walked_on, walk_stopped, walk_ended}
use Rattle.clause_learning.proofs.analysis.walk.Goals as goal

pub walk-init : goal.walk-init
walk-init c = record { walking = walking (clauses_of c.args.clauses.now) c.args.from.now c.args.marks.now c.args.trail.now c.requires.held c.requires.trail; marks = refl }

pub pass-requires : goal.pass-requires
pass-requires c = let P : ℕ → Type 0 = λ n. HasAtoms n (clauses_of c.args.clauses.now) in subst P (sym c.walk.invariant.marks) c.requires.within

pub returns-in-Some-2-clause-walked : goal.returns-in-Some-2-clause-walked
returns-in-Some-2-clause-walked c =
    let clauses = clauses_of c.args.clauses.now in
    let first = c.args.trail.now in
    let old = c.walk.trail in
    let new = c.undo.new.self in
    let s = c.in-Some.step in
    let w = c.walk.invariant.walking in
    let undone = c.in-Some.ensures in
    let P : Option ℕ → Type 0 = λ o. IsPassed clauses c.pass.new.from c.pass.new.marks new s o in
    let passed = c.in_ok-keep.ensures.passed (walk_reason clauses c.walk.from c.walk.marks first old new s w undone) (walk_at clauses c.walk.from c.walk.marks first old new s w undone) in
    walk_stopped clauses c.walk.from c.walk.marks first old new s w undone c.pass.new.from c.pass.new.marks c.in-Some-2.keep (subst P c.in-Some-2.is passed)

pub walk-preserved : goal.walk-preserved
walk-preserved c =
    let clauses = clauses_of c.args.clauses.now in
    let first = c.args.trail.now in
    let old = c.walk.trail in
    let new = c.undo.new.self in
    let s = c.in-Some.step in
    let w = c.walk.invariant.walking in
    let undone = c.in-Some.ensures in
    let P : Option ℕ → Type 0 = λ o. IsPassed clauses c.pass.new.from c.pass.new.marks new s o in
    let passed = c.in_ok-keep.ensures.passed (walk_reason clauses c.walk.from c.walk.marks first old new s w undone) (walk_at clauses c.walk.from c.walk.marks first old new s w undone) in
    record {
      walking = walked_on clauses c.walk.from c.walk.marks first old new s w undone c.pass.new.from c.pass.new.marks (subst P c.in_default-2.is passed);
      marks = c.in_ok-keep.ensures.many ∙ c.walk.invariant.marks;
    }

pub returns-clause-walked : goal.returns-clause-walked
returns-clause-walked c = walk_ended (clauses_of c.args.clauses.now) c.walk.from c.walk.marks c.args.trail.now c.walk.trail c.walk.invariant.walking c.in_default.ensures.steps
