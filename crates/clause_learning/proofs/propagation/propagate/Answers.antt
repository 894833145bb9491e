use Rattle.std.proofs.Common.{ℕ, Option, None, sym, subst}
use Rattle.std.proofs.lemmas.Result.{IfOk-weaker}
use Rattle.clause_learning.specs.Valuations.{HasAtoms}
use Rattle.clause_learning.specs.code.Trails.{clauses_of}
use Rattle.clause_learning.specs.code.States.{IsPropagated}
use Rattle.clause_learning.proofs.Stating.{propagated_then}
use Rattle.clause_learning.proofs.propagation.propagate.Goals as goal

pub follow-requires-clause-within : goal.follow-requires-clause-within
follow-requires-clause-within c =
    let clauses = clauses_of c.args.clauses.now in
    let P : Option ℕ → Type 0 = λ o. IsPropagated clauses c.args.trail.now c.prepare.new.trail o in
    let first : IsPropagated clauses c.args.trail.now c.prepare.new.trail None = subst P c.in_default.is c.in_ok-number.ensures in
    subst (λ (n : ℕ). HasAtoms n clauses) (sym first.many) c.requires.within

pub returns : goal.returns
returns c =
    let clauses = clauses_of c.args.clauses.now in
    let old = c.args.trail.now in
    let mid = c.prepare.new.trail in
    let new = c.follow.new.trail in
    let P : Option ℕ → Type 0 = λ o. IsPropagated clauses old mid o in
    let first : IsPropagated clauses old mid None = subst P c.in_default.is c.in_ok-number.ensures in
    IfOk-weaker c.follow.result (IsPropagated clauses mid new) (IsPropagated clauses old new) (λ found on. propagated_then clauses old mid new found first on) c.follow.ensures
