use Rattle.std.proofs.Common.{ℕ, sym, subst}
use Rattle.clause_learning.specs.Valuations.{HasAtoms}
use Rattle.clause_learning.specs.code.Trails.{clauses_of}
use Rattle.clause_learning.proofs.propagation.visit.Goals as goal

pub conclude-requires-clause-within : goal.conclude-requires-clause-within
conclude-requires-clause-within c =
    let P : ℕ → Type 0 = λ n. HasAtoms n (clauses_of c.args.clauses.now) in
    subst P (sym c.loop-at.invariant.many) c.requires.within
