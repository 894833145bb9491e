use Rattle.std.proofs.Common.{ℕ, sym, subst}
use Rattle.clause_learning.specs.Valuations.{HasAtoms}
use Rattle.clause_learning.specs.code.Trails.{clauses_of}
use Rattle.clause_learning.proofs.narrowing.narrow.Goals as goal

pub drop_atom-requires-clause-within : goal.drop_atom-requires-clause-within
drop_atom-requires-clause-within c = let P : ℕ → Type 0 = λ n. HasAtoms n (clauses_of c.args.clauses.now) in subst P (sym c.atoms.invariant.many) c.requires.within
