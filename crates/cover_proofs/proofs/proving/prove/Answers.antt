use Rattle.cover_proofs.proofs.ClauseRules.{goes_by_clauses}
use Rattle.cover_proofs.proofs.proving.prove.Goals as goal

pub normed_in-requires-clause-alike : goal.normed_in-requires-clause-alike
normed_in-requires-clause-alike c = rw c.in-Norm.is at c.requires.shown

pub covered-requires-clause-shown : goal.covered-requires-clause-shown
covered-requires-clause-shown c = rw c.in-Cover.is at c.requires.shown

pub clause_proof-requires-clause-clauses : goal.clause_proof-requires-clause-clauses
clause_proof-requires-clause-clauses c = goes_by_clauses c.args.just c.in_default.not-Norm c.in_default.not-Cover
