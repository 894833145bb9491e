use Rattle.tables.proofs.searches.is_subsumed.Goals as goal

pub subsumes-requires-clause-member_sorted : goal.subsumes-requires-clause-member_sorted
subsumes-requires-clause-member_sorted c = c.requires.member.fit.sorted

pub subsumes-requires-clause-clause_sorted : goal.subsumes-requires-clause-clause_sorted
subsumes-requires-clause-clause_sorted c = c.requires.clause.fit.sorted
