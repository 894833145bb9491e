use Rattle.inference_proofs.proofs.Covered.{clause_fit, opened_fit, settled_covers}
use Rattle.inference_proofs.proofs.covering.by_parent.Goals as goal

pub cover_clause-requires-clause-clause : goal.cover_clause-requires-clause-clause
cover_clause-requires-clause-clause c = opened_fit c.args.signature.now c.args.parent.now.form c.in_ok-clause.field-0 c.in-Some.clause c.in-Some.is c.requires.parent c.in_ok-clause.ensures

pub cover_clause-requires-clause-line : goal.cover_clause-requires-clause-line
cover_clause-requires-clause-line c = clause_fit c.args.signature.now c.args.line.now c.args.opened.now.clause c.requires.line.ready c.requires.line.opening.0

pub cover_opened-requires-clause-covers : goal.cover_opened-requires-clause-covers
cover_opened-requires-clause-covers c = settled_covers c.args.signature.now c.args.opened.now.clause c.in-Some.clause.clause c.in_ok-subst-in-Some.field-0 c.in-Some-2.subst c.in-Some-2.is c.in_ok-subst-in-Some.ensures
