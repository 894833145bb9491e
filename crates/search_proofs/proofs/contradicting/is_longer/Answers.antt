use Rattle.search_proofs.proofs.Contradicted.{closed_longer}
use Rattle.search_proofs.proofs.contradicting.is_longer.Goals as goal

pub returns : goal.returns
returns c = λ yes. closed_longer c.args.signature.now c.args.clause.now.lits c.as_slice-lits.result.now c.in_ok-body.body c.args.most c.as_slice-lits.ensures c.in_ok-body.ensures c.if-lits-most.false (c.well_sorted.ensures.0 yes)
