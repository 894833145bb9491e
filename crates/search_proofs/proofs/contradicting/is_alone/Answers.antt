use Rattle.search_proofs.proofs.Contradicted.{alone_of}
use Rattle.search_proofs.proofs.contradicting.is_alone.Goals as goal

pub returns-then-lits-eq1 : goal.returns-then-lits-eq1
returns-then-lits-eq1 c = λ yes. alone_of c.args.lits.now c.index-lits-0.result _ c.if-lits-eq1.true c.index-lits-0.is (c.denies.ensures yes)
