use Rattle.search_proofs.proofs.Contradicted.{denied_predicate}
use Rattle.search_proofs.proofs.contradicting.denies.Goals as goal

pub returns-in-Pred : goal.returns-in-Pred
returns-in-Pred c = λ yes. denied_predicate c.args.other.now c.args.lit.now _ _ c.in-Pred.is (c.are_complementary.ensures.0 yes)
