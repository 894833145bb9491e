use Rattle.skolem_fresh.proofs.telling.+lead.Given as goal

abbrev pub decreases-lead : goal.decreases-lead
decreases-lead l = l.count
