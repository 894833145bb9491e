use Rattle.skolem_fresh.proofs.opening.+read_uses.Given as goal

abbrev pub decreases-read_uses : goal.decreases-read_uses
decreases-read_uses l = l.count
