use Rattle.search_proofs.proofs.ending.ended_by.Goals as goal

pub returns : goal.returns
returns c = λ v last found. (found, c.in_ok-needed.ensures)
