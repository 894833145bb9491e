use Rattle.canon_print.proofs.OneReading as reading
use Rattle.canon_print.proofs.law.read_only.Goals as goal

pub returns-clause-same : goal.returns-clause-same
returns-clause-same c = λ style file limit more items others text spelled again. (reading.read_only style file limit more items others text spelled again).0

pub returns-clause-again : goal.returns-clause-again
returns-clause-again c = λ style file limit more items others text spelled again. (reading.read_only style file limit more items others text spelled again).1
