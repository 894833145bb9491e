use Rattle.canon_print.proofs.OneReading as reading
use Rattle.canon_print.proofs.law.one_reading.Goals as goal

pub returns : goal.returns
returns c = reading.one_reading
