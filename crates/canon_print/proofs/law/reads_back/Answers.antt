use Rattle.canon_print.proofs.ReadBack as back
use Rattle.canon_print.proofs.law.reads_back.Goals as goal

pub returns : goal.returns
returns c = back.reads_back
