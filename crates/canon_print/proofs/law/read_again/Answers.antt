use Rattle.canon_print.proofs.FilesShown as files
use Rattle.canon_print.proofs.law.read_again.Goals as goal

pub returns : goal.returns
returns c = files.read_again
