use Rattle.canon_print.proofs.FilesShown as files
use Rattle.canon_print.proofs.law.one_text.Goals as goal

pub returns : goal.returns
returns c = files.same_text
