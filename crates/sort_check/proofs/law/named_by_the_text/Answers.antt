use Rattle.sort_check.proofs.LineBringing.{text_brings}
use Rattle.sort_check.proofs.law.named_by_the_text.Goals as goal

pub returns : goal.returns
returns c = text_brings
