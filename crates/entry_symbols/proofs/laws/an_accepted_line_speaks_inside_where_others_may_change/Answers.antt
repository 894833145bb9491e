use Rattle.entry_symbols.proofs.Lines.{line_alike}
use Rattle.entry_symbols.proofs.laws.an_accepted_line_speaks_inside_where_others_may_change.Goals as goal

pub returns : goal.returns
returns c = λ t d line parents rule cites entries answers. line_alike t d line parents rule cites entries answers
