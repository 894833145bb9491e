use Rattle.entry_symbols.proofs.Lines.{line_tells}
use Rattle.entry_symbols.proofs.laws.an_accepted_line_tells_of_what_it_cites.Goals as goal

pub returns : goal.returns
returns c = λ t d line parents rule cites entries k answers foreign. line_tells t d line parents rule cites entries answers k foreign
