use Rattle.sort_check.proofs.TermSorts.{grows_on}
use Rattle.sort_check.proofs.denotation.take_all.Goals as goal

pub returns-clause-keeps : goal.returns-clause-keeps
returns-clause-keeps c = grows_on c.args.signature.now c.take_types.new.signature c.take_lines.new.signature c.in_ok-take_types.ensures.keeps c.take_lines.ensures.keeps
