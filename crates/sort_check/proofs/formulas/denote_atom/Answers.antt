use Rattle.sort_check.proofs.TermSorts.{grows_on}
use Rattle.sort_check.proofs.formulas.denote_atom.Goals as goal

pub returns-clause-keeps : goal.returns-clause-keeps
returns-clause-keeps c = grows_on c.args.signature.now c.head.new.signature c.denote_arguments.new.signature c.in_ok-predicate.ensures.keeps c.in_ok-args.ensures.keeps
