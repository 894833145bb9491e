use Rattle.fof_terms.specs.Directory.{entered}
use Rattle.fof_terms.proofs.Entered.{told_none}
use Rattle.fof_terms.proofs.directory.Directory.new.Goals as goal

pub returns : goal.returns
unfolding entered
returns c = told_none (λ k. k.items) c.new.result c.new.ensures.empty
