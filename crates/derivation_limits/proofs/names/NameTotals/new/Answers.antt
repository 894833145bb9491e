use Rattle.derivation_limits.proofs.NamesFacts.{has_none}
use Rattle.derivation_limits.proofs.names.NameTotals.new.Goals as goal

pub returns : goal.returns
returns c = has_none _ c.new.ensures c.new-2.ensures
