use Rattle.clause_rules.proofs.Shown.{holds_when_shown}
use Rattle.clause_rules.proofs.laws.what_is_shown_holds.Goals as goal

pub returns : goal.returns
returns c = holds_when_shown
