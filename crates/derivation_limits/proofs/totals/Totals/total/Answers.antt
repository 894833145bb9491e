use Rattle.std.proofs.Common.{Some, None}
use Rattle.derivation_limits.proofs.TotalsFacts.{found_is}
use Rattle.derivation_limits.proofs.totals.Totals.total.Goals as goal

pub returns-in-Some : goal.returns-in-Some
returns-in-Some c = found_is c.args.self.now c.args.name.now (Some c.in-Some.total.now) c.in-Some.ensures.value

pub returns-in-None : goal.returns-in-None
returns-in-None c = found_is c.args.self.now c.args.name.now None c.in-None.ensures.value
