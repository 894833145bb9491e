use Rattle.norm_parts.proofs.DecidedParts.{covered_so, not_covered}
use Rattle.norm_parts.proofs.deciding.covered.Goals as goal

pub returns-in-Some : goal.returns-in-Some
returns-in-Some c = covered_so c.args.signature.now c.args.parents.now c.args.part.now c.in_ok-just.field-0 c.in-Some.just c.in-Some.is c.in_ok-just.ensures

pub returns-in-None : goal.returns-in-None
returns-in-None c = not_covered c.args.signature.now c.args.parents.now c.args.part.now c.in_ok-just.field-0 c.in-None.is c.in_ok-just.ensures
