use Rattle.std.proofs.Common.{None, sym, ap, ◌∙◌}
use Rattle.std.specs.Option.{option_copied}
use Rattle.clause_learning.proofs.Members.{none_or}
use Rattle.clause_learning.proofs.trail.Trail.value.Goals as goal

pub returns-in-None : goal.returns-in-None
returns-in-None c = sym (none_or c.args.self.now.values c.args.atom None (sym c.get.ensures.value ∙ ap option_copied c.in-None.is))
