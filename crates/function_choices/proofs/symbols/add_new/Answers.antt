use Rattle.std.proofs.Common.{refl}
use Rattle.function_choices.proofs.Offered.{used}
use Rattle.function_choices.proofs.symbols.add_new.Goals as goal

pub returns-then-uses : goal.returns-then-uses
returns-then-uses c = used c.args.theory.now c.args.symbol c.args.found.now c.args.found.now refl c.uses.result c.if-uses.true c.uses.ensures
