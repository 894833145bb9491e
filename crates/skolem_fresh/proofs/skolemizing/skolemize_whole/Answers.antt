use Rattle.std.proofs.Common.{sym, ap, length, drop}
use Rattle.fof_terms.proofs.ScopeFacts.{scope_sorts-Outside}
use Rattle.skolem_fresh.proofs.Opened.{on_ok}
use Rattle.skolem_fresh.proofs.WalkCode.{whole_within, whole_walked}
use Rattle.skolem_fresh.proofs.skolemizing.skolemize_whole.Goals as goal

pub skolemize-requires-clause-within : goal.skolemize-requires-clause-within
skolemize-requires-clause-within c = whole_within c.args.sig.now c.args.norm.now _ (scope_sorts-Outside _) c.requires

pub skolemize-requires-clause-outer : goal.skolemize-requires-clause-outer
skolemize-requires-clause-outer c = sym (ap length (scope_sorts-Outside _))

pub returns : goal.returns
returns c =
    on_ok c.skolemize.result
    (λ made w. (drop c.skolemize.new.at c.args.leaves.now, whole_walked c.args.sig.now c.args.norm.now _ c.args.leaves.now (drop c.skolemize.new.at c.args.leaves.now) c.args.uses.now c.skolemize.new.uses made (scope_sorts-Outside _) w))
    c.skolemize.ensures.walked
