use Rattle.std.proofs.Common.{sym, ap, length}
use Rattle.fof_terms.proofs.ScopeFacts.{scope_sorts-Outside}
use Rattle.skolem_fresh.proofs.Opened.{on_ok}
use Rattle.skolem_fresh.proofs.WalkCode.{whole_within}
use Rattle.function_choices.proofs.Walked.{whole_walked}
use Rattle.function_choices.proofs.choosing.choose_whole.Goals as goal

pub choose-requires-clause-within : goal.choose-requires-clause-within
choose-requires-clause-within c = whole_within c.args.sig.now c.args.norm.now _ (scope_sorts-Outside _) c.requires

pub choose-requires-clause-outer : goal.choose-requires-clause-outer
choose-requires-clause-outer c = sym (ap length (scope_sorts-Outside _))

pub returns : goal.returns
returns c =
    on_ok c.choose.result (λ made w. whole_walked c.args.sig.now c.args.atoms.now c.args.symbols.now c.args.norm.now _ c.args.uses.now c.choose.new.uses made (scope_sorts-Outside _) w) c.choose.ensures
