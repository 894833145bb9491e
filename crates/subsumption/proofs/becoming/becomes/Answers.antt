use Rattle.std.proofs.Common.{sym, subst, length}
use Rattle.std.specs.List.{All as Each}
use Rattle.subsumption.specs.code.Bound.{images_of}
use Rattle.subsumption.specs.code.Matched.{IsWithin}
use Rattle.subsumption.proofs.BecomingFacts.{predicate_within}
use Rattle.subsumption.proofs.becoming.becomes.Goals as goal

pub match_terms-requires : goal.match_terms-requires
match_terms-requires c =
    subst (Each (IsWithin (length (images_of c.args.bindings.now)))) (sym c.as_slice.ensures) (predicate_within c.args.task.now c.args.bindings.now c.args.bindings.now c.requires.table c.args.lit.now c.args.target.now c.requires.sorted c.requires.target c.in-Pred.predicate c.in-Pred.args c.in-Pred.is)
