use Rattle.std.proofs.Common.{sym, ap, ◌∙◌}
use Rattle.fof_terms.specs.Sorts.{sort_of_term}
use Rattle.unify_terms.specs.declared.pair.Pair.{Pair}
use Rattle.unify_terms.proofs.Binds.{pair_sorted_at, unifying_turn, unifying_clash}
use Rattle.unify_terms.proofs.equating.equate_pairs.Goals as goal

pub equate-requires-clause-left : goal.equate-requires-clause-left
equate-requires-clause-left c = λ e.
    (pair_sorted_at c.args.signature.now c.args.scope.now.sorts c.args.pairs.now c.loop-pair.pair-index c.pair-item.result c.requires.pairs c.loop-pair-test.true).0 (ap (λ (p : Pair). sort_of_term c.args.signature.now c.args.scope.now.sorts p.left) (sym c.pair-item.is) ∙ e)

pub equate-requires-clause-right : goal.equate-requires-clause-right
equate-requires-clause-right c = λ e.
    (pair_sorted_at c.args.signature.now c.args.scope.now.sorts c.args.pairs.now c.loop-pair.pair-index c.pair-item.result c.requires.pairs c.loop-pair-test.true).1 (ap (λ (p : Pair). sort_of_term c.args.signature.now c.args.scope.now.sorts p.right) (sym c.pair-item.is) ∙ e)

pub returns-in-Clash : goal.returns-in-Clash
returns-in-Clash c = unifying_clash c.args.pairs.now c.loop-pair.pair-index c.pair-item.result c.loop-pair-test.true c.pair-item.is c.args.bound.now.items c.loop-pair.bound.items c.loop-pair.invariant.adds c.in-Clash.ensures.equated

pub loop-pair-preserved : goal.loop-pair-preserved
loop-pair-preserved c = record {
  are = c.in-Equal.ensures.equated.0;
  adds = unifying_turn c.args.pairs.now c.loop-pair.pair-index c.pair-item.result c.loop-pair-test.true c.pair-item.is c.args.bound.now.items c.loop-pair.bound.items c.equate.new.bound.items c.loop-pair.invariant.adds c.in-Equal.ensures.equated.1;
}
