use Rattle.std.proofs.lemmas.List.Elements.{All-more}
use Rattle.subsumption.specs.Subsumes.{Subsumes}
use Rattle.saturation.proofs.Covered.{clause_at, known_at, none_covers}
use Rattle.saturation.proofs.Lists.{untrue}
use Rattle.saturation.proofs.covering.is_covered.Goals as goal

pub covers-requires-clause-member : goal.covers-requires-clause-member
covers-requires-clause-member c = clause_at c.args.signature.now c.args.list.now c.loop-at.at c.index-list-at.result c.requires.members c.loop-at-test.true

pub covers-requires-clause-bits : goal.covers-requires-clause-bits
covers-requires-clause-bits c = (known_at c.args.list.now c.args.known.now c.loop-at.at c.index-list-at.result c.index-known-at.result c.requires.known c.loop-at-test.true).masked

pub loop-at-preserved : goal.loop-at-preserved
loop-at-preserved c =
    All-more (λ m. Subsumes c.args.signature.now m.clause c.args.clause.now → ⊥) c.args.list.now c.loop-at.at c.index-list-at.result c.loop-at-test.true c.loop-at.invariant
    (untrue c.in_ok-covers.field-0 _ c.if-branch.false c.in_ok-covers.ensures)

pub returns : goal.returns
returns c = (λ t. cc, λ h. absurd (none_covers c.args.signature.now c.args.list.now c.args.clause.now c.loop-at.at c.loop-at-test.false c.loop-at.invariant h))
