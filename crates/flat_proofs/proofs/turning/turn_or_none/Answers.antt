use Rattle.std.proofs.Common.{refl}
use Rattle.flat_proofs.proofs.TurnFacts.{part_shows}
use Rattle.flat_proofs.proofs.turning.turn_or_none.Goals as goal

pub returns-then-equal : goal.returns-then-equal
returns-then-equal c = λ n body ef el shows. c.if-equal.ensures.0 refl

pub returns : goal.returns
returns c = λ n body ef el shows. part_shows c.args.forth n _ c.in_ok-turn_part.field-0 c.args.first.now c.args.last.now (c.in_ok-turn_part.ensures body ef el) shows
