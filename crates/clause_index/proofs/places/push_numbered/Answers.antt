use Rattle.std.proofs.Common.{sym, ap, ◌∙◌, append-nil}
use Rattle.clause_index.proofs.Gathering.{gathered_more}
use Rattle.clause_index.proofs.places.push_numbered.Goals as goal
use Rattle.clause_index.proofs.places.push_numbered.Goals.{in-Some+in_ok-push_place-in-Some, in-None}

pub loop-number-preserved : goal.loop-number-preserved
loop-number-preserved c = elim c.match-get.branch [
  | in-Some+in_ok-push_place-in-Some w ↦ gathered_more c.args.positive c.args.keys.now c.args.entries.now
      c.args.numbers.now c.loop-number.number-index 0 _ c.args.places.now.items c.loop-number.places.items
      c.match-get.places.items c.loop-number-test.true w.in-Some.ensures.value c.loop-number.invariant
      (ap (λ p. p.items) w.places-is ∙ w.in_ok-push_place-in-Some.ensures)
  | in-None w ↦ gathered_more
      c.args.positive c.args.keys.now c.args.entries.now c.args.numbers.now c.loop-number.number-index 0
      _ c.args.places.now.items c.loop-number.places.items c.match-get.places.items
      c.loop-number-test.true w.in-None.ensures.value c.loop-number.invariant
      (ap (λ p. p.items) w.places-is ∙ sym (append-nil _))
]
