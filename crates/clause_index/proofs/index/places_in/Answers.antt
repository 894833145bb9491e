use Rattle.std.proofs.Common.{ap}
use Rattle.clause_index.proofs.Filing.{are_places, looked_at, looked_some, looked_all, gathered_once, gathered_twice}
use Rattle.clause_index.proofs.index.places_in.Goals as goal
use Rattle.clause_index.proofs.index.places_in.Goals.{in-Open+in_ok-push_places-in-Open}
use Rattle.clause_index.proofs.index.places_in.Goals.{in-Head+in_ok-push_numbered-in-Head+in_ok-push_numbered-in-Head-2}

pub returns : goal.returns
returns c = elim c.match-keys.branch [
  | in-Open+in_ok-push_places-in-Open w ↦
      are_places c.args.entries.now c.args.entries.now c.args.positive c.args.keys.now c.match-keys.places.items
      c.once_each.result
      (gathered_once c.args.positive c.args.keys.now c.args.entries.now w.as_slice.result.now c.new-places.result.items
      w.push_places.new.places.items c.match-keys.places.items
      c.new-places.ensures.items w.as_slice.ensures w.in_ok-push_places-in-Open.ensures (ap (λ p. p.items) w.places-is))
      (λ e h. h) (λ e h partner. h) c.once_each.ensures.ascending c.once_each.ensures.same
  | in-Head+in_ok-push_numbered-in-Head+in_ok-push_numbered-in-Head-2 w ↦
      are_places c.args.entries.now (looked_at c.args.positive c.args.keys.now c.args.entries.now c.args.heads.now
      c.requires w.in-Head.symbol w.in-Head.is) c.args.positive c.args.keys.now c.match-keys.places.items
      c.once_each.result
      (gathered_twice c.args.positive c.args.keys.now c.args.entries.now c.args.heads.now w.in-Head.symbol
      w.under.result.now w.open.result.now
      c.new-places.result.items w.push_numbered.new.places.items w.push_numbered-in-Head.new.places.items
      c.match-keys.places.items
      c.new-places.ensures.items w.under.ensures w.open.ensures w.in_ok-push_numbered-in-Head.ensures
      w.in_ok-push_numbered-in-Head-2.ensures (ap (λ p. p.items) w.places-is))
      (looked_some c.args.positive c.args.keys.now c.args.entries.now c.args.heads.now c.requires w.in-Head.symbol
      w.in-Head.is)
      (looked_all c.args.positive c.args.keys.now c.args.entries.now c.args.heads.now c.requires w.in-Head.symbol
      w.in-Head.is)
      c.once_each.ensures.ascending c.once_each.ensures.same
]
