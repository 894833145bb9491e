use Rattle.std.proofs.Common.{None, arith, ◌≡◌, ◌≤◌, ◌<◌, ◌++◌, ◌∷◌, [], ◌∙◌, ap, sym, length}
use Rattle.subsumption.specs.code.Bound.{images_of, trail_of}
use Rattle.subsumption.proofs.BoundFacts.{image_written}
use Rattle.subsumption.proofs.Undoing.{one_more, one_fewer, none_cleared}
use Rattle.subsumption.proofs.bindings.Bindings.undo.Goals as goal
use Rattle.subsumption.proofs.bindings.Bindings.undo.Goals.{in-Some+then-at-len, in-Some+else-at-len, in_default}

pub loop-done-preserved : goal.loop-done-preserved
loop-done-preserved c =
    elim c.match-pop.branch [
      | in-Some+then-at-len w ↦
          let trail : trail_of c.loop-done.self ≡ trail_of c.match-pop.self ++ w.in-Some.variable ∷ [] = w.in-Some.ensures.items ∙ ap (λ b. trail_of b ++ w.in-Some.variable ∷ []) (sym w.self-is) in record {
            undoing = one_more c.args.self.now c.loop-done.self c.match-pop.self w.in-Some.variable c.loop-done.invariant.undoing trail (ap images_of w.self-is ∙ image_written c.loop-done.self.images.items w.deref_mut.result.now w.in-Some.variable None w.deref_mut.ensures.value);
            left = one_fewer c.loop-done.self c.match-pop.self w.in-Some.variable c.loop-done._done _ trail c.loop-done.invariant.left;
          }
      | in-Some+else-at-len w ↦
          let trail : trail_of c.loop-done.self ≡ trail_of c.match-pop.self ++ w.in-Some.variable ∷ [] = w.in-Some.ensures.items ∙ ap (λ b. trail_of b ++ w.in-Some.variable ∷ []) (sym w.self-is) in
          let past : length c.loop-done.self.images.items ≤ w.in-Some.variable = omega (arith, w.len.ensures) in record {
            undoing = one_more c.args.self.now c.loop-done.self c.match-pop.self w.in-Some.variable c.loop-done.invariant.undoing trail (ap images_of w.self-is ∙ none_cleared c.loop-done.self w.in-Some.variable past);
            left = one_fewer c.loop-done.self c.match-pop.self w.in-Some.variable c.loop-done._done _ trail c.loop-done.invariant.left;
          }
      | in_default w ↦
          let none = w.in_default.ensures.variant.1 in
          let left = c.loop-done.invariant.left in
          let some : 0 < length (trail_of c.loop-done.self) = omega (arith, left, c.len-done-end.ensures) in
          absurd (let no = none some in cc)
    ]
