use Rattle.std.proofs.Common.{subst, sym, refl, false}
use Rattle.std.specs.Prelude.{IsTrue}
use Rattle.unify_terms.specs.code.Order.{IsReady}
use Rattle.unify_terms.proofs.Orders.{order_grows, walk_adds, walk_passes}
use Rattle.unify_terms.proofs.order.pass.Goals as goal
use Rattle.unify_terms.proofs.order.pass.Goals.{then-is_next+in_ok-push, else-is_next}

not_true : IsTrue false → ⊥
not_true h = cc

pub loop-i-preserved : goal.loop-i-preserved
loop-i-preserved c = elim c.if-is_next.branch [
  | then-is_next+in_ok-push w ↦
      let ready = subst (λ d. IsReady c.args.nodes.now c.args.classes.now d c.loop-i.i) c.deref.ensures.value (w.if-is_next.ensures.0 refl) in
      rw (w.done-is, w.order-is, w.any-is, w.in_ok-push.ensures.ok) (
        order_grows c.args.nodes.now c.args.classes.now c.loop-i.done.items c.loop-i.order c.loop-i.i c.loop-i.invariant.0 ready,
        walk_adds c.args.nodes.now c.args.classes.now c.args.done.now.items c.loop-i.done.items c.loop-i.order c.loop-i.i c.loop-i.any c.loop-i.invariant.0 c.loop-i.invariant.1 ready,
      )
  | else-is_next w ↦
      let unready : IsReady c.args.nodes.now c.args.classes.now c.loop-i.done.items c.loop-i.i → ⊥ = λ ready. not_true (w.if-is_next.ensures.1 (subst (λ d. IsReady c.args.nodes.now c.args.classes.now d c.loop-i.i) (sym c.deref.ensures.value) ready)) in
      rw (w.done-is, w.order-is, w.any-is) (c.loop-i.invariant.0, walk_passes c.args.nodes.now c.args.classes.now c.args.done.now.items c.loop-i.done.items c.loop-i.i c.loop-i.any c.loop-i.invariant.1 unready)
]
