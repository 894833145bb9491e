use Rattle.std.proofs.Common.{◌≡◌, get_or, length, subst}
use Rattle.fof_terms.specs.declared.term.Term.{Var}
use Rattle.unify_terms.specs.code.Images.{made}
use Rattle.unify_terms.proofs.Pairs.{below_at}
use Rattle.unify_terms.proofs.Making.{needed_turn, needed_past}
use Rattle.unify_terms.proofs.images.needed_images.Goals as goal
use Rattle.unify_terms.proofs.images.needed_images.Goals.{then-needed-class+in_ok-images-2+in-App-1, then-needed-class+in_ok-images-2+in-Var-1, else-needed-class}

pub loop-class-preserved : goal.loop-class-preserved
loop-class-preserved c =
    let at = get_or c.args.order.now c.loop-class.class-index 0 in
    let below = below_at (length c.args.nodes.now) c.args.order.now c.loop-class.class-index c.requires.within c.loop-class-test.true in
    elim c.if-needed-class.branch [
      | then-needed-class+in_ok-images-2+in-App-1 w ↦
          rw w.images-is
          (needed_turn c.args.nodes.now c.args.classes.now c.requires.fits c.args.needed.now c.requires.closed c.args.order.now c.loop-class.class-index c.loop-class-test.true below w.if-needed-class.true c.loop-class.images.items w.in_ok-images-2.field-0 c.loop-class.invariant
          (subst (λ ms. w.in_ok-images-2.field-0 ≡ made c.args.nodes.now c.args.classes.now (λ k. get_or ms k (Var 0)) at) w.deref.ensures.value w.in_ok-images-2.ensures))
      | then-needed-class+in_ok-images-2+in-Var-1 w ↦
          rw w.images-is
          (needed_turn c.args.nodes.now c.args.classes.now c.requires.fits c.args.needed.now c.requires.closed c.args.order.now c.loop-class.class-index c.loop-class-test.true below w.if-needed-class.true c.loop-class.images.items w.in_ok-images-2.field-0 c.loop-class.invariant
          (subst (λ ms. w.in_ok-images-2.field-0 ≡ made c.args.nodes.now c.args.classes.now (λ k. get_or ms k (Var 0)) at) w.deref.ensures.value w.in_ok-images-2.ensures))
      | else-needed-class w ↦ rw w.images-is (needed_past c.args.nodes.now c.args.classes.now c.args.needed.now c.args.order.now c.loop-class.class-index c.loop-class-test.true w.if-needed-class.false c.loop-class.images.items c.loop-class.invariant)
    ]
