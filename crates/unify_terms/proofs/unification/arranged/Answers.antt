use Rattle.std.proofs.Common.{subst, sym, Some, length}
use Rattle.unify_terms.specs.code.Classes.{Agrees}
use Rattle.unify_terms.specs.code.Order.{Orders}
use Rattle.unify_terms.specs.code.Solved.{value_at}
use Rattle.unify_terms.proofs.Valuations.{valuation}
use Rattle.unify_terms.proofs.unification.arranged.Goals as goal

pub returns-in-Some-2 : goal.returns-in-Some-2
returns-in-Some-2 c =
    (rw c.in-Some.is at c.in_ok-classes.ensures, subst (λ cs. Orders c.args.nodes.now cs (Some c.in-Some-2.order)) c.deref.ensures.value (rw c.in-Some-2.is at c.in_ok-order-in-Some.ensures))

pub returns-in-None-2 : goal.returns-in-None-2
returns-in-None-2 c = λ target other sub joins.
    let closed = rw c.in-Some.is at c.in_ok-classes.ensures in
    let none = rw c.in-None-2.is at c.in_ok-order-in-Some.ensures in
    let is = valuation c.args.signature.now c.args.scope.now.sorts c.args.scope.now.rigid target other sub c.args.nodes.now c.requires.graph in
    none c.args.signature.now c.args.scope.now.sorts target (value_at c.args.nodes.now other) is
    (subst (Agrees (value_at c.args.nodes.now other) (length c.args.nodes.now)) (sym c.deref.ensures.value) (closed.complete target (value_at c.args.nodes.now other) is joins).0)

pub returns-in-None : goal.returns-in-None
returns-in-None c = λ target other sub joins.
    let none = rw c.in-None.is at c.in_ok-classes.ensures in
    none target (value_at c.args.nodes.now other) (valuation c.args.signature.now c.args.scope.now.sorts c.args.scope.now.rigid target other sub c.args.nodes.now c.requires.graph) joins
