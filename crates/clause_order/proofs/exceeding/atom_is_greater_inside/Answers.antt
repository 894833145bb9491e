use Rattle.std.proofs.Common.{◌+◌, [], ◌∷◌, ap, sym, ◌∙◌, refl, arith}
use Rattle.fof_terms.specs.declared.term.Term.{App}
use Rattle.clause_order.specs.Weights.{as_term}
use Rattle.clause_order.proofs.Decided.{head_wins, same_heads, predicates, same_constants, least_constant, second_sides}
use Rattle.clause_order.proofs.Decided.{first_sides}
use Rattle.clause_order.proofs.exceeding.atom_is_greater_inside.Goals as goal

pub returns-then-other-head : goal.returns-then-other-head
returns-then-other-head c =
    same_heads (as_term c.args.left.now) (as_term c.args.right.now) (c.in-Pred.head + 3) (c.in-Pred-right.other + 3)
    c.as_slice.result.now c.as_slice-then-other-head.result.now
    (ap as_term c.in-Pred.is ∙ ap (App (c.in-Pred.head + 3)) (sym c.as_slice.ensures))
    (ap as_term c.in-Pred-right.is ∙ ap (App (c.in-Pred-right.other + 3)) (sym c.as_slice-then-other-head.ensures))
    (ap (λ n. n + 3) (sym c.if-other-head.true)) c.exceed_at_first.result c.exceed_at_first.ensures

pub returns-else-other-head : goal.returns-else-other-head
returns-else-other-head c =
    predicates (as_term c.args.left.now) (as_term c.args.right.now) c.in-Pred.head c.in-Pred-right.other c.in-Pred.args
    c.in-Pred-right.others (ap as_term c.in-Pred.is) (ap as_term c.in-Pred-right.is) c.if-other-head.false

pub returns-in-Eq-right : goal.returns-in-Eq-right
returns-in-Eq-right c =
    head_wins (as_term c.args.left.now) (as_term c.args.right.now) (c.in-Pred.head + 3) 2 c.in-Pred.args
    (c.in-Eq-right.field-0 ∷ c.in-Eq-right.field-1 ∷ []) (ap as_term c.in-Pred.is) (ap as_term c.in-Eq-right.is)
    (omega arith)

pub returns-in-True-right : goal.returns-in-True-right
returns-in-True-right c =
    head_wins (as_term c.args.left.now) (as_term c.args.right.now) (c.in-Pred.head + 3) 1 c.in-Pred.args []
    (ap as_term c.in-Pred.is) (ap as_term c.in-True-right.is) (omega arith)

pub returns-in-False-right : goal.returns-in-False-right
returns-in-False-right c =
    head_wins (as_term c.args.left.now) (as_term c.args.right.now) (c.in-Pred.head + 3) 0 c.in-Pred.args []
    (ap as_term c.in-Pred.is) (ap as_term c.in-False-right.is) (omega arith)

pub returns-then-equal_term : goal.returns-then-equal_term
returns-then-equal_term c =
    same_heads (as_term c.args.left.now) (as_term c.args.right.now) 2 2 (c.in-Eq.first ∷ c.in-Eq.second ∷ [])
    (c.in-Eq-right-2.third ∷ c.in-Eq-right-2.fourth ∷ []) (ap as_term c.in-Eq.is) (ap as_term c.in-Eq-right-2.is)
    refl
    c.is_greater.result (second_sides c.in-Eq.first c.in-Eq.second c.in-Eq-right-2.third c.in-Eq-right-2.fourth
    c.equal_term.result c.equal_term.ensures c.if-equal_term.true c.is_greater.result c.is_greater.ensures)

pub returns-else-equal_term : goal.returns-else-equal_term
returns-else-equal_term c =
    same_heads (as_term c.args.left.now) (as_term c.args.right.now) 2 2 (c.in-Eq.first ∷ c.in-Eq.second ∷ [])
    (c.in-Eq-right-2.third ∷ c.in-Eq-right-2.fourth ∷ []) (ap as_term c.in-Eq.is) (ap as_term c.in-Eq-right-2.is)
    refl
    c.is_greater-in-Eq-right-2.result (first_sides c.in-Eq.first c.in-Eq.second c.in-Eq-right-2.third
    c.in-Eq-right-2.fourth c.equal_term.result c.equal_term.ensures c.if-equal_term.false
    c.is_greater-in-Eq-right-2.result c.is_greater-in-Eq-right-2.ensures)

pub returns-in-True-right-2 : goal.returns-in-True-right-2
returns-in-True-right-2 c =
    head_wins (as_term c.args.left.now) (as_term c.args.right.now) 2 1 (c.in-Eq.first ∷ c.in-Eq.second ∷ []) []
    (ap as_term c.in-Eq.is) (ap as_term c.in-True-right-2.is) (omega arith)

pub returns-in-False-right-2 : goal.returns-in-False-right-2
returns-in-False-right-2 c =
    head_wins (as_term c.args.left.now) (as_term c.args.right.now) 2 0 (c.in-Eq.first ∷ c.in-Eq.second ∷ []) []
    (ap as_term c.in-Eq.is) (ap as_term c.in-False-right-2.is) (omega arith)

pub returns-in-True-right-3 : goal.returns-in-True-right-3
returns-in-True-right-3 c =
    same_constants (as_term c.args.left.now) (as_term c.args.right.now) 1 (ap as_term c.in-True.is)
    (ap as_term c.in-True-right-3.is)

pub returns-in-False-right-3 : goal.returns-in-False-right-3
returns-in-False-right-3 c =
    head_wins (as_term c.args.left.now) (as_term c.args.right.now) 1 0 [] [] (ap as_term c.in-True.is)
    (ap as_term c.in-False-right-3.is) (omega arith)

pub returns-in-False : goal.returns-in-False
returns-in-False c =
    least_constant (as_term c.args.left.now) (as_term c.args.right.now) (ap as_term c.in-False.is)
