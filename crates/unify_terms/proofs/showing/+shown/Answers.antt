use Rattle.std.proofs.Common.{◌≡◌, ◌<◌, get_or, subst, sym, ap, ◌∙◌, arith, None, Some}
use Rattle.fof_terms.specs.declared.term.Term.{Var, App}
use Rattle.unify_terms.specs.code.Shown.{IsShown, AllShown}
use Rattle.unify_terms.proofs.Shows.{shown_free, shown_deeper, shown_function}
use Rattle.unify_terms.proofs.showing.+shown.Goals as goal

pub shown-returns-else-depth-eq0-clause-shown : goal.shown-returns-else-depth-eq0-clause-shown
shown-returns-else-depth-eq0-clause-shown t c =
    let some : 0 < c.args.depth = omega arith in
    shown_deeper c.args.bound.now c.in-Var.variable c.in-Some.term c.args.depth c.args.term.now c.shown.result c.in-Var.is (sym c.bound_to.ensures ∙ c.in-Some.is) some c.shown.ensures.shown

pub shown-returns-in-None-clause-shown : goal.shown-returns-in-None-clause-shown
shown-returns-in-None-clause-shown t c =
    subst (λ u. IsShown c.args.bound.now c.args.depth u (Var c.in-Var.variable)) (sym c.in-Var.is) (shown_free c.args.bound.now c.in-Var.variable c.args.depth (sym c.bound_to.ensures ∙ c.in-None.is))

pub shown-returns-in-Some-2-clause-shown : goal.shown-returns-in-Some-2-clause-shown
shown-returns-in-Some-2-clause-shown t c =
    let all = rw c.in-Some-2.is at c.in_ok-args-in-App.ensures.shown in
    subst (λ u. IsShown c.args.bound.now c.args.depth u (App c.in-App.function c.in-Some-2.args)) (ap (App c.in-App.function) c.as_slice.ensures ∙ sym c.in-App.is)
    (shown_function c.args.bound.now c.args.depth c.in-App.function c.as_slice.result.now c.in-Some-2.args all)
