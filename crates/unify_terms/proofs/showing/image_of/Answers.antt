use Rattle.std.proofs.Common.{◌<◌, length, refl, sym, ◌∙◌, arith}
use Rattle.fof_terms.specs.declared.term.Term.{Var}
use Rattle.unify_terms.proofs.Shows.{shown_free, shown_deeper}
use Rattle.unify_terms.proofs.showing.image_of.Goals as goal

pub returns-in-Some : goal.returns-in-Some
returns-in-Some c =
    let some : 0 < length c.args.bound.now = omega (arith, c.requires.within) in
    shown_deeper c.args.bound.now c.args.variable c.in-Some.term (length c.args.bound.now) (Var c.args.variable) c.shown.result refl (sym c.bound_to.ensures ∙ c.in-Some.is) some
    c.shown.ensures.shown

pub returns-in-None : goal.returns-in-None
returns-in-None c = shown_free c.args.bound.now c.args.variable (length c.args.bound.now) (sym c.bound_to.ensures ∙ c.in-None.is)
