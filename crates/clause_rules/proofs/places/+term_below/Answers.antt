use Rattle.std.proofs.Common.{sym, ◌∙◌, ap}
use Rattle.clause_rules.proofs.PlaceCode.{below_var, below_app}
use Rattle.clause_rules.specs.code.PlaceSearch.{go_on, below}
use Rattle.std.proofs.Common.{drop, ◌+◌}
use Rattle.clause_rules.proofs.places.+term_below.Goals as goal

pub returns-in-Var : goal.returns-in-Var
returns-in-Var t c = below_var c.args.place.now c.args.from c.args.term.now c.in-Var.field-0 c.in-Var.is c.if-from-place.false

pub returns-in-Some : goal.returns-in-Some
returns-in-Some t c =
    c.term_below.ensures ∙ ap (go_on (below (drop (c.args.from + 1) c.args.place.now))) c.in-Some.ensures.value ∙ sym (below_app c.args.place.now c.args.from c.args.term.now c.in-App.field-0 c.in-App.args c.in-App.is c.if-from-place.false)

pub returns-in-None : goal.returns-in-None
returns-in-None t c =
    ap (go_on (below (drop (c.args.from + 1) c.args.place.now))) c.in-None.ensures.value ∙ sym (below_app c.args.place.now c.args.from c.args.term.now c.in-App.field-0 c.in-App.args c.in-App.is c.if-from-place.false)
