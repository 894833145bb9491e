use Rattle.std.proofs.Common.{◌≡◌, ◌∙◌, sym, ap, Some}
use Rattle.std.proofs.Common.{reverse}
use Rattle.std.specs.Option.{option_copied}
use Rattle.subsumption.proofs.BecomingFacts.{sort_there, sort_missing, function_sort}
use Rattle.subsumption.proofs.becoming.sort_by_head.Goals as goal

pub returns-then-distance-sorts : goal.returns-then-distance-sorts
returns-then-distance-sorts c = λ r e. sort_there c.args.signature.now c.args.sorts.now c.args.term.now c.in-Var.variable r c.in-Var.is c.if-distance-sorts.true e

pub returns-else-distance-sorts : goal.returns-else-distance-sorts
returns-else-distance-sorts c = λ r e. absurd (sort_missing c.args.signature.now c.args.sorts.now c.args.term.now c.in-Var.variable r c.in-Var.is c.if-distance-sorts.false e)

pub returns-in-Some : goal.returns-in-Some
returns-in-Some c = λ r e.
    let found = function_sort c.args.signature.now (reverse c.args.sorts.now) c.args.term.now c.in-App.function c.in-App.field-1 r c.in-App.is e in
    let same : Some c.in-Some.symbol.now ≡ Some found.0 = ap option_copied (sym c.in-Some.is) ∙ c.symbol.ensures ∙ found.1 in
    let they : c.in-Some.symbol.now ≡ found.0 = cc in
    ap (λ x. Some x.result) they ∙ ap Some found.2

pub returns-in-None : goal.returns-in-None
returns-in-None c = λ r e.
    let found = function_sort c.args.signature.now (reverse c.args.sorts.now) c.args.term.now c.in-App.function c.in-App.field-1 r c.in-App.is e in
    let none = ap option_copied (sym c.in-None.is) ∙ c.symbol.ensures ∙ found.1 in
    cc
