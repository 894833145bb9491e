use Rattle.std.proofs.Common.{◌∙◌, sym, ap}
use Rattle.skolem_fresh.specs.declared.just.Use.{Use}
use Rattle.skolem_fresh.proofs.Chosen.{may_choose_by, first_of_some}
use Rattle.skolem_fresh.proofs.choosing.may_choose.Goals as goal

pub returns : goal.returns
returns c =
    may_choose_by c.args.theory.now c.args.form.now c.as_slice.result.now c.args.uses.now c.index-uses-0.result c.as_slice-variables.result.now c.only_has.result (c.as_slice.ensures ∙ c.in_ok-functions.ensures) (first_of_some c.args.uses.now c.index-uses-0.result c.is_empty.result c.if-is_empty.false c.is_empty.ensures c.index-uses-0.is) (c.as_slice-variables.ensures ∙ ap (λ (x : Use). x.variables) (sym c.index-uses-0.is))
    c.are_distinct.result c.if-not-are_distinct.false c.are_distinct.ensures c.are_free.result c.if-not-are_free.false c.are_free.ensures c.are_distinct-2.result c.if-not-are_distinct-2.false c.are_distinct-2.ensures c.only_has.ensures
