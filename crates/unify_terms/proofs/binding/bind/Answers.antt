use Rattle.std.proofs.Common.{◌≡◌, ◌<◌, ◌≤◌, length, get_or, None, refl, sym, subst, ◌∙◌, arith}
use Rattle.std.specs.Prelude.{slice_get}
use Rattle.fof_terms.specs.Sorts.{sort_of_term}
use Rattle.unify_terms.specs.code.Binding.{StandsBelow}
use Rattle.unify_terms.proofs.Binds.{bind_equates}
use Rattle.unify_terms.proofs.Occurring.{never_itself}
use Rattle.unify_terms.proofs.binding.bind.Goals as goal

pub returns : goal.returns
returns c =
    let within : c.args.variable < length c.args.bound.now.items = omega (arith, c.len.ensures) in
    let free : get_or c.args.bound.now.items c.args.variable None ≡ None = (rw c.as_slice.ensures.value at c.if-not-is_free.ensures).0 refl in
    let low : c.args.scope.now.rigid ≤ c.args.variable = omega arith in
    let sort : sort_of_term c.args.signature.now c.args.scope.now.sorts c.args.term.now ≡ slice_get c.args.scope.now.sorts c.args.variable =
    sym c.sort_of_head-sort.ensures ∙ c.if-not-is_one_sort.ensures.0 refl ∙ c.sort_of_variable.ensures in
    bind_equates c.args.bound.now.items c.args.variable c.args.term within free c.args.signature.now c.args.scope.now.sorts c.args.scope.now.rigid c.requires.bound low sort

pub returns-then-stands_below : goal.returns-then-stands_below
returns-then-stands_below c =
    never_itself c.args.bound.now.items c.args.variable c.args.term.now (subst (λ bs. StandsBelow bs c.args.variable c.args.term.now) c.as_slice-2.ensures.value (c.stands_below.ensures c.if-stands_below.true))
