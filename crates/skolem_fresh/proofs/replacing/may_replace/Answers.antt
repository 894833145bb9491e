use Rattle.std.proofs.Common.{arith, refl}
use Rattle.fof_terms.specs.Scope.{scope_sorts}
use Rattle.skolem_fresh.proofs.Opened.{body_room}
use Rattle.skolem_fresh.proofs.ReplaceTests.{repeated, another_free, replace_test}
use Rattle.skolem_fresh.proofs.replacing.may_replace.Goals as goal

pub only_has-requires : goal.only_has-requires
only_has-requires c = let room = body_room c.args.sig.now (scope_sorts c.args.scope.now) c.args.function.now.sort c.args.body.now c.requires.within in omega arith

pub returns-then-not-are_distinct : goal.returns-then-not-are_distinct
returns-then-not-are_distinct c = (
  λ f. cc,
  λ m. absurd (repeated c.args.sig.now (scope_sorts c.args.scope.now) c.args.function.now c.args.function.now.sort c.args.body.now c.as_slice-variables.result.now c.as_slice-variables.ensures c.are_distinct.result c.if-not-are_distinct.true c.are_distinct.ensures m),
)

pub returns-then-not-only_has : goal.returns-then-not-only_has
returns-then-not-only_has c = (
  λ f. cc,
  λ m. absurd (another_free c.args.sig.now (scope_sorts c.args.scope.now) c.args.function.now c.args.function.now.sort c.args.body.now c.as_slice-variables.result.now c.as_slice-variables.ensures c.only_has.result c.if-not-only_has.true c.only_has.ensures m),
)

pub returns : goal.returns
returns c =
    replace_test c.args.sig.now (scope_sorts c.args.scope.now) c.args.function.now c.args.function.now.sort c.args.body.now c.as_slice-variables.result.now c.as_slice-variables.ensures c.are_distinct.result c.only_has.result c.is_of_sort.result c.in_ok-value.value
    c.if-not-are_distinct.false c.are_distinct.ensures c.if-not-only_has.false c.only_has.ensures c.in_ok-value.ensures refl c.is_of_sort.ensures
