use Rattle.std.proofs.Common.{map, arith, sym, refl}
use Rattle.fi_model.specs.Interpretations.{value_of}
use Rattle.fi_model.specs.code.Scope.{scope_elements}
use Rattle.fi_model.specs.Tables.{interpretation}
use Rattle.fi_model.proofs.CellFacts.{reaches_first}
use Rattle.fi_model.proofs.TableFacts.{short, next, beyond, fits, last_some, last_none}
use Rattle.fi_model.proofs.truth.+value.Goals as goal

pub value_in-returns-then-args-sizes : goal.value_in-returns-then-args-sizes
value_in-returns-then-args-sizes t c = λ there agree.
    sym (short (value_of (interpretation c.args.model.now) there) c.args.table.now c.args.args.now c.as_slice-sizes.result.now c.as_slice-sizes.ensures c.if-args-sizes.true)

pub value_in-loop-i-init : goal.value_in-loop-i-init
value_in-loop-i-init t c = λ there agree. reaches_first c.args.table.now.sizes (map (value_of (interpretation c.args.model.now) there) c.args.args.now)

pub value_in-loop-i-preserved : goal.value_in-loop-i-preserved
value_in-loop-i-preserved t c = λ there agree.
    next (value_of (interpretation c.args.model.now) there) c.args.table.now c.args.args.now c.as_slice-sizes.result.now c.as_slice-sizes.ensures c.loop-i.i c.loop-i.at
    (c.loop-i.invariant there (λ d s. agree d (c.with-looked.ensures.these d s))) c.if-args-sizes.false
    c.index-args-i.result c.value-found.result.element c.loop-i-test.true c.index-args-i.is (sym (c.value-found.ensures there (λ d s. agree d (c.with-looked.ensures.others d s)))) c.if-element-sizes.false

pub value_in-returns-then-element-sizes : goal.value_in-returns-then-element-sizes
value_in-returns-then-element-sizes t c = λ there agree.
    sym (beyond (value_of (interpretation c.args.model.now) there) c.args.table.now c.args.args.now c.as_slice-sizes.result.now c.as_slice-sizes.ensures c.loop-i.i c.loop-i.at
    (c.loop-i.invariant there (λ d s. agree d (c.with-looked.ensures.these d s))) c.if-args-sizes.false
    c.index-args-i.result c.value-found.result.element c.loop-i-test.true c.index-args-i.is (sym (c.value-found.ensures there (λ d s. agree d (c.with-looked.ensures.others d s)))) c.if-element-sizes.true)

pub value_in-overflow_mul-at : goal.value_in-overflow_mul-at
value_in-overflow_mul-at t c =
    let here = scope_elements c.args.scope.now in
    let small = fits (value_of (interpretation c.args.model.now) here) c.args.table.now c.args.args.now c.as_slice-sizes.result.now c.as_slice-sizes.ensures c.loop-i.i c.loop-i.at
    (c.loop-i.invariant here (λ d s. refl)) c.if-args-sizes.false
    c.index-args-i.result c.value-found.result.element c.loop-i-test.true c.index-args-i.is (sym (c.value-found.ensures here (λ d s. refl))) (omega (arith, c.args.table.now.full, c.args.table.now.some)) c.if-element-sizes.false in
    omega (arith, small, c.args.table.now.full, c.len-count.ensures, c.len-count.type_inv)

pub value_in-overflow_add-at : goal.value_in-overflow_add-at
value_in-overflow_add-at t c =
    let here = scope_elements c.args.scope.now in
    let small = fits (value_of (interpretation c.args.model.now) here) c.args.table.now c.args.args.now c.as_slice-sizes.result.now c.as_slice-sizes.ensures c.loop-i.i c.loop-i.at
    (c.loop-i.invariant here (λ d s. refl)) c.if-args-sizes.false
    c.index-args-i.result c.value-found.result.element c.loop-i-test.true c.index-args-i.is (sym (c.value-found.ensures here (λ d s. refl))) (omega (arith, c.args.table.now.full, c.args.table.now.some)) c.if-element-sizes.false in
    omega (arith, small, c.args.table.now.full, c.len-count.ensures, c.len-count.type_inv)

pub value_in-returns-in-Some : goal.value_in-returns-in-Some
value_in-returns-in-Some t c = λ there agree.
    sym (last_some (value_of (interpretation c.args.model.now) there) c.args.table.now c.args.args.now c.as_slice-sizes.result.now c.as_slice-sizes.ensures c.loop-i.i c.loop-i.at
    (c.loop-i.invariant there agree) c.if-args-sizes.false
    c.in-Some.found.now c.loop-i-test.false (sym c.in-Some.ensures.value))

pub value_in-returns-in-None : goal.value_in-returns-in-None
value_in-returns-in-None t c = λ there agree.
    sym (last_none (value_of (interpretation c.args.model.now) there) c.args.table.now c.args.args.now c.as_slice-sizes.result.now c.as_slice-sizes.ensures c.loop-i.i c.loop-i.at
    (c.loop-i.invariant there agree) c.if-args-sizes.false
    c.loop-i-test.false (sym c.in-None.ensures.value))
