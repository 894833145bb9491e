use Rattle.std.proofs.Common.{◌≡◌, ◌<◌, ℕ, ◌∷◌, ap, subst, arith, true, false}
use Rattle.fi_model.specs.Interpretations.{is_true, size, all_below, some_below}
use Rattle.fi_model.specs.code.Scope.{scope_elements}
use Rattle.fi_model.specs.Tables.{interpretation}
use Rattle.fi_model.proofs.ScopeFacts.{scope_elements-Under}
use Rattle.fi_model.proofs.Quantified.{is_no, is_yes, unseen, all_no, all_each, all_more, some_yes, some_none, some_more, all_at, some_at}
use Rattle.fi_model.proofs.truth.+truth.Goals as goal

pub true_of_all-returns-then-not-found : goal.true_of_all-returns-then-not-found
true_of_all-returns-then-not-found t c = λ there agree.
    let lt : c.loop-element.element < size c.args.model.now.domains c.args.sort = omega (arith, c.size_of-element-end.ensures, ap (λ ds. size ds c.args.sort) c.as_slice.ensures) in
    all_no (interpretation c.args.model.now) c.args.form.now (scope_elements c.args.scope.now) c.truth-found.result.looked c.outside-outer.result c.truth-found.result.truth c.loop-element.element (rw scope_elements-Under at c.truth-found.ensures) c.outside-outer.ensures there agree (size c.args.model.now.domains c.args.sort) lt (is_no c.truth-found.result.truth c.if-not-found.true)

pub true_of_all-returns-then-not-has_nearest : goal.true_of_all-returns-then-not-has_nearest
true_of_all-returns-then-not-has_nearest t c = λ there agree.
    all_each (interpretation c.args.model.now) c.args.form.now (scope_elements c.args.scope.now) c.truth-found.result.looked c.outside-outer.result c.truth-found.result.truth c.loop-element.element (rw scope_elements-Under at c.truth-found.ensures) c.outside-outer.ensures there agree (size c.args.model.now.domains c.args.sort)
    (unseen c.truth-found.result.looked c.has_nearest.result c.has_nearest.ensures c.if-not-has_nearest.true) (is_yes c.truth-found.result.truth c.if-not-found.false)

pub true_of_all-loop-element-preserved : goal.true_of_all-loop-element-preserved
true_of_all-loop-element-preserved t c = λ there agree.
    all_more (interpretation c.args.model.now) c.args.form.now (scope_elements c.args.scope.now) c.truth-found.result.looked c.outside-outer.result c.truth-found.result.truth c.loop-element.element (rw scope_elements-Under at c.truth-found.ensures) c.outside-outer.ensures there
    (λ d s. agree d (c.with-looked.ensures.others d s)) (is_yes c.truth-found.result.truth c.if-not-found.false) (c.loop-element.invariant there (λ d s. agree d (c.with-looked.ensures.these d s)))

pub true_of_all-returns : goal.true_of_all-returns
true_of_all-returns t c = λ there agree.
    let last : c.loop-element.element ≡ size c.args.model.now.domains c.args.sort = omega (arith, c.size_of-element-end.ensures, ap (λ ds. size ds c.args.sort) c.as_slice.ensures, c.loop-element.auto.element-end, c.loop-element-test.false) in
    subst (λ (n : ℕ). all_below n (λ x. is_true (interpretation c.args.model.now) (x ∷ there) c.args.form.now) ≡ true) last (c.loop-element.invariant there agree)

pub true_of_some-returns-then-found : goal.true_of_some-returns-then-found
true_of_some-returns-then-found t c = λ there agree.
    let lt : c.loop-element.element < size c.args.model.now.domains c.args.sort = omega (arith, c.size_of-element-end.ensures, ap (λ ds. size ds c.args.sort) c.as_slice.ensures) in
    some_yes (interpretation c.args.model.now) c.args.form.now (scope_elements c.args.scope.now) c.truth-found.result.looked c.outside-outer.result c.truth-found.result.truth c.loop-element.element (rw scope_elements-Under at c.truth-found.ensures) c.outside-outer.ensures there agree (size c.args.model.now.domains c.args.sort) lt c.if-found.true

pub true_of_some-returns-then-not-has_nearest : goal.true_of_some-returns-then-not-has_nearest
true_of_some-returns-then-not-has_nearest t c = λ there agree.
    some_none (interpretation c.args.model.now) c.args.form.now (scope_elements c.args.scope.now) c.truth-found.result.looked c.outside-outer.result c.truth-found.result.truth c.loop-element.element (rw scope_elements-Under at c.truth-found.ensures) c.outside-outer.ensures there agree (size c.args.model.now.domains c.args.sort)
    (unseen c.truth-found.result.looked c.has_nearest.result c.has_nearest.ensures c.if-not-has_nearest.true) c.if-found.false

pub true_of_some-loop-element-preserved : goal.true_of_some-loop-element-preserved
true_of_some-loop-element-preserved t c = λ there agree.
    some_more (interpretation c.args.model.now) c.args.form.now (scope_elements c.args.scope.now) c.truth-found.result.looked c.outside-outer.result c.truth-found.result.truth c.loop-element.element (rw scope_elements-Under at c.truth-found.ensures) c.outside-outer.ensures there
    (λ d s. agree d (c.with-looked.ensures.others d s)) c.if-found.false (c.loop-element.invariant there (λ d s. agree d (c.with-looked.ensures.these d s)))

pub true_of_some-returns : goal.true_of_some-returns
true_of_some-returns t c = λ there agree.
    let last : c.loop-element.element ≡ size c.args.model.now.domains c.args.sort = omega (arith, c.size_of-element-end.ensures, ap (λ ds. size ds c.args.sort) c.as_slice.ensures, c.loop-element.auto.element-end, c.loop-element-test.false) in
    subst (λ (n : ℕ). some_below n (λ x. is_true (interpretation c.args.model.now) (x ∷ there) c.args.form.now) ≡ false) last (c.loop-element.invariant there agree)

pub truth-returns-in-All : goal.truth-returns-in-All
truth-returns-in-All t c = λ there agree.
    all_at (interpretation c.args.model.now) there c.args.form.now c.in-All.sort c.in-All.body c.get-in-All.result.now c.true_of_all.result.truth c.in-All.is c.get-in-All.ensures (c.true_of_all.ensures there agree)

pub truth-returns-in-Ex : goal.truth-returns-in-Ex
truth-returns-in-Ex t c = λ there agree.
    some_at (interpretation c.args.model.now) there c.args.form.now c.in-Ex.sort c.in-Ex.body c.get-in-Ex.result.now c.true_of_some.result.truth c.in-Ex.is c.get-in-Ex.ensures (c.true_of_some.ensures there agree)
