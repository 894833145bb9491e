use Rattle.std.proofs.Common.{◌≡◌, ◌≢◌, ◌<◌, length, None, subst, sym, ap, ◌∙◌, arith}
use Rattle.fof_terms.specs.Sorts.{sort_of_term}
use Rattle.fof_terms.specs.declared.term.Term.{App}
use Rattle.unify_terms.specs.declared.binding.Equating.TheVariants.{Clash}
use Rattle.unify_terms.specs.Substitution.{instance}
use Rattle.unify_terms.specs.code.Binding.{IsResolved}
use Rattle.unify_terms.specs.code.Graph.{Fit}
use Rattle.unify_terms.proofs.Adding.{fit_args, fit_at}
use Rattle.unify_terms.proofs.Binds.{resolved_sorted, equated_resolved, equated_terms, functions_differ}
use Rattle.unify_terms.proofs.equating.+equate.Goals as goal
use Rattle.unify_terms.proofs.equating.+equate.Goals.{equate-then-function-symbol-via-then-function-symbol, equate-then-function-symbol-via-else-function-symbol+then-len}

pub equate-equate_variable-requires-clause-left : goal.equate-equate_variable-requires-clause-left
equate-equate_variable-requires-clause-left t c = resolved_sorted c.args.bound.now.items c.args.signature.now c.args.scope.now.sorts c.args.scope.now.rigid c.as_slice.result.now c.args.left.now c.resolved-left.result.now c.as_slice.ensures.value c.requires.bound c.resolved-left.ensures c.requires.left

pub equate-equate_variable-requires-clause-right : goal.equate-equate_variable-requires-clause-right
equate-equate_variable-requires-clause-right t c = resolved_sorted c.args.bound.now.items c.args.signature.now c.args.scope.now.sorts c.args.scope.now.rigid c.as_slice-2.result.now c.args.right.now c.resolved-right.result.now c.as_slice-2.ensures.value c.requires.bound c.resolved-right.ensures c.requires.right

pub equate-bind-requires-clause-term : goal.equate-bind-requires-clause-term
equate-bind-requires-clause-term t c = resolved_sorted c.args.bound.now.items c.args.signature.now c.args.scope.now.sorts c.args.scope.now.rigid c.as_slice.result.now c.args.left.now c.resolved-left.result.now c.as_slice.ensures.value c.requires.bound c.resolved-left.ensures c.requires.left

pub equate-returns-then-function-symbol-clause-equated : goal.equate-returns-then-function-symbol-clause-equated
equate-returns-then-function-symbol-clause-equated t c =
    let differ : c.in-App.function ≡ c.in-App-right.symbol → length c.in-App.args ≡ length c.in-App-right.others → ⊥ = λ e h. elim c.then-function-symbol.branch [
      | equate-then-function-symbol-via-then-function-symbol w ↦ omega arith
      | equate-then-function-symbol-via-else-function-symbol+then-len w ↦ omega (arith, w.len.ensures, w.len-else-function-symbol.ensures)
    ] in
    equated_resolved c.args.signature.now c.args.scope.now.sorts c.args.scope.now.rigid c.args.bound.now.items c.args.bound.now.items c.args.left.now c.args.right.now c.resolved-left.result.now c.resolved-right.result.now Clash
    (subst (λ bs. IsResolved bs c.args.left.now c.resolved-left.result.now) c.as_slice.ensures.value c.resolved-left.ensures) (subst (λ bs. IsResolved bs c.args.right.now c.resolved-right.result.now) c.as_slice-2.ensures.value c.resolved-right.ensures)
    (λ images o same. functions_differ c.args.bound.now.items c.in-App.function c.in-App-right.symbol c.in-App.args c.in-App-right.others differ images o (ap (instance images) (sym c.in-App.is) ∙ same ∙ ap (instance images) c.in-App-right.is))

pub equate-equate_all-requires : goal.equate-equate_all-requires
equate-equate_all-requires t c =
    let left : sort_of_term c.args.signature.now c.args.scope.now.sorts c.resolved-left.result.now ≢ None = resolved_sorted c.args.bound.now.items c.args.signature.now c.args.scope.now.sorts c.args.scope.now.rigid c.as_slice.result.now c.args.left.now c.resolved-left.result.now c.as_slice.ensures.value c.requires.bound c.resolved-left.ensures c.requires.left in
    let right : sort_of_term c.args.signature.now c.args.scope.now.sorts c.resolved-right.result.now ≢ None = resolved_sorted c.args.bound.now.items c.args.signature.now c.args.scope.now.sorts c.args.scope.now.rigid c.as_slice-2.result.now c.args.right.now c.resolved-right.result.now c.as_slice-2.ensures.value c.requires.bound c.resolved-right.ensures c.requires.right in
    let size : length c.as_slice-in-App-right.result.now ≡ length c.as_slice-in-App-right-2.result.now = omega (arith, ap length c.as_slice-in-App-right.ensures, ap length c.as_slice-in-App-right-2.ensures, c.len.ensures, c.len-else-function-symbol.ensures) in
    let first : Fit c.args.signature.now c.args.scope.now.sorts c.as_slice-in-App-right.result.now = subst (Fit c.args.signature.now c.args.scope.now.sorts) (sym c.as_slice-in-App-right.ensures) (fit_args c.args.signature.now c.args.scope.now.sorts c.in-App.function c.in-App.args (λ e. left (ap (sort_of_term c.args.signature.now c.args.scope.now.sorts) c.in-App.is ∙ e))) in
    let second : Fit c.args.signature.now c.args.scope.now.sorts c.as_slice-in-App-right-2.result.now = subst (Fit c.args.signature.now c.args.scope.now.sorts) (sym c.as_slice-in-App-right-2.ensures) (fit_args c.args.signature.now c.args.scope.now.sorts c.in-App-right.symbol c.in-App-right.others (λ e. right (ap (sort_of_term c.args.signature.now c.args.scope.now.sorts) c.in-App-right.is ∙ e))) in
    (omega arith, (size, (first, (second, c.requires.bound))))

pub equate-returns-else-len-clause-equated : goal.equate-returns-else-len-clause-equated
equate-returns-else-len-clause-equated t c =
    let size : length c.as_slice-in-App-right.result.now ≡ length c.as_slice-in-App-right-2.result.now = omega (arith, ap length c.as_slice-in-App-right.ensures, ap length c.as_slice-in-App-right-2.ensures, c.len.ensures, c.len-else-function-symbol.ensures) in
    let same : c.in-App.function ≡ c.in-App-right.symbol = omega arith in
    equated_resolved c.args.signature.now c.args.scope.now.sorts c.args.scope.now.rigid c.args.bound.now.items c.equate_all.new.bound.items c.args.left.now c.args.right.now c.resolved-left.result.now c.resolved-right.result.now c.equate_all.result
    (subst (λ bs. IsResolved bs c.args.left.now c.resolved-left.result.now) c.as_slice.ensures.value c.resolved-left.ensures) (subst (λ bs. IsResolved bs c.args.right.now c.resolved-right.result.now) c.as_slice-2.ensures.value c.resolved-right.ensures)
    (equated_terms c.args.signature.now c.args.scope.now.sorts c.args.scope.now.rigid c.args.bound.now.items c.equate_all.new.bound.items c.resolved-left.result.now c.resolved-right.result.now c.in-App.function c.in-App-right.symbol c.as_slice-in-App-right.result.now c.as_slice-in-App-right-2.result.now c.equate_all.result
    (c.in-App.is ∙ ap (App c.in-App.function) (sym c.as_slice-in-App-right.ensures)) (c.in-App-right.is ∙ ap (App c.in-App-right.symbol) (sym c.as_slice-in-App-right-2.ensures)) same size c.equate_all.ensures.equated)

pub equate_all-equate-requires : goal.equate_all-equate-requires
equate_all-equate-requires t c =
    let h : c.loop-at.at < length c.args.left.now = omega arith in
    let k : c.loop-at.at < length c.args.right.now = omega (arith, c.requires.size) in
    let fewer = c.loop-at.invariant.fewer in (
      omega arith,
      (
        λ e. fit_at c.args.signature.now c.args.scope.now.sorts c.args.left.now c.loop-at.at c.index-left-at.result h c.requires.left (ap (sort_of_term c.args.signature.now c.args.scope.now.sorts) (sym c.index-left-at.is) ∙ e),
        (
          λ e. fit_at c.args.signature.now c.args.scope.now.sorts c.args.right.now c.loop-at.at c.index-right-at.result k c.requires.right (ap (sort_of_term c.args.signature.now c.args.scope.now.sorts) (sym c.index-right-at.is) ∙ e),
          c.loop-at.invariant.are,
        ),
      ),
    )
