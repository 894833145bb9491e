use Rattle.std.proofs.Common.{sym, subst}
use Rattle.sort_check.specs.code.Denotation.{setting, state}
use Rattle.sort_check.specs.code.Outcomes.{Answers}
use Rattle.sort_check.proofs.Parts.{and_is, or_is, open_room}
use Rattle.sort_check.proofs.formulas.+form.Goals as goal

pub denote_bound-open-requires : goal.denote_bound-open-requires
denote_bound-open-requires t c = open_room c.args.scope.now c.bound_variables.new.scope c.in_ok-inner.inner c.len-outer.ensures.few c.in_ok-inner.ensures.scope c.in_ok-inner.ensures.count

pub denote_form-returns-in-And-clause-value : goal.denote_form-returns-in-And-clause-value
denote_form-returns-in-And-clause-value t c =
    let is = and_is (setting c.args.declared.now c.args.scope.now) c.args.scope.now.variables (state c.args.signature.now c.args.scope.now) c.args.form.now c.in-And.members _ c.as_slice-in-And.ensures c.in-And.is in
    subst (λ o. Answers o c.denote_conjunction.result (state c.denote_conjunction.new.signature c.denote_conjunction.new.scope)) (sym is) c.denote_conjunction.ensures.value

pub denote_form-returns-in-Or-clause-value : goal.denote_form-returns-in-Or-clause-value
denote_form-returns-in-Or-clause-value t c =
    let is = or_is (setting c.args.declared.now c.args.scope.now) c.args.scope.now.variables (state c.args.signature.now c.args.scope.now) c.args.form.now c.in-Or.members _ c.as_slice-in-Or.ensures c.in-Or.is in
    subst (λ o. Answers o c.denote_disjunction.result (state c.denote_disjunction.new.signature c.denote_disjunction.new.scope)) (sym is) c.denote_disjunction.ensures.value
