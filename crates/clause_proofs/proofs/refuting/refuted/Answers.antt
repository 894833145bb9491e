use Rattle.std.proofs.Common.{sym, subst, ap, ◌∙◌, List, slice_get, refl}
use Rattle.fof_terms.specs.declared.form.Form.{Or}
use Rattle.clause_form.specs.declared.clause.Lit.{Lit}
use Rattle.fof_terms.specs.Scope.{scope_sorts}
use Rattle.derive_kit.proofs.Built.{ok_map}
use Rattle.clause_form.specs.ClauseView.{form_of_lit}
use Rattle.clause_proofs.specs.Refuting.{body}
use Rattle.clause_proofs.proofs.BodySorts.{place_sorted}
use Rattle.clause_proofs.proofs.Refutations.{cases_refute, one_refutes}
use Rattle.clause_proofs.proofs.refuting.refuted.Goals as goal

pub returns-then-is_or : goal.returns-then-is_or
returns-then-is_or c =
    let all = c.in_ok-arms.ensures in
    ok_map c.cases.result
    (λ made build. cases_refute c.args.signature.now (scope_sorts c.args.scope.now) (body c.args.line.now) (form_of_lit c.args.other.now) (Or c.new.result) c.args.premise.is_or c.args.premise.lits c.in_ok-arms.arms c.args.premise.part c.args.premise.part made refl (ap Or c.new.ensures) c.if-is_or.true c.requires.goal.sorted.scope_fits (rw c.as_slice.ensures at all) build)
    c.cases.ensures

pub settled-requires-clause-sorted : goal.settled-requires-clause-sorted
settled-requires-clause-sorted c = place_sorted c.args.signature.now (scope_sorts c.args.scope.now) c.args.premise.lits 0 c.in-Some.lit.now c.requires.goal.sorted.scope_fits c.requires.sorted (sym (c.in-Some.ensures.value ∙ ap (λ (ls : List Lit). slice_get ls 0) c.as_slice-2.ensures))

pub returns-in-Some : goal.returns-in-Some
returns-in-Some c =
    ok_map c.cut_under.result
    (λ made build. one_refutes c.args.signature.now (scope_sorts c.args.scope.now) (body c.args.line.now) (form_of_lit c.args.other.now) c.in_ok-form_of_lit-in-Some.field-0 c.args.premise.is_or c.args.premise.lits c.in-Some.lit.now c.args.premise.part c.part-in-Some.inside.inner.value c.in_ok-arm-in-Some.arm made c.part-in-Some.view_is (sym (c.in-Some.ensures.value ∙ ap (λ (ls : List Lit). slice_get ls 0) c.as_slice-2.ensures)) c.if-is_or.false c.in_ok-form_of_lit-in-Some.ensures c.in_ok-arm-in-Some.ensures build)
    c.cut_under.ensures
