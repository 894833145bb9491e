use Rattle.std.proofs.Common.{◌∙◌, refl}
use Rattle.std.specs.Prelude.{Result, Ok, Err, OnOk}
use Rattle.step_clauses.proofs.ExistentialsFacts.{atom_found, equation_found, both_found, imp_parts, iff_parts, ex_found, found_more}
use Rattle.step_clauses.proofs.existentials.+push_existentials.Goals as goal

then_on : {X E : Type 0} {P Q : Type 0} (r : Result X E) → (P → Q) → OnOk r P → OnOk r Q
then_on (Ok x) f p = f p
then_on (Err e) f p = p

pub push_existentials-returns-in-Atom-clause-found : goal.push_existentials-returns-in-Atom-clause-found
push_existentials-returns-in-Atom-clause-found t c = atom_found c.args.form.now c.args.around.now c.args.found.now c.args.found.now c.in-Atom.field-0 c.in-Atom.field-1 c.in-Atom.is refl

pub push_existentials-returns-in-Eq-clause-found : goal.push_existentials-returns-in-Eq-clause-found
push_existentials-returns-in-Eq-clause-found t c = equation_found c.args.form.now c.args.around.now c.args.found.now c.args.found.now c.in-Eq.field-0 c.in-Eq.field-1 c.in-Eq.is refl

pub push_existentials-returns-in_ok-push_existentials-in-Imp-clause-found : goal.push_existentials-returns-in_ok-push_existentials-in-Imp-clause-found
push_existentials-returns-in_ok-push_existentials-in-Imp-clause-found t c =
    then_on c.push_existentials-in-Imp-2.result
    (λ e. both_found c.args.form.now c.args.around.now c.args.found.now c.push_existentials-in-Imp-2.new.found c.get-in-Imp.result.now c.get-in-Imp-2.result.now c.in-Imp.left c.in-Imp.right c.push_existentials-in-Imp.new.found c.push_existentials-in-Imp.new.around (imp_parts c.args.form.now c.args.around.now c.args.found.now c.args.found.now c.in-Imp.left c.in-Imp.right c.in-Imp.is)
    c.get-in-Imp.ensures c.get-in-Imp-2.ensures c.in_ok-push_existentials-in-Imp.ensures.found c.in_ok-push_existentials-in-Imp.ensures.around e) c.push_existentials-in-Imp-2.ensures.found

pub push_existentials-returns-in_ok-push_existentials-in-Iff-clause-found : goal.push_existentials-returns-in_ok-push_existentials-in-Iff-clause-found
push_existentials-returns-in_ok-push_existentials-in-Iff-clause-found t c =
    then_on c.push_existentials-in-Iff-2.result
    (λ e. both_found c.args.form.now c.args.around.now c.args.found.now c.push_existentials-in-Iff-2.new.found c.get-in-Iff.result.now c.get-in-Iff-2.result.now c.in-Iff.left c.in-Iff.right c.push_existentials-in-Iff.new.found c.push_existentials-in-Iff.new.around (iff_parts c.args.form.now c.args.around.now c.args.found.now c.args.found.now c.in-Iff.left c.in-Iff.right c.in-Iff.is)
    c.get-in-Iff.ensures c.get-in-Iff-2.ensures c.in_ok-push_existentials-in-Iff.ensures.found c.in_ok-push_existentials-in-Iff.ensures.around e) c.push_existentials-in-Iff-2.ensures.found

pub push_existentials-returns-in_ok-push-in-Ex-clause-found : goal.push_existentials-returns-in_ok-push-in-Ex-clause-found
push_existentials-returns-in_ok-push-in-Ex-clause-found t c =
    then_on c.push_existentials-in-Ex.result
    (λ e. ex_found c.args.form.now c.args.around.now c.args.found.now c.push_existentials-in-Ex.new.found c.in-Ex.sort c.get-in-Ex.result.now c.in-Ex.body c.in_ok-copy-in-Ex.copy c.push-in-Ex.new.self c.in-Ex.is c.get-in-Ex.ensures (c.in_ok-copy-in-Ex.ensures ∙ c.as_slice.ensures) c.in_ok-push-in-Ex.ensures.ok e) c.push_existentials-in-Ex.ensures.found

pub push_of_all-loop-form-preserved : goal.push_of_all-loop-form-preserved
push_of_all-loop-form-preserved t c = (
  c.in_ok-push_existentials.ensures.around ∙ c.loop-form.invariant.0,
  found_more c.args.forms.now c.loop-form.form-index c.form-item.result c.args.around.now c.loop-form.around c.args.found.now c.loop-form.found c.push_existentials.new.found c.loop-form-test.true c.form-item.is c.loop-form.invariant.0 c.loop-form.invariant.1 c.in_ok-push_existentials.ensures.found,
)
