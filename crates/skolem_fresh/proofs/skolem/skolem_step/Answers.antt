use Rattle.std.proofs.Common.{refl, sym, subst}
use Rattle.clause_form.specs.declared.path.Parent.{Parent}
use Rattle.skolem_fresh.specs.code.Skolemizing.{IsGiven}
use Rattle.skolem_fresh.proofs.SkolemSteps.{has_norm, line_depth, one_more_not, not_at, shown_at, none_at_all}
use Rattle.skolem_fresh.proofs.skolem.skolem_step.Goals as goal

pub push_leaves-requires : goal.push_leaves-requires
push_leaves-requires c = line_depth c.args.theory.now.vocabulary c.args.line.now c.get.result.now c.requires.line (has_norm _ c.args.line.now c.in-Some.made c.get.result.now c.in_ok-made.field-0 c.in-Some.is c.get.ensures c.in_ok-made.ensures)

pub loop-i-preserved : goal.loop-i-preserved
loop-i-preserved c =
    one_more_not c.args.theory.now c.args.parents.now c.args.line.now c.get-in-loop-i.result.now (has_norm _ c.args.line.now c.in-Some.made c.get-in-loop-i.result.now c.in_ok-made.field-0 c.in-Some.is c.get-in-loop-i.ensures c.in_ok-made.ensures) c.loop-i.i c.loop-i.invariant
    (not_at c.args.theory.now c.args.parents.now c.args.line.now c.get-in-loop-i.result.now (has_norm _ c.args.line.now c.in-Some.made c.get-in-loop-i.result.now c.in_ok-made.field-0 c.in-Some.is c.get-in-loop-i.ensures c.in_ok-made.ensures) c.loop-i.i c.index-parents-i.result c.loop-i-test.true c.index-parents-i.is c.in_ok-found.found c.in_default-found.is (subst (λ (p : Parent). IsGiven c.args.theory.now p.form c.get-in-loop-i.result.now c.in_ok-found.found) (sym c.index-parents-i.is) c.in_ok-found.ensures))

pub returns : goal.returns
returns c = none_at_all c.args.theory.now c.args.parents.now c.args.line.now c.get.result.now (has_norm _ c.args.line.now c.in-Some.made c.get.result.now c.in_ok-made.field-0 c.in-Some.is c.get.ensures c.in_ok-made.ensures) c.loop-i.i c.loop-i-test.false c.loop-i.invariant

pub returns-in-Some-found : goal.returns-in-Some-found
returns-in-Some-found c =
    shown_at c.args.theory.now c.args.parents.now c.args.line.now c.get-in-loop-i.result.now (has_norm _ c.args.line.now c.in-Some.made c.get-in-loop-i.result.now c.in_ok-made.field-0 c.in-Some.is c.get-in-loop-i.ensures c.in_ok-made.ensures) c.loop-i.i c.index-parents-i.result c.loop-i-test.true c.index-parents-i.is c.in_ok-found.found c.in-Some-found.uses _ c.in-Some-found.is (subst (λ (p : Parent). IsGiven c.args.theory.now p.form c.get-in-loop-i.result.now c.in_ok-found.found) (sym c.index-parents-i.is) c.in_ok-found.ensures) refl
