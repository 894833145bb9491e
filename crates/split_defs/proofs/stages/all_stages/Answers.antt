use Rattle.std.proofs.Common.{ap, sym, subst, ◌∷◌, [], get_or, refl, length, length-append, arith, List}
use Rattle.split_defs.specs.declared.stages.Stage.{Stage}
use Rattle.split_defs.specs.code.SplitProof.{AreStages, stage_clauses}
use Rattle.split_defs.proofs.Contraries.{clauses_more, stages_more}
use Rattle.split_defs.proofs.Unfolding.{parent_named, stages_end}
use Rattle.split_defs.proofs.stages.all_stages.Goals as goal

pub named_stage-requires-clause-named : goal.named_stage-requires-clause-named
named_stage-requires-clause-named c =
    let r = parent_named c.args.parents.now c.args.line.now.clause c.args.names.now c.requires.named.0 c.loop-i.i (get_or c.args.names.now c.loop-i.i 0) c.requires.named.1 c.loop-i-test.true refl in
    (r.0, r.1, r.2, r.3)

pub returns-clause-clauses : goal.returns-clause-clauses
returns-clause-clauses c ds all =
    stages_end c.args.parents.now c.args.line.now.clause c.args.names.now ds (stage_clauses c.loop-i.stages) (c.args.line.now.clause ∷ ds) c.loop-i.i all c.loop-i-test.false (c.loop-i.invariant.clauses ds all)

pub loop-i-preserved : goal.loop-i-preserved
loop-i-preserved c = record {
  are = subst (AreStages c.args.sig.now c.args.parents.now c.args.form.now 1) (sym c.in_ok-push-2.ensures.ok) (stages_more c.args.sig.now c.args.parents.now c.args.form.now 1 c.in_ok-denial.denial c.loop-i.stages c.in_ok-stage.stage (omega (arith, c.loop-i.invariant.count, c.in_ok-denial.ensures)) c.loop-i.invariant.are c.in_ok-stage.ensures.stage);
  count = omega (arith, ap (λ (ss : List Stage). length ss) c.in_ok-push-2.ensures.ok, length-append c.loop-i.stages (c.in_ok-stage.stage ∷ []), c.loop-i.invariant.count);
  short = omega (arith, ap (λ (ss : List Stage). length ss) c.in_ok-push-2.ensures.ok, length-append c.loop-i.stages (c.in_ok-stage.stage ∷ []), c.loop-i.invariant.count, c.in_ok-denial.ensures);
  clauses = λ ds all.
      let r = parent_named c.args.parents.now c.args.line.now.clause c.args.names.now ds c.loop-i.i (get_or c.args.names.now c.loop-i.i 0) all c.loop-i-test.true refl in
      rw c.in_ok-push-2.ensures.ok (clauses_more c.loop-i.stages c.in_ok-stage.stage (c.args.line.now.clause ∷ ds) ds c.loop-i.i r.1 (c.in_ok-stage.ensures.clause r.0 r.1 r.2 r.3) r.4 (c.loop-i.invariant.clauses ds all));
}
