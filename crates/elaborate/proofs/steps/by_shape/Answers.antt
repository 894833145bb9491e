use Rattle.std.proofs.Common.{subst, sym, Some}
use Rattle.clause_proofs.specs.Shown.{ShowsLine}
use Rattle.clause_rules.specs.Justified.{Shows}
use Rattle.derive_kit.proofs.Built.{ok_map}
use Rattle.elaborate.proofs.StepAnswers.{shape_accepted}
use Rattle.elaborate.proofs.steps.by_shape.Goals as goal

pub prove-requires-clause-shown : goal.prove-requires-clause-shown
prove-requires-clause-shown c = subst (λ w. Shows w c.args.parents.now c.args.line.now c.args.just) (sym c.signature.ensures) c.requires.first.0

pub returns : goal.returns
returns c =
    let shows = subst (λ w. ShowsLine w c.args.parents.now c.args.line.now c.in_ok-proof.proof) c.signature.ensures c.in_ok-proof.ensures in
    ok_map c.citing_all.result
    (λ answer e.
    shape_accepted c.args.theory.now c.args.parents.now c.args.line.now c.args.just c.rule_of-rule.result c.in_ok-proof.proof c.in_ok-entries.entries answer c.requires.parents c.rule_of-rule.ensures c.in_ok-entries.ensures e c.requires.first shows)
    c.citing_all.ensures
