use Rattle.derive_kit.proofs.Built.{ok_map}
use Rattle.elaborate.proofs.StepAnswers.{leaf_covered, leaf_left}
use Rattle.elaborate.proofs.leaves.covered_leaf.Goals as goal

pub returns-in-Some : goal.returns-in-Some
returns-in-Some c =
    ok_map c.accepted.result
    (λ answer e. rw e (leaf_covered c.args.theory.now c.signature.result.now c.args.candidates.now c.args.cited c.args.line.now c.args.limit c.in_ok-found.field-0 c.in-Some.found c.signature.ensures c.requires.candidates c.in-Some.is c.requires.no_norm c.in_ok-found.ensures))
    c.accepted.ensures

pub returns-in-None : goal.returns-in-None
returns-in-None c =
    ok_map c.by_no_rule.result
    (λ answer h. leaf_left c.args.theory.now c.signature.result.now c.args.candidates.now c.args.cited c.args.line.now c.args.limit c.in_ok-found.field-0 c.signature.ensures c.in-None.is c.requires.no_norm c.in_ok-found.ensures answer h)
    c.by_no_rule.ensures
