use Rattle.derive_kit.proofs.Built.{ok_map}
use Rattle.elaborate.proofs.StepAnswers.{leaf_found, not_normed}
use Rattle.elaborate.proofs.leaves.leaf.Goals as goal

pub returns-in_ok-proof-in-Some : goal.returns-in_ok-proof-in-Some
returns-in_ok-proof-in-Some c =
    ok_map c.accepted.result
    (λ answer e. rw e (leaf_found c.args.theory.now c.signature-signature.result.now c.args.candidates.now c.args.cited c.args.line.now c.args.limit c.in_ok-at.field-0 c.in-Some.at c.index-candidates-at.result c.in_ok-proof-in-Some.proof c.requires.candidates c.signature-signature.ensures c.index-candidates-at.is c.in-Some.is c.in_ok-at.ensures c.in_ok-proof-in-Some.ensures))
    c.accepted.ensures

pub covered_leaf-requires-clause-no_norm : goal.covered_leaf-requires-clause-no_norm
covered_leaf-requires-clause-no_norm c = not_normed c.args.candidates.now c.args.line.now c.in_ok-at.field-0 c.in-None.is c.in_ok-at.ensures
