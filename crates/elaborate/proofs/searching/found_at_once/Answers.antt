use Rattle.derive_kit.proofs.Built.{ok_map}
use Rattle.elaborate.proofs.FoundAnswers.{functions_found, parts_found}
use Rattle.elaborate.proofs.searching.found_at_once.Goals as goal

pub returns-in-Some : goal.returns-in-Some
returns-in-Some c =
    rw c.in_ok-entries.ensures
    (parts_found c.args.theory.now c.signature.result.now c.signature.ensures c.args.parents.now c.args.line.now c.in_ok-proof.field-0 c.in_ok-proof.ensures c.in-Some.proof c.requires.parents c.in-Some.is)

pub returns : goal.returns
returns c =
    ok_map c.clausified.result
    (λ found h. functions_found c.args.theory.now c.signature.result.now c.signature.ensures c.args.parents.now c.args.line.now c.in_ok-proof.field-0 c.in_ok-proof.ensures c.in_default.is found h)
    c.clausified.ensures
