use Rattle.norm_parts.proofs.DecidedParts.{shown_lent, not_by_parts}
use Rattle.norm_parts.proofs.proving.line_by_parts.Goals as goal

pub shown_by_parts-requires-clause-shown : goal.shown_by_parts-requires-clause-shown
shown_by_parts-requires-clause-shown c = shown_lent c.args.signature.now c.args.parents.now c.args.line.now c.in_ok-justs.field-0 c.in-Some.justs c.as_slice.result.now c.in-Some.is c.as_slice.ensures c.in_ok-justs.ensures

pub returns-in_ok-proof-in-Some : goal.returns-in_ok-proof-in-Some
returns-in_ok-proof-in-Some c =
    ((shown_lent c.args.signature.now c.args.parents.now c.args.line.now c.in_ok-justs.field-0 c.in-Some.justs c.as_slice.result.now c.in-Some.is c.as_slice.ensures c.in_ok-justs.ensures).0, c.in_ok-proof-in-Some.ensures)

pub returns-in-None : goal.returns-in-None
returns-in-None c = not_by_parts c.args.signature.now c.args.parents.now c.args.line.now c.in_ok-justs.field-0 c.in-None.is c.in_ok-justs.ensures
