use Rattle.std.proofs.Common.{ap, ◌∙◌, subst, length}
use Rattle.std.specs.Prelude.{Bool, List, IfSome}
use Rattle.derive_kit.proofs.Built.{ok_map}
use Rattle.search_proofs.specs.code.Contradictions.{ContradictsIn}
use Rattle.search_proofs.proofs.ending.ending_of.Goals as goal

pub find_contradiction-requires : goal.find_contradiction-requires
find_contradiction-requires c = ap (λ (bs : List Bool). length bs) c.as_slice.ensures ∙ c.in_ok-needed.ensures.count

pub ended_by-requires-clause-contradicts : goal.ended_by-requires-clause-contradicts
ended_by-requires-clause-contradicts c = (subst (λ found. IfSome found (ContradictsIn c.args.signature.now c.args.members.now)) c.in-Some.is c.in_ok-contradiction.ensures).found

pub returns-in-Some : goal.returns-in-Some
returns-in-Some c =
    let found = subst (λ found. IfSome found (ContradictsIn c.args.signature.now c.args.members.now)) c.in-Some.is c.in_ok-contradiction.ensures in
    ok_map c.ended_by.result (λ ending enough. enough c.args.signature.now c.args.last.now found) c.ended_by.ensures
