use Rattle.std.proofs.Common.{subst}
use Rattle.std.specs.List.{AllZip}
use Rattle.std.specs.Prelude.{IfSome}
use Rattle.search_proofs.specs.code.Contradictions.{IsOpposite}
use Rattle.search_proofs.proofs.Contradicted.{long_contradiction}
use Rattle.search_proofs.proofs.contradicting.contradiction_of.Goals as goal

pub returns-in-Some : goal.returns-in-Some
returns-in-Some c =
    long_contradiction c.args.signature.now c.args.members.now c.args.clause c.index-members-clause.result c.as_slice.result.now c.in-Some.opposites c.requires.within c.index-members-clause.is (c.in_ok-is_longer.ensures c.if-not-branch.false) c.as_slice.ensures
    (subst (λ found. IfSome found (λ places. AllZip (IsOpposite c.args.members.now) c.as_slice.result.now places)) c.in-Some.is c.in_ok-opposites.ensures)
