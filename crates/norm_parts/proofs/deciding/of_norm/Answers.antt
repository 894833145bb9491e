use Rattle.std.proofs.Common.{subst, sym}
use Rattle.derive_kit.proofs.Built.{ok_map}
use Rattle.norm_parts.specs.code.Known.{AreKnown}
use Rattle.norm_parts.proofs.DecidedParts.{decided_by_parts}
use Rattle.norm_parts.proofs.Ready.{each_ready}
use Rattle.norm_parts.proofs.deciding.of_norm.Goals as goal

pub decided-requires-clause-known : goal.decided-requires-clause-known
decided-requires-clause-known c = subst (AreKnown c.args.signature.now c.args.parents.now) (sym c.as_slice.ensures) c.in_ok-known.ensures

pub decided-requires-clause-members : goal.decided-requires-clause-members
decided-requires-clause-members c =
    each_ready c.args.signature.now c.args.line.now c.args.norm.now c.in_ok-members.members c.as_slice-members.result.now c.requires.line (sym c.requires.norm.same) c.in_ok-members.ensures c.as_slice-members.ensures

pub returns : goal.returns
returns c =
    ok_map c.decided.result (decided_by_parts c.args.signature.now c.args.parents.now c.args.line.now c.args.norm.now c.in_ok-members.members c.as_slice-members.result.now c.requires.norm c.in_ok-members.ensures c.as_slice-members.ensures) c.decided.ensures
