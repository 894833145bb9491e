use Rattle.std.proofs.Common.{◌∙◌, [], arith}
use Rattle.derive_kit.proofs.Built.{ok_map}
use Rattle.norm_parts.proofs.Ready.{each_ready, norm_ready}
use Rattle.norm_parts.proofs.Showing.{shown_here, so_many, line_shown, line_by_whole}
use Rattle.clause_proofs.proofs.ReadyParents.{full}
use Rattle.norm_parts.proofs.proving.shown_by_parts.Goals as goal

pub small_norm-requires : goal.small_norm-requires
small_norm-requires c = c.requires.shown.0.small

pub at_once-requires-clause-norm : goal.at_once-requires-clause-norm
at_once-requires-clause-norm c = norm_ready c.args.signature.now c.args.line.now c.get.result.now (c.get.ensures ∙ c.in_ok-norm.ensures ∙ c.in_ok-small_norm.ensures) c.requires.line

pub each_proved-requires-clause-members : goal.each_proved-requires-clause-members
each_proved-requires-clause-members c =
    each_ready c.args.signature.now c.args.line.now c.get-2.result.now c.in_ok-members.members c.as_slice-members.result.now c.requires.line (c.get-2.ensures ∙ c.in_ok-norm.ensures ∙ c.in_ok-small_norm.ensures) c.in_ok-members.ensures c.as_slice-members.ensures

pub each_proved-requires-clause-shown : goal.each_proved-requires-clause-shown
each_proved-requires-clause-shown c =
    shown_here c.args.signature.now c.args.parents.now c.args.line.now c.get-2.result.now c.in_ok-members.members c.as_slice-members.result.now c.args.justs.now (c.get-2.ensures ∙ c.in_ok-norm.ensures ∙ c.in_ok-small_norm.ensures) c.in_ok-members.ensures c.as_slice-members.ensures c.requires.shown.1

pub each_proved-requires-clause-many : goal.each_proved-requires-clause-many
each_proved-requires-clause-many c =
    so_many c.args.signature.now c.args.parents.now c.as_slice-members.result.now c.args.justs.now
    (shown_here c.args.signature.now c.args.parents.now c.args.line.now c.get-2.result.now c.in_ok-members.members c.as_slice-members.result.now c.args.justs.now (c.get-2.ensures ∙ c.in_ok-norm.ensures ∙ c.in_ok-small_norm.ensures) c.in_ok-members.ensures c.as_slice-members.ensures c.requires.shown.1)

pub line_of_parts-requires-clause-small : goal.line_of_parts-requires-clause-small
line_of_parts-requires-clause-small c = c.requires.shown.0.small

pub line_of_parts-requires-clause-sorted : goal.line_of_parts-requires-clause-sorted
line_of_parts-requires-clause-sorted c = (c.args.signature.now, [], omega arith, full c.args.signature.now c.args.line.now c.requires.line)

pub returns-in-Some : goal.returns-in-Some
returns-in-Some c =
    ok_map c.line_of_norm.result
    (λ made f. line_by_whole c.args.signature.now c.args.parents.now c.args.line.now c.get.result.now c.in-Some.whole made c.requires.line (c.get.ensures ∙ c.in_ok-norm.ensures ∙ c.in_ok-small_norm.ensures) (rw c.in-Some.is at c.in_ok-whole.ensures) f) c.line_of_norm.ensures

pub returns : goal.returns
returns c =
    ok_map c.line_of_parts.result
    (λ made f. line_shown c.args.signature.now c.args.parents.now c.args.line.now c.get-2.result.now c.in_ok-members.members c.as_slice-members.result.now c.in_ok-proofs.proofs made c.requires.line (c.get-2.ensures ∙ c.in_ok-norm.ensures ∙ c.in_ok-small_norm.ensures) c.in_ok-members.ensures c.as_slice-members.ensures c.in_ok-proofs.ensures f) c.line_of_parts.ensures
