use Rattle.std.proofs.Common.{◌∙◌}
use Rattle.fof_terms.specs.Scope.{scope_sorts}
use Rattle.derive_kit.proofs.Built.{ok_map}
use Rattle.norm_parts.proofs.TogetherParts.{some_map, other_sorted, under_other}
use Rattle.norm_parts.proofs.members.by_other.Goals as goal

pub along-requires : goal.along-requires
along-requires c =
    other_sorted c.args.signature.now c.args.parents.now (scope_sorts c.args.scope.now) c.args.number c.index-parents-number.result c.in_ok-new.field-0 c.requires.parents c.if-number-parents.false c.index-parents-number.is c.requires.member.scope_fits
    (c.in_ok-new.ensures ∙ c.in_ok-copy.ensures)

pub returns-in-Some : goal.returns-in-Some
returns-in-Some c =
    ok_map c.by_literals.result
    (λ found r. some_map found
    (λ p reaches. under_other c.args.signature.now c.args.parents.now (scope_sorts c.args.scope.now) c.args.shared.now c.args.member.now c.args.number c.index-parents-number.result (record { form = c.in_ok-new.field-0; part = c.in_ok-line.field-0 }) c.in-Some.made p c.requires.parents
    c.if-number-parents.false c.index-parents-number.is c.requires.member (c.in_ok-new.ensures ∙ c.in_ok-copy.ensures) c.in_ok-line.ensures (rw c.in-Some.is at c.in_ok-made.ensures) reaches) r)
    c.by_literals.ensures
