use Rattle.std.proofs.Common.{refl}
use Rattle.norm_parts.proofs.TogetherParts.{source_from}
use Rattle.norm_parts.proofs.together.source_shown.Goals as goal

pub returns-in_ok-part-in-Some : goal.returns-in_ok-part-in-Some
returns-in_ok-part-in-Some c =
    source_from c.args.signature.now c.args.parents.now c.args.number c.index-parents-number.result c.in-Some.form c.in_ok-line-in-Some.field-0 c.in_ok-forth-in-Some.forth c.in_ok-part-in-Some.part
    (record { form = c.in-Some.form; part = c.in_ok-part-in-Some.part }) c.requires c.if-number-parents.false c.index-parents-number.is (rw c.in-Some.is at c.in_ok-form.ensures) c.in_ok-line-in-Some.ensures c.in_ok-forth-in-Some.ensures
    c.in_ok-part-in-Some.ensures refl refl
