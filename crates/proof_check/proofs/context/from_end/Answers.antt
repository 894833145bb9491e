use Rattle.std.proofs.Common.{◌<◌, ◌∙◌, sym, ap, arith, length, reverse}
use Rattle.std.specs.Prelude.{Some}
use Rattle.std.proofs.lemmas.Option.{slice_get_past, slice_get-get_or}
use Rattle.std.proofs.lemmas.List.{get_or-reverse, length-reverse}
use Rattle.proof_check.proofs.context.from_end.Goals as goal

pub returns-then-distance-forms : goal.returns-then-distance-forms
returns-then-distance-forms c =
    let d = c.index-forms-forms.result in
    let within : c.args.distance < length (reverse c.args.forms.now) = rw length-reverse (omega arith) in
    ap Some c.index-forms-forms.is ∙ sym (slice_get-get_or (reverse c.args.forms.now) c.args.distance d within ∙ ap Some (get_or-reverse c.args.forms.now c.args.distance d (omega arith)))

pub returns-else-distance-forms : goal.returns-else-distance-forms
returns-else-distance-forms c = sym (slice_get_past (reverse c.args.forms.now) c.args.distance (rw length-reverse (omega arith)))
