use Rattle.flat_form.specs.Flat.{flat_of}
use Rattle.derive_kit.proofs.Built.{ok_map}
use Rattle.cover_proofs.proofs.NormLines.{through, one_flat}
use Rattle.cover_proofs.proofs.norm.by_flat_forms.Goals as goal

pub returns : goal.returns
returns c =
    ok_map c.apply-2.result
    (λ made two. through c.args.parent.now (flat_of c.args.parent.now) (flat_of c.args.line.now) c.args.line.now c.args.own c.in_ok-forth.forth c.in_ok-middle.middle c.in_ok-back.back made (one_flat c.args.parent.now c.args.line.now c.requires.alike) c.in_ok-forth.ensures c.in_ok-back.ensures c.in_ok-middle.ensures two)
    c.apply-2.ensures
