use Rattle.derive_kit.proofs.Built.{ok_map}
use Rattle.search_proofs.proofs.Clashing.{arm_shows}
use Rattle.search_proofs.proofs.opposing.clash.Goals as goal

pub returns : goal.returns
returns c =
    ok_map c.without_variables.result
    (λ made e. arm_shows c.args.number c.args.opposite.now c.args.lit.now c.as_slice.result.now c.in_ok-body.body c.in_ok-falsehood.falsehood made c.in_ok-body.ensures c.in_ok-falsehood.ensures c.as_slice.ensures e)
    c.without_variables.ensures
