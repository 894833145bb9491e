use Rattle.derive_kit.proofs.Built.{ok_map}
use Rattle.search_proofs.proofs.Empty.{falsehood_shown}
use Rattle.search_proofs.proofs.falsehood.falsehood_by.Goals as goal

pub returns : goal.returns
returns c =
    ok_map c.without_variables.result
    (λ made e. falsehood_shown c.args.number c.args.sorts.now c.in_ok-empty.empty c.in_ok-part.part made c.in_ok-empty.ensures c.in_ok-part.ensures e)
    c.without_variables.ensures
