use Rattle.std.proofs.Common.{arith}
use Rattle.derive_kit.proofs.Built.{ok_map}
use Rattle.flat_proofs.proofs.flats.flat_back.Goals as goal

pub returns : goal.returns
returns c = ok_map c.whole_step.result (λ made l t v h few s. l t v h (omega (arith, few)) s) c.whole_step.ensures
