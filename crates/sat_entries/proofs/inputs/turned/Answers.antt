use Rattle.std.proofs.Common.{sym, subst}
use Rattle.derive_kit.proofs.Built.{ok_map}
use Rattle.sat_entries.specs.code.Inputs.{IsTurned}
use Rattle.sat_entries.proofs.InputFacts.{turned_shows}
use Rattle.sat_entries.proofs.inputs.turned.Goals as goal

pub returns : goal.returns
returns c =
    ok_map c.not_i.result (λ p e. subst (IsTurned c.args.lits.now c.args.number) (sym e) (turned_shows c.args.lits.now c.args.number c.in_ok-denied.denied c.in_ok-falsehood.falsehood c.in_ok-denied.ensures c.in_ok-falsehood.ensures)) c.not_i.ensures
