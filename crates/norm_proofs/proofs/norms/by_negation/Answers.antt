use Rattle.derive_kit.proofs.Built.{ok_map}
use Rattle.norm_proofs.proofs.Turned.{denied_small, denied_placed, turned_done}
use Rattle.norm_proofs.proofs.norms.by_negation.Goals as goal

pub between-requires-2-clause-size : goal.between-requires-2-clause-size
between-requires-2-clause-size c = denied_small c.args.form.now c.args.denied.now c.requires.denied c.requires.size

pub between-requires-2-clause-placed : goal.between-requires-2-clause-placed
between-requires-2-clause-placed c = denied_placed c.args.form.now c.args.denied.now c.requires.denied c.args.forth c.in_ok-part.field-0.part c.in_ok-part.ensures.part c.requires.placed

pub returns : goal.returns
returns c =
    ok_map c.denied_step.result (λ made f. turned_done c.args.form.now c.args.denied.now c.requires.denied c.args.forth c.in_ok-part.field-0.part c.in_ok-part.ensures.part c.in_ok-last.field-0.part made c.requires.same c.in_ok-last.ensures.part f) c.denied_step.ensures

pub denied_step-requires : goal.denied_step-requires
denied_step-requires c = denied_small c.args.form.now c.args.denied.now c.requires.denied c.requires.size
