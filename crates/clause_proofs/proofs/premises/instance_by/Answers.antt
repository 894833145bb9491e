use Rattle.derive_kit.proofs.Built.{ok_map}
use Rattle.clause_proofs.proofs.Instances.{premise_of}
use Rattle.clause_proofs.proofs.premises.instance_by.Goals as goal

pub returns : goal.returns
returns c = ok_map c.instance_of_part.result (λ made by. premise_of c.args.number c.in_ok-line.field-0 c.args.opened.now c.args.subst made c.in_ok-line.ensures by) c.instance_of_part.ensures
