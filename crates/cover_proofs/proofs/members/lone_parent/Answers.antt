use Rattle.std.proofs.Common.{refl}
use Rattle.cover_proofs.proofs.members.lone_parent.Goals as goal

pub returns : goal.returns
returns c = (record { number = c.args.number; form = c.into_inner-form.result }, rw c.in_ok-push.ensures.ok (rw c.new-cited.ensures refl), c.into_inner-form.ensures)
