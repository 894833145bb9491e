use Rattle.input_proofs.proofs.PendingFacts.{pending_made}
use Rattle.input_proofs.proofs.pending.pending_of.Goals as goal

pub returns : goal.returns
returns c = pending_made c.args.form.now c.args.path.now c.args.fact c.args.wanted c.in_ok-implied.field-0 c.if-not-wanted.false c.in_ok-implied.ensures
