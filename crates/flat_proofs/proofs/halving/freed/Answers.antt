use Rattle.flat_proofs.proofs.Halves.{empty_reach}
use Rattle.flat_proofs.proofs.halving.freed.Goals as goal

pub inhabited-requires-clause-room : goal.inhabited-requires-clause-room
inhabited-requires-clause-room c = λ by le. rw c.new.ensures (empty_reach by)
