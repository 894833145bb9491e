use Rattle.norm_parts.proofs.Showing.{is_tautology}
use Rattle.norm_parts.proofs.proving.part_proved.Goals as goal

pub covered-requires-clause-shown : goal.covered-requires-clause-shown
covered-requires-clause-shown c = (rw c.in-Cover.is at c.requires.shown).0

pub trivial-requires-clause-trivial : goal.trivial-requires-clause-trivial
trivial-requires-clause-trivial c = is_tautology c.args.signature.now c.args.parents.now c.args.part.now c.args.just.now c.requires.shown c.in_default.not-Cover
