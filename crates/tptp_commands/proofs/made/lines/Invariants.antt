use Rattle.std.proofs.Common.{◌≡◌}
use Rattle.tptp_commands.specs.Made.{below}
use Rattle.tptp_commands.specs.code.Making.{line_of}
use Rattle.tptp_commands.proofs.made.lines.Given as goal

-- the lines so far
abbrev pub invariant-loop-number : goal.invariant-loop-number
invariant-loop-number l = l.text.items ≡ below l.number (line_of l.part)
