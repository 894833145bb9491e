use Rattle.std.proofs.Common.{[], ◌∷◌}
use Rattle.saturation.specs.declared.member.Member.{Member}
use Rattle.saturation.specs.declared.member.Origin.{Origin}
use Rattle.refutation_lines.specs.Needs.{is_input}
use Rattle.refutation_lines.proofs.NeedFacts.{IsLeftFrom}
use Rattle.refutation_lines.proofs.needing.printed_inputs.Given as goal

abbrev pub invariant-loop-at : goal.invariant-loop-at
invariant-loop-at l = IsLeftFrom Member Origin (λ j m. m.origin ∷ []) is_input l.count l.needed l.members l.at l.marks
