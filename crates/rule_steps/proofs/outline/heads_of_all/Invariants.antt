use Rattle.std.proofs.Common.{◌≡◌, take, map, Some}
use Rattle.clause_form.specs.ClauseView.{all_there}
use Rattle.rule_steps.specs.code.Outline.{sketch}
use Rattle.rule_steps.proofs.outline.heads_of_all.Given as goal

abbrev pub invariant-loop-member : goal.invariant-loop-member
invariant-loop-member l = all_there (map (λ a. (sketch a).head) (take l.member-index l.members)) ≡ Some l.heads
