use Rattle.std.proofs.Common.{[]}
use Rattle.clause_rules.proofs.Firsts.{ok_map}
use Rattle.rule_steps.proofs.ResolutionLoops.{in_slot}
use Rattle.rule_steps.proofs.resolution_rule.resolve_slot.Goals as goal

pub returns-in-Some : goal.returns-in-Some
returns-in-Some c = ok_map c.resolve_lit.result (in_slot c.args.search.now.sig.now [] c.args.search.now.line.now c.args.left.now c.in-Some.right c.args.right.now c.args.i c.in-Some.is) c.resolve_lit.ensures
