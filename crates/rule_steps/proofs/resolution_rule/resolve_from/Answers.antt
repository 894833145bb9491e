use Rattle.clause_rules.proofs.Firsts.{ok_map}
use Rattle.rule_steps.proofs.ResolutionLoops.{from_slot}
use Rattle.rule_steps.proofs.resolution_rule.resolve_from.Goals as goal

pub returns-in-Some : goal.returns-in-Some
returns-in-Some c = ok_map c.resolve_with.result (from_slot c.args.search.now.sig.now c.args.search.now.clauses.now c.args.search.now.line.now c.in-Some.left c.args.left.now c.args.a c.in-Some.is) c.resolve_with.ensures
