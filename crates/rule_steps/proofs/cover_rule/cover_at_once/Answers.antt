use Rattle.std.proofs.Common.{sym, ◌∙◌}
use Rattle.rule_steps.proofs.CoverEnds.{norm_is_roomy, path_fits, shown_at_once}
use Rattle.rule_steps.proofs.cover_rule.cover_at_once.Goals as goal

pub clause_of_path-requires : goal.clause_of_path-requires
clause_of_path-requires c = norm_is_roomy c.args.sig.now c.args.norm.now c.requires.small c.requires.norm

pub cover_guessed-requires-clause-clause : goal.cover_guessed-requires-clause-clause
cover_guessed-requires-clause-clause c = path_fits c.args.sig.now c.args.norm.now c.requires.small c.requires.norm c.in_ok-path.path c.in-Some.clause (sym c.in_ok-clause.ensures.found ∙ c.in-Some.is)

pub returns-in-Some-2 : goal.returns-in-Some-2
returns-in-Some-2 c =
    shown_at_once c.args.sig.now c.args.norm.now c.requires.small c.requires.norm c.args.line.now c.in_ok-path.path c.in-Some.clause c.in-Some-2.subst (sym c.in_ok-clause.ensures.found ∙ c.in-Some.is) (rw c.in-Some-2.is at c.in_ok-subst-in-Some.ensures)
