use Rattle.std.proofs.Common.{sym, ◌∙◌}
use Rattle.rule_steps.proofs.ResolutionLoops.{form_fits}
use Rattle.split_defs.proofs.covering.covering_of.Goals as goal

pub cover_clause-requires-clause-clause : goal.cover_clause-requires-clause-clause
cover_clause-requires-clause-clause c = form_fits c.args.sig.now c.args.form.now c.requires.form c.in-Some.clause (sym c.in_ok-clause.ensures ∙ c.in-Some.is)
