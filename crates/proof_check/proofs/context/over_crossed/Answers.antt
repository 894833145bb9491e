use Rattle.std.proofs.Common.{◌∙◌, sym, ap}
use Rattle.fof_terms.specs.Lift.{lifted}
use Rattle.proof_check.proofs.Lifts.{lifted_none}
use Rattle.proof_check.proofs.context.over_crossed.Goals as goal

pub returns-then-found-eq0 : goal.returns-then-found-eq0
returns-then-found-eq0 c = c.given.ensures ∙ sym (ap (λ n. lifted n 0 c.args.found.form.now) c.if-found-eq0.true ∙ lifted_none c.args.found.form.now 0)
