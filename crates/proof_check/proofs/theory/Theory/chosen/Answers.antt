use Rattle.fof_terms.specs.Occurs.{occurs_in}
use Rattle.proof_check.proofs.Added.{used_not_fresh}
use Rattle.proof_check.proofs.theory.Theory.chosen.Goals as goal

pub returns-then-uses : goal.returns-then-uses
returns-then-uses c = λ a. (λ e. cc, λ w. absurd (used_not_fresh (occurs_in c.args.function) c.args.self.now.formulas c.if-uses.ensures w.1.fresh))
