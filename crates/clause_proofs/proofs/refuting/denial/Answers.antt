use Rattle.derive_kit.proofs.Built.{ok_map}
use Rattle.clause_proofs.proofs.Refutations.{denial_positive, denial_negative}
use Rattle.clause_proofs.proofs.refuting.denial.Goals as goal

pub returns-then-lit : goal.returns-then-lit
returns-then-lit c = ok_map c.not_i.result (λ made e. rw e (rw c.in_ok-atom.ensures (denial_positive c.args.lit.now c.args.part c.if-lit.true))) c.not_i.ensures

pub returns-else-lit : goal.returns-else-lit
returns-else-lit c = ok_map c.raa.result (λ made e. rw e (rw c.in_ok-atom.ensures (denial_negative c.args.lit.now c.args.part c.if-lit.false))) c.raa.ensures
