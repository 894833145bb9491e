use Rattle.derive_kit.proofs.Built.{ok_map}
use Rattle.clause_proofs.proofs.CoveredLiterals.{absurd_true, absurd_eq, absurd_other}
use Rattle.clause_proofs.proofs.covering.absurd.Goals as goal

pub returns-in_ok-all-in-True : goal.returns-in_ok-all-in-True
returns-in_ok-all-in-True c = ok_map c.not_e.result (λ made e. rw e (rw (c.in_ok-own.ensures, c.in_ok-all-in-True.ensures) (absurd_true c.args.lit.now c.in-True.is c.requires))) c.not_e.ensures

pub returns-in_ok-same-in-Eq : goal.returns-in_ok-same-in-Eq
returns-in_ok-same-in-Eq c = ok_map c.not_e-in-Eq.result (λ made e. rw e (rw (c.in_ok-own.ensures, c.in_ok-same-in-Eq.ensures) (rw c.in_ok-copy-in-Eq.ensures (absurd_eq c.args.lit.now c.in-Eq.left c.in-Eq.field-1 c.in-Eq.is c.requires)))) c.not_e-in-Eq.ensures

pub returns-in-Pred : goal.returns-in-Pred
returns-in-Pred c = rw c.in_ok-own.ensures (absurd_other c.args.lit.now c.in-Pred.is c.requires)
