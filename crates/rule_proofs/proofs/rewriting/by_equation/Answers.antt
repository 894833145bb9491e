use Rattle.derive_kit.proofs.Built.{ok_map}
use Rattle.rule_proofs.proofs.rewriting.by_equation.Goals as goal

pub returns : goal.returns
returns c = ok_map c.by_pivot.result (λ made f formulas into from. f formulas from (λ h. c.in_ok-under.ensures formulas h into)) c.by_pivot.ensures
