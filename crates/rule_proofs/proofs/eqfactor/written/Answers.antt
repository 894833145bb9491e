use Rattle.fof_terms.specs.Scope.{scope_sorts}
use Rattle.derive_kit.proofs.Built.{ok_map}
use Rattle.rule_proofs.proofs.Factors.{written_turned, written_straight}
use Rattle.rule_proofs.proofs.eqfactor.written.Goals as goal

pub returns-then-flipped : goal.returns-then-flipped
returns-then-flipped c = ok_map c.turned.result (λ made t. written_turned c.args.signature.now (scope_sorts c.args.scope.now) c.args.left.now c.args.right.now c.args.flipped c.args.part made c.if-flipped.true c.requires.room c.requires.sorted t) c.turned.ensures

pub returns-else-flipped : goal.returns-else-flipped
returns-else-flipped c = written_straight c.args.signature.now (scope_sorts c.args.scope.now) c.args.left.now c.args.right.now c.args.flipped c.args.part c.if-flipped.false
