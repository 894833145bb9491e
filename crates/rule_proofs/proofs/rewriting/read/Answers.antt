use Rattle.fof_terms.specs.Scope.{scope_sorts}
use Rattle.derive_kit.proofs.Built.{ok_map}
use Rattle.rule_proofs.proofs.Factors.{read_turned, read_straight, turned_back}
use Rattle.rule_proofs.proofs.rewriting.read.Goals as goal

pub returns-then-flipped : goal.returns-then-flipped
returns-then-flipped c = ok_map c.turned.result (λ made t. read_turned c.args.signature.now (scope_sorts c.args.scope.now) c.args.left.now c.args.right.now c.args.flipped c.in_ok-own.own made c.if-flipped.true c.in_ok-own.ensures c.requires.room c.requires.sorted t) c.turned.ensures

pub returns-else-flipped : goal.returns-else-flipped
returns-else-flipped c = read_straight c.args.signature.now (scope_sorts c.args.scope.now) c.args.left.now c.args.right.now c.args.flipped c.in_ok-own.own c.if-flipped.false c.in_ok-own.ensures c.requires.sorted

pub turned-requires : goal.turned-requires
turned-requires c = turned_back c.args.signature.now (scope_sorts c.args.scope.now) c.args.left.now c.args.right.now c.requires.sorted
