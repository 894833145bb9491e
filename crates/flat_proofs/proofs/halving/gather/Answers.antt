use Rattle.std.proofs.Common.{map}
use Rattle.derive_kit.proofs.Built.{ok_map}
use Rattle.flat_proofs.specs.code.Members.{seen}
use Rattle.flat_proofs.proofs.Halves.{forth_gathers, back_gathers, and_gathers}
use Rattle.flat_proofs.proofs.halving.gather.Goals as goal

pub returns-then-forth : goal.returns-then-forth
returns-then-forth c = ok_map c.forwards.result (λ made e. forth_gathers c.args.kind c.args.forth (map seen c.args.members.now) made c.if-forth.true e) c.forwards.ensures

pub returns-then-kind : goal.returns-then-kind
returns-then-kind c = ok_map c.halved.result (λ made w. and_gathers c.args.kind c.args.forth (map seen c.args.members.now) made c.if-kind.true c.if-forth.false w) c.halved.ensures

pub returns : goal.returns
returns c = ok_map c.backwards.result (λ made e. back_gathers c.args.kind c.args.forth (map seen c.args.members.now) made c.if-forth.false e) c.backwards.ensures
