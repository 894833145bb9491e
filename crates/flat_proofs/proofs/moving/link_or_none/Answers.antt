use Rattle.std.proofs.Common.{ap, refl}
use Rattle.clause_form.specs.Norm.{node}
use Rattle.std.proofs.Common.{arith}
use Rattle.flat_proofs.proofs.Together.{link_leads, moved_count}
use Rattle.flat_proofs.proofs.moving.link_or_none.Goals as goal

pub returns-then-equal_all : goal.returns-then-equal_all
returns-then-equal_all c = λ n m. ap (node c.args.kind) (c.if-equal_all.ensures.0 refl)

pub link-requires : goal.link-requires
link-requires c = omega (arith, moved_count c.args.forth c.requires.parts.0 c.args.forms.now c.args.parts c.requires.parts.1, c.requires.few)

pub returns : goal.returns
returns c = λ n m. link_leads c.args.kind c.args.forth c.args.forms.now n c.args.parts c.args.closed.now c.in_ok-link.field-0 c.requires.closed c.in_ok-link.ensures m
