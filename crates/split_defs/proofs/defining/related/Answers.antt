use Rattle.split_defs.proofs.Equivalences.{iff_turned, imp_forth, imp_back, is_relation}
use Rattle.split_defs.proofs.defining.related.Goals as goal

pub returns-else-first : goal.returns-else-first
returns-else-first c = iff_turned c.turned.result c.args.body.now c.in-Iff.left c.in-Iff.right c.get.result.now c.get-else-first.result.now c.args.fact c.args.first c.get.ensures c.get-else-first.ensures c.in-Iff.is c.if-first.false c.turned.ensures

pub returns-then-first-2 : goal.returns-then-first-2
returns-then-first-2 c =
    imp_forth c.forth.result c.args.body.now c.in-Imp.left c.in-Imp.right c.get-then-first-2.result.now c.get-then-first-2-2.result.now c.args.fact c.args.first c.get-then-first-2.ensures c.get-then-first-2-2.ensures c.in-Imp.is c.if-first-2.true c.forth.ensures

pub returns-else-first-2 : goal.returns-else-first-2
returns-else-first-2 c =
    imp_back c.back.result c.args.body.now c.in-Imp.left c.in-Imp.right c.get-else-first-2.result.now c.get-else-first-2-2.result.now c.args.fact c.args.first c.get-else-first-2.ensures c.get-else-first-2-2.ensures c.in-Imp.is c.if-first-2.false c.back.ensures

pub unreachable-requires : goal.unreachable-requires
unreachable-requires c = is_relation c.args.first c.requires.0 c.requires.1 c.args.body.now c.requires.2 c.in_default.not-Iff c.in_default.not-Imp
