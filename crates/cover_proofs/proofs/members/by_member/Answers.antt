use Rattle.std.proofs.Common.{arith, refl, sym, ◌∙◌}
use Rattle.cover_proofs.proofs.CoverLines.{parent_shown}
use Rattle.cover_proofs.proofs.MemberLines.{led_fact, fact_shows}
use Rattle.cover_proofs.proofs.members.by_member.Goals as goal

pub returns-then-equal : goal.returns-then-equal
returns-then-equal c =
    fact_shows 1000000000 c.args.signature.now c.args.parent.now c.in_ok-first.first.form c.args.line.now c.in_ok-first.first.part (sym c.get.ensures ∙ c.if-equal.ensures.0 refl)
    (led_fact c.args.signature.now c.args.parent.now c.args.parent.now.form c.in_ok-own.own c.in_ok-first.first.more c.in_ok-first.first.form c.in_ok-first.first.part c.in_ok-first.ensures.leads c.requires.parent 1002000000 1000000000 (omega (arith, c.in_ok-first.ensures.few)) (omega arith)
    (parent_shown 1002000000 c.args.signature.now c.args.parent.now c.in_ok-own.own c.in_ok-own.ensures c.requires.parent))

pub by_norm_of-requires-clause-fact : goal.by_norm_of-requires-clause-fact
by_norm_of-requires-clause-fact c =
    led_fact c.args.signature.now c.args.parent.now c.args.parent.now.form c.in_ok-own.own c.in_ok-first.first.more c.in_ok-first.first.form c.in_ok-first.first.part c.in_ok-first.ensures.leads c.requires.parent 1002000000 1000000000 (omega (arith, c.in_ok-first.ensures.few)) (omega arith)
    (parent_shown 1002000000 c.args.signature.now c.args.parent.now c.in_ok-own.own c.in_ok-own.ensures c.requires.parent)
