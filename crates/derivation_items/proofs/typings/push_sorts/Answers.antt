use Rattle.std.proofs.Common.{◌≤◌, length, arith, sym, ap, ◌∙◌}
use Rattle.std.proofs.lemmas.List.{drop_all}
use Rattle.derivation_items.specs.Typings.{sort_typing}
use Rattle.derivation_items.proofs.TypingFacts.{one_declared, all_declared}
use Rattle.derivation_items.proofs.typings.push_sorts.Goals as goal

pub loop-number-preserved : goal.loop-number-preserved
loop-number-preserved c =
    one_declared sort_typing c.args.sig.now.sorts c.loop-number.number c.in-Some.name.now _ c.loop-number.items c.push_typing.new.items (sym c.in-Some.ensures) (ap sort_typing (c.in_ok-name.ensures ∙ c.as_slice.ensures)) c.in_ok-push_typing.ensures ∙ c.loop-number.invariant

pub returns : goal.returns
returns c =
    let past : length c.args.sig.now.sorts ≤ c.loop-number.number = omega (arith, c.loop-number-test.false, c.sort_count-number-end.ensures.value) in
    sym (all_declared sort_typing c.args.sig.now.sorts c.loop-number.number c.loop-number.items (drop_all c.loop-number.number c.args.sig.now.sorts past)) ∙ c.loop-number.invariant
