use Rattle.std.proofs.Common.{List, refl, subst, take}
use Rattle.sort_check.specs.declared.line.GivenEntry.{GivenEntry}
use Rattle.limited_items.specs.code.Amounts.{AreWanted}
use Rattle.limited_items.proofs.AmountFacts.{wanted_none}
use Rattle.limited_items.proofs.PlaceFacts.{taken}
use Rattle.limited_items.proofs.wanted.wanted_by_given.Goals as goal

pub loop-entry-init : goal.loop-entry-init
loop-entry-init c = wanted_none (record { names = c.new.result; all = 0 }) c.new.ensures refl

pub loop-entry-preserved : goal.loop-entry-preserved
loop-entry-preserved c =
    subst (λ (given : List GivenEntry). AreWanted given c.add_entry.new.by_given) (taken c.args.given.now c.loop-entry.entry-index c.entry-item.result c.loop-entry-test.true c.entry-item.is)
    (c.in_ok-add_entry.ensures (take c.loop-entry.entry-index c.args.given.now) c.loop-entry.invariant)
