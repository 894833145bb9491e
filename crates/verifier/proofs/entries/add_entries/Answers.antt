use Rattle.std.proofs.Common.{arith, subst, take}
use Rattle.std.proofs.lemmas.List.{take_all}
use Rattle.std.proofs.lemmas.Result.{err_from_is_err_and}
use Rattle.proof_log.specs.Entries.{HaveNumbersInRange}
use Rattle.verifier.proofs.Adding.{adding_cut, adding_more, entry_here, entry_done}
use Rattle.verifier.proofs.Leading.{led_more}
use Rattle.verifier.proofs.entries.add_entries.Goals as goal

pub returns-in_err-add_entry-clause-cut : goal.returns-in_err-add_entry-clause-cut
returns-in_err-add_entry-clause-cut g c =
    let p = err_from_is_err_and c.from_residual.result c.from_residual.ensures.1 in
    rw p.1 (adding_cut _ _ _ _ _ _ c.entry-item.result _ _ _ (entry_here c.args.entries.now c.loop-entry.entry-index c.entry-item.result c.loop-entry-test.true c.entry-item.is) c.loop-entry.invariant.adding c.in_err-add_entry.ensures.cut)

pub returns-in_err-add_entry-clause-leads : goal.returns-in_err-add_entry-clause-leads
returns-in_err-add_entry-clause-leads g c =
    led_more _ _ _ (take c.loop-entry.entry-index c.args.entries.now, c.loop-entry.invariant.adding.admitted) c.in_err-add_entry.ensures.leads

pub returns-clause-leads : goal.returns-clause-leads
returns-clause-leads g c = (take c.loop-entry.entry-index c.args.entries.now, c.loop-entry.invariant.adding.admitted)

pub loop-entry-preserved : goal.loop-entry-preserved
loop-entry-preserved g c = record {
  adding = adding_more _ _ _ _ _ _ _ _ c.entry-item.result _ _ _ (entry_here c.args.entries.now c.loop-entry.entry-index c.entry-item.result c.loop-entry-test.true c.entry-item.is) (entry_done c.args.entries.now c.loop-entry.entry-index c.entry-item.result c.loop-entry-test.true c.entry-item.is) c.loop-entry.invariant.adding c.in_ok-add_entry.ensures.after c.in_ok-add_entry.ensures.logged c.in_ok-add_entry.ensures.in_range;
  faults = omega arith;
}

pub returns-clause-in_range : goal.returns-clause-in_range
returns-clause-in_range g c =
    subst HaveNumbersInRange (take_all c.loop-entry.entry-index c.args.entries.now c.loop-entry-test.false) c.loop-entry.invariant.adding.in_range
