use Rattle.std.specs.Prelude.{ℕ}
use Rattle.std.proofs.Common.{arith, get_or}
use Rattle.std.proofs.lemmas.List.Elements.{Contains-get_or}
use Rattle.clause_rules.specs.Steps.{scope_of_both}
use Rattle.superpose.specs.code.Listed.{ResolvesWith}
use Rattle.superpose.proofs.Gathered.{element_added, elements_added}
use Rattle.superpose.proofs.UseFacts.{eligible_within}
use Rattle.superpose.proofs.two_clauses.add_resolved.Goals as goal

pub add_resolved_with-requires-clause-first : goal.add_resolved_with-requires-clause-first
add_resolved_with-requires-clause-first c =
    c.requires.firsts (get_or c.args.firsts.now c.loop-at.at 0) (Contains-get_or c.args.firsts.now c.loop-at.at 0 c.loop-at-test.true)

pub add_resolved_with-requires-clause-i : goal.add_resolved_with-requires-clause-i
add_resolved_with-requires-clause-i c =
    eligible_within c.args.c.now.lits (get_or c.args.firsts.now c.loop-at.at 0)
    (c.requires.firsts (get_or c.args.firsts.now c.loop-at.at 0) (Contains-get_or c.args.firsts.now c.loop-at.at 0 c.loop-at-test.true))

pub loop-at-preserved : goal.loop-at-preserved
loop-at-preserved c =
    element_added c.args.sig.now (scope_of_both c.args.c.now c.args.d.now) ℕ (ResolvesWith c.args.c.now c.args.d.now c.args.seconds.now)
    c.args.firsts.now c.loop-at.at 0 c.args.made.now c.loop-at.made c.add_resolved_with.new.made
    c.loop-at-test.true c.loop-at.invariant c.in_ok-add_resolved_with.ensures

pub returns : goal.returns
returns c =
    let end = c.loop-at-test.false in
    elements_added c.args.sig.now (scope_of_both c.args.c.now c.args.d.now) ℕ (ResolvesWith c.args.c.now c.args.d.now c.args.seconds.now)
    c.args.firsts.now c.loop-at.at c.args.made.now c.loop-at.made (omega arith) c.loop-at.invariant
