use Rattle.std.specs.Prelude.{ℕ}
use Rattle.std.proofs.Common.{arith, get_or}
use Rattle.std.proofs.lemmas.List.Elements.{Contains-get_or}
use Rattle.clause_form.specs.Covers.{scope_of}
use Rattle.superpose.specs.code.Places.{FromLit}
use Rattle.superpose.proofs.Gathered.{element_added, elements_added}
use Rattle.superpose.proofs.UseFacts.{eligible_within}
use Rattle.superpose.proofs.one_clause.add_from_lits.Goals as goal

pub add_from_lit-requires-clause-first : goal.add_from_lit-requires-clause-first
add_from_lit-requires-clause-first c =
    c.requires.numbers (get_or c.args.numbers.now c.loop-at.at 0) (Contains-get_or c.args.numbers.now c.loop-at.at 0 c.loop-at-test.true)

pub add_from_lit-requires-clause-i : goal.add_from_lit-requires-clause-i
add_from_lit-requires-clause-i c =
    eligible_within c.args.c.now.lits (get_or c.args.numbers.now c.loop-at.at 0)
    (c.requires.numbers (get_or c.args.numbers.now c.loop-at.at 0) (Contains-get_or c.args.numbers.now c.loop-at.at 0 c.loop-at-test.true))

pub loop-at-preserved : goal.loop-at-preserved
loop-at-preserved c =
    element_added c.args.sig.now (scope_of c.args.c.now) ℕ (FromLit c.args.c.now) c.args.numbers.now c.loop-at.at
    0 c.args.made.now c.loop-at.made c.add_from_lit.new.made c.loop-at-test.true
    c.loop-at.invariant c.in_ok-add_from_lit.ensures

pub returns : goal.returns
returns c =
    let end = c.loop-at-test.false in
    elements_added c.args.sig.now (scope_of c.args.c.now) ℕ (FromLit c.args.c.now) c.args.numbers.now c.loop-at.at
    c.args.made.now c.loop-at.made (omega arith) c.loop-at.invariant
