use Rattle.std.proofs.Common.{ap, arith}
use Rattle.fof_terms.specs.declared.form.Form.{Or}
use Rattle.derive_kit.proofs.Built.{ok_map}
use Rattle.search_proofs.proofs.Clashing.{contradiction_shows}
use Rattle.search_proofs.proofs.Contradicted.{clause_within, lits_opposed, places_long, places_within}
use Rattle.search_proofs.proofs.opposing.by_contradiction.Goals as goal

pub clause_at-clause-requires : goal.clause_at-clause-requires
clause_at-clause-requires c = clause_within c.args.members.now c.args.found.now c.requires.contradicts

pub clashes-requires-clause-opposed : goal.clashes-requires-clause-opposed
clashes-requires-clause-opposed c = lits_opposed c.args.members.now c.args.found.now c.requires.contradicts c.clause_at-clause.result.now c.as_slice-lits.result.now c.as_slice-places.result.now c.clause_at-clause.ensures c.as_slice-lits.ensures c.as_slice-places.ensures

pub clashes-requires-clause-many : goal.clashes-requires-clause-many
clashes-requires-clause-many c = places_long c.args.members.now c.args.found.now c.requires.contradicts c.clause_at-clause.result.now c.as_slice-lits.result.now c.as_slice-places.result.now c.clause_at-clause.ensures c.as_slice-lits.ensures c.as_slice-places.ensures

pub clashes-requires-clause-within : goal.clashes-requires-clause-within
clashes-requires-clause-within c = places_within c.args.members.now c.args.found.now c.requires.contradicts _ c.as_slice-places.result.now c.requires.size c.as_slice-places.ensures

pub number_at-requires : goal.number_at-requires
number_at-requires c = let lt = clause_within c.args.members.now c.args.found.now c.requires.contradicts in omega (arith, c.requires.size)

pub returns : goal.returns
returns c =
    ok_map c.without_variables.result
    (λ made e. contradiction_shows c.args.members.now c.args.numbers.now c.args.found.now c.requires.size c.clause_at-clause.result.now c.as_slice-lits.result.now c.as_slice-places.result.now c.as_slice.result.now c.number_at.result c.in_ok-arms.arms c.in_ok-choice.choice c.in_ok-falsehood.falsehood made (Or c.new.result)
    c.clause_at-clause.ensures c.as_slice-lits.ensures c.as_slice-places.ensures c.as_slice.ensures c.in_ok-arms.ensures c.number_at.ensures c.in_ok-choice.ensures (ap Or c.new.ensures) c.in_ok-falsehood.ensures e)
    c.without_variables.ensures
