use Rattle.std.proofs.Common.{rules, arith, refl, ◌∙◌}
use Rattle.fof_terms.specs.declared.form.Form.TheViews.{the_lemmas}
use Rattle.clause_form.proofs.Ok.{ok_map}
use Rattle.clause_form.proofs.FoundFacts.{at_index, roomy_or, roomy_member, roomy_body, found_leaf, found_pick, found_each, found_under, not_there, no_pick, no_each, no_under, over_found, not_even, misses_one, found_next}
use Rattle.clause_form.proofs.reaching.+reach.Goals as goal

pub reach-reach-requires : goal.reach-reach-requires
reach-reach-requires t c =
    (search (rules, the_lemmas), roomy_member c.args.form.now c.in-And.members c.as_slice-members.result.now c.in-Pick.number c.index-members-place.result c.in-And.is c.as_slice-members.ensures (omega (arith, c.if-place-members.false)) c.index-members-place.is c.requires)

pub reach-joined-requires : goal.reach-joined-requires
reach-joined-requires t c = over_found c.as_slice-in-Or.result.now c.in-Or.members c.as_slice.result.now c.args.form.now c.in_ok-clauses-in-Or.clauses c.in-Or.is c.as_slice.ensures c.in_ok-clauses-in-Or.ensures c.requires

pub reach-reach-requires-in-All : goal.reach-reach-requires-in-All
reach-reach-requires-in-All t c =
    (search (rules, the_lemmas), roomy_body c.args.form.now c.in-All.sort c.in-All.body c.get-in-All.result.now c.in-All.is c.get-in-All.ensures c.requires)

pub reach-returns-in_ok-lit-in-Leaf : goal.reach-returns-in_ok-lit-in-Leaf
reach-returns-in_ok-lit-in-Leaf t c =
    ok_map c.open_clause.result (λ made e. found_leaf c.args.path.now c.args.form.now made c.in-Leaf.is (e ∙ (rw (c.plain_lit.ensures, c.in_ok-lit-in-Leaf.ensures) refl))) c.open_clause.ensures

pub reach-returns-in_default : goal.reach-returns-in_default
reach-returns-in_default t c = no_pick c.args.path.now c.in-Pick.rest c.in-Pick.number c.args.form.now c.in-Pick.is c.in_default.not-And

pub reach-returns-in_ok-clauses-in-Or : goal.reach-returns-in_ok-clauses-in-Or
reach-returns-in_ok-clauses-in-Or t c =
    ok_map c.joined.result (λ made e. found_each c.args.path.now c.in-Each.ways c.as_slice-in-Or.result.now c.args.form.now c.in-Or.members c.as_slice.result.now c.in_ok-clauses-in-Or.clauses made c.in-Each.is c.in-Or.is c.as_slice-in-Or.ensures c.as_slice.ensures c.in_ok-clauses-in-Or.ensures e) c.joined.ensures

pub reach-returns-in_default-form : goal.reach-returns-in_default-form
reach-returns-in_default-form t c = no_each c.args.path.now c.in-Each.ways c.args.form.now c.in-Each.is c.in_default-form.not-Or

pub reach-returns-in_ok-clause-in-All : goal.reach-returns-in_ok-clause-in-All
reach-returns-in_ok-clause-in-All t c =
    ok_map c.within.result (λ made e. found_under c.args.path.now c.in-Under.rest c.get-in-All-2.result.now c.in-All.sort c.args.form.now c.get-in-All.result.now c.in-All.body c.in_ok-clause-in-All.clause made c.in-Under.is c.in-All.is c.get-in-All.ensures c.get-in-All-2.ensures c.in_ok-clause-in-All.ensures e) c.within.ensures

pub reach-returns-in_default-form-2 : goal.reach-returns-in_default-form-2
reach-returns-in_default-form-2 t c = no_under c.args.path.now c.in-Under.rest c.args.form.now c.in-Under.is c.in_default-form-2.not-All

pub reach_each-returns-then-forms-paths : goal.reach_each-returns-then-forms-paths
reach_each-returns-then-forms-paths t c = not_even c.args.paths.now c.args.forms.now c.if-forms-paths.true

pub reach_each-reach-requires : goal.reach_each-reach-requires
reach_each-reach-requires t c =
    (search (rules, the_lemmas), roomy_or c.args.forms.now c.loop-number.number c.index-forms-number.result (at_index c.args.forms.now c.loop-number.number c.index-forms-number.result c.loop-number-test.true c.index-forms-number.is) c.requires)

pub reach_each-returns-in-None : goal.reach_each-returns-in-None
reach_each-returns-in-None t c =
    misses_one c.args.paths.now c.args.forms.now c.loop-number.number c.index-paths-number.result c.index-forms-number.result c.in_ok-clause.field-0 c.if-forms-paths.false c.loop-number-test.true c.index-paths-number.is c.index-forms-number.is c.in_ok-clause.ensures c.in-None.is

pub reach_each-loop-number-preserved : goal.reach_each-loop-number-preserved
reach_each-loop-number-preserved t c =
    rw c.in_ok-push-in-Some.ensures.ok
    (found_next c.args.paths.now c.args.forms.now c.loop-number.number c.index-paths-number.result c.index-forms-number.result c.in_ok-clause.field-0 c.in-Some.clause c.loop-number.clauses c.if-forms-paths.false c.loop-number-test.true c.index-paths-number.is c.index-forms-number.is c.in_ok-clause.ensures c.in-Some.is c.loop-number.invariant)

pub reach-returns-then-place-members : goal.reach-returns-then-place-members
reach-returns-then-place-members t c = not_there c.args.path.now c.in-Pick.rest c.in-Pick.number c.args.form.now c.in-And.members c.as_slice-members.result.now c.in-Pick.is c.in-And.is c.as_slice-members.ensures c.if-place-members.true

pub reach-returns-else-place-members : goal.reach-returns-else-place-members
reach-returns-else-place-members t c =
    ok_map c.reach.result (λ made f. found_pick c.args.path.now c.in-Pick.rest c.get.result.now c.in-Pick.number c.args.form.now c.index-members-place.result c.in-And.members c.as_slice-members.result.now made c.in-Pick.is c.in-And.is c.as_slice-members.ensures
    (at_index c.as_slice-members.result.now c.in-Pick.number c.index-members-place.result (omega (arith, c.if-place-members.false)) c.index-members-place.is) c.get.ensures f) c.reach.ensures
