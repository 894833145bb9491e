use Rattle.std.proofs.Common.{rules, ◌^◌}
use Rattle.fof_terms.specs.declared.form.Form.TheViews.{the_lemmas}
use Rattle.clause_form.proofs.Ok.{ok_map}
use Rattle.step_clauses.proofs.ChosenFacts.{and_sizes, or_sizes, all_sizes, one_sizes, few_lists, and_paths, or_paths}
use Rattle.step_clauses.proofs.ways.+paths.Goals as goal

pub paths-paths_of_each-requires : goal.paths-paths_of_each-requires
paths-paths_of_each-requires t c = (search (rules, the_lemmas), and_sizes c.args.form.now c.as_slice.result.now c.in-And.members (2 ^ 32) c.in-And.is c.as_slice.ensures c.requires)

pub paths-all_picks-requires : goal.paths-all_picks-requires
paths-all_picks-requires t c =
    few_lists c.as_slice.result.now c.in_ok-lists-in-And.lists c.as_slice-in-And.result.now (2 ^ 32) (and_sizes c.args.form.now c.as_slice.result.now c.in-And.members (2 ^ 32) c.in-And.is c.as_slice.ensures c.requires) c.in_ok-lists-in-And.ensures c.as_slice-in-And.ensures

pub paths-paths_of_each-requires-in-Or : goal.paths-paths_of_each-requires-in-Or
paths-paths_of_each-requires-in-Or t c = (search (rules, the_lemmas), or_sizes c.args.form.now c.as_slice-in-Or.result.now c.in-Or.members (2 ^ 32) c.in-Or.is c.as_slice-in-Or.ensures c.requires)

pub paths-paths-requires : goal.paths-paths-requires
paths-paths-requires t c = (search (rules, the_lemmas), all_sizes c.args.form.now c.get-in-All.result.now c.in-All.body c.in-All.field-0 (2 ^ 32) c.in-All.is c.get-in-All.ensures c.requires)

pub paths-returns-in_ok-lists-in-And : goal.paths-returns-in_ok-lists-in-And
paths-returns-in_ok-lists-in-And t c =
    ok_map c.all_picks.result (λ made e. and_paths c.args.form.now c.as_slice.result.now c.in-And.members c.in_ok-lists-in-And.lists c.as_slice-in-And.result.now made c.in-And.is c.as_slice.ensures c.in_ok-lists-in-And.ensures c.as_slice-in-And.ensures e) c.all_picks.ensures

pub paths-returns-in_ok-chosen-in-Or : goal.paths-returns-in_ok-chosen-in-Or
paths-returns-in_ok-chosen-in-Or t c =
    ok_map c.each_of_all.result
    (λ made e. or_paths c.args.form.now c.as_slice-in-Or.result.now c.in-Or.members c.in_ok-lists-in-Or.lists c.as_slice-in-Or-2.result.now c.in_ok-chosen-in-Or.chosen c.as_slice-in-Or-3.result.now made c.in-Or.is c.as_slice-in-Or.ensures c.in_ok-lists-in-Or.ensures c.as_slice-in-Or-2.ensures c.in_ok-chosen-in-Or.ensures c.as_slice-in-Or-3.ensures e) c.each_of_all.ensures

pub paths_of_each-paths-requires : goal.paths_of_each-paths-requires
paths_of_each-paths-requires t c = (search (rules, the_lemmas), one_sizes c.args.forms.now c.loop-form.form-index c.form-item.result (2 ^ 32) c.loop-form-test.true c.form-item.is c.requires)
