use Rattle.std.proofs.Common.{rules, arith, ◌≤◌}
use Rattle.fof_terms.specs.declared.form.Form.TheViews.{the_lemmas}
use Rattle.clause_form.specs.Sizes.{norm_size_of}
use Rattle.clause_form.proofs.SizesFacts.{norm_size_of_equations}
use Rattle.flat_form.proofs.Lists.{count_within, member_small, total_more, total_small}
use Rattle.flat_form.proofs.pulling.+count.Goals as goal

pub count-count-requires : goal.count-count-requires
count-count-requires t c = (search (rules, the_lemmas), grind (arith, norm_size_of_equations))

pub count-overflow_add-result : goal.count-overflow_add-result
count-overflow_add-result t c =
    let small : norm_size_of c.get.result.now ≤ 100000 = grind (arith, norm_size_of_equations) in
    omega (arith, count_within c.get.result.now, c.count.ensures, small)

pub count_all-count-total-requires : goal.count_all-count-total-requires
count_all-count-total-requires t c =
    (search (rules, the_lemmas), member_small c.args.kind c.args.forms.now c.loop-form.form-index c.form-item.result c.requires c.loop-form-test.true c.form-item.is)

pub count_all-overflow_add-total : goal.count_all-overflow_add-total
count_all-overflow_add-total t c =
    let small = total_small c.args.kind c.args.forms.now c.loop-form.form-index c.form-item.result c.requires c.loop-form-test.true c.form-item.is c.loop-form.total c.count-total.result c.loop-form.invariant c.count-total.ensures in
    omega (arith, small)

pub count_all-loop-form-preserved : goal.count_all-loop-form-preserved
count_all-loop-form-preserved t c =
    total_more c.args.kind c.args.forms.now c.loop-form.form-index c.form-item.result c.requires c.loop-form-test.true c.form-item.is c.loop-form.total c.count-total.result c.loop-form.invariant c.count-total.ensures
