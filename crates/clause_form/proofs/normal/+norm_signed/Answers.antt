use Rattle.std.proofs.Common.{rules, arith, ◌^◌}
use Rattle.fof_terms.specs.Sorts.{binder_depth}
use Rattle.fof_terms.proofs.SortsFacts.{binder_depth_equations}
use Rattle.fof_terms.specs.declared.form.Form.TheViews.{the_lemmas}
use Rattle.clause_form.proofs.Below.{below_greatest}
use Rattle.clause_form.proofs.NormSorts.{norm_depth}
use Rattle.clause_form.proofs.Ok.{ok_map}
use Rattle.clause_form.proofs.NormCases.{imp_done, iff_done}
use Rattle.clause_form.proofs.normal.+norm_signed.Goals as goal

pub norm_signed-norm_signed-requires : goal.norm_signed-norm_signed-requires
norm_signed-norm_signed-requires t c = (search (rules, the_lemmas), grind (arith, binder_depth_equations))

pub norm_signed-norm_joined-requires : goal.norm_signed-norm_joined-requires
norm_signed-norm_joined-requires t c = (search (rules, the_lemmas), grind (arith, binder_depth_equations))

pub norm_signed-norm_joined-requires-in-Or : goal.norm_signed-norm_joined-requires-in-Or
norm_signed-norm_joined-requires-in-Or t c = (search (rules, the_lemmas), grind (arith, binder_depth_equations))

pub norm_signed-norm_signed-requires-in-Imp : goal.norm_signed-norm_signed-requires-in-Imp
norm_signed-norm_signed-requires-in-Imp t c = (search (rules, the_lemmas), grind (arith, binder_depth_equations))

pub norm_signed-norm_signed-requires-in-Imp-2 : goal.norm_signed-norm_signed-requires-in-Imp-2
norm_signed-norm_signed-requires-in-Imp-2 t c = (search (rules, the_lemmas), grind (arith, binder_depth_equations))

pub norm_signed-norm_signed-requires-in-Iff : goal.norm_signed-norm_signed-requires-in-Iff
norm_signed-norm_signed-requires-in-Iff t c = (search (rules, the_lemmas), grind (arith, binder_depth_equations))

pub norm_signed-norm_signed-requires-in-Iff-2 : goal.norm_signed-norm_signed-requires-in-Iff-2
norm_signed-norm_signed-requires-in-Iff-2 t c = (search (rules, the_lemmas), grind (arith, binder_depth_equations))

pub norm_signed-norm_signed-requires-in-Iff-3 : goal.norm_signed-norm_signed-requires-in-Iff-3
norm_signed-norm_signed-requires-in-Iff-3 t c = (search (rules, the_lemmas), grind (arith, binder_depth_equations))

pub norm_signed-norm_signed-requires-in-Iff-4 : goal.norm_signed-norm_signed-requires-in-Iff-4
norm_signed-norm_signed-requires-in-Iff-4 t c = (search (rules, the_lemmas), grind (arith, binder_depth_equations))

pub norm_signed-norm_signed-requires-in-All : goal.norm_signed-norm_signed-requires-in-All
norm_signed-norm_signed-requires-in-All t c = (search (rules, the_lemmas), grind (arith, binder_depth_equations))

pub norm_signed-norm_signed-requires-in-Ex : goal.norm_signed-norm_signed-requires-in-Ex
norm_signed-norm_signed-requires-in-Ex t c = (search (rules, the_lemmas), grind (arith, binder_depth_equations))

pub norm_joined-norm_signed-requires : goal.norm_joined-norm_signed-requires
norm_joined-norm_signed-requires t c =
    let below = below_greatest binder_depth (2 ^ 32) c.args.forms.now c.requires in
    (search (rules, the_lemmas), search (rules, below))

pub norm_signed-quantified-requires : goal.norm_signed-quantified-requires
norm_signed-quantified-requires t c =
    let le = norm_depth c.get-in-All.result.now c.args.positive in
    rw c.in_ok-norm-in-All.ensures (grind (arith, binder_depth_equations, le))

pub norm_signed-quantified-requires-in-Ex : goal.norm_signed-quantified-requires-in-Ex
norm_signed-quantified-requires-in-Ex t c =
    let le = norm_depth c.get-in-Ex.result.now c.args.positive in
    rw c.in_ok-norm-in-Ex.ensures (grind (arith, binder_depth_equations, le))

pub norm_signed-returns-in_ok-second-in-Imp : goal.norm_signed-returns-in_ok-second-in-Imp
norm_signed-returns-in_ok-second-in-Imp t c =
    ok_map c.second_member.result (λ made f. imp_done c.args.positive c.args.form.now c.in-Imp.left c.in-Imp.right c.get-in-Imp.result.now c.get-in-Imp-2.result.now c.in_ok-first-in-Imp.first c.in_ok-second-in-Imp.second c.in_ok-flat-in-Imp.flat made
    c.in-Imp.is c.get-in-Imp.ensures c.get-in-Imp-2.ensures c.in_ok-first-in-Imp.ensures c.in_ok-second-in-Imp.ensures c.in_ok-flat-in-Imp.ensures f) c.second_member.ensures

pub norm_signed-returns-in_ok-back-in-Iff : goal.norm_signed-returns-in_ok-back-in-Iff
norm_signed-returns-in_ok-back-in-Iff t c =
    ok_map c.second_member-in-Iff-3.result (λ made f. iff_done c.args.positive c.args.form.now c.in-Iff.left c.in-Iff.right c.get-in-Iff.result.now c.get-in-Iff-2.result.now c.get-in-Iff-3.result.now c.get-in-Iff-4.result.now
    c.in_ok-first-in-Iff.first c.in_ok-second-in-Iff.second c.in_ok-third-in-Iff.third c.in_ok-fourth-in-Iff.fourth c.in_ok-forth-in-Iff.forth c.in_ok-back-in-Iff.back c.in_ok-flat-in-Iff.flat c.in_ok-flat-in-Iff-2.flat c.in_ok-whole-in-Iff.whole made
    c.in-Iff.is c.get-in-Iff.ensures c.get-in-Iff-2.ensures c.get-in-Iff-3.ensures c.get-in-Iff-4.ensures c.in_ok-first-in-Iff.ensures c.in_ok-second-in-Iff.ensures c.in_ok-third-in-Iff.ensures c.in_ok-fourth-in-Iff.ensures
    c.in_ok-flat-in-Iff.ensures c.in_ok-forth-in-Iff.ensures c.in_ok-whole-in-Iff.ensures c.in_ok-flat-in-Iff-2.ensures c.in_ok-back-in-Iff.ensures f) c.second_member-in-Iff-3.ensures
