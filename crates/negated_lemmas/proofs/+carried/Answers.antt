use Rattle.std.proofs.Common.{◌+◌}
use Rattle.negated_lemmas.specs.code.Carried.{Carries, CarryEach}
use Rattle.negated_lemmas.proofs.Carried.{each_more, and_i_carried, and_e_carried, or_i_carried, or_e_carried, imp_i_carried, imp_e_carried, not_i_carried, not_e_carried, raa_carried, iff_i_carried, iff_l_carried, iff_r_carried, all_i_carried, all_e_carried, ex_i_carried, ex_e_carried, subst_carried, inhabit_carried}
use Rattle.negated_lemmas.proofs.+carried.Goals as goal

pub carrying::carried_each-loop-part-preserved : goal.carrying::carried_each-loop-part-preserved
carrying::carried_each-loop-part-preserved t c =
    rw (c.in_ok-push.ensures.ok, c.into_inner.ensures)
    (each_more c.args.first c.args.depth c.args.parts.now c.loop-part.made c.loop-part.part-index c.part-item.result c.in_ok-next.next c.loop-part-test.true c.part-item.is c.loop-part.invariant c.in_ok-next.ensures)

pub nodes::and_i-returns : goal.nodes::and_i-returns
nodes::and_i-returns t c =
    rw (c.in_ok-new.ensures) (and_i_carried c.args.first c.args.depth c.args.parts.now c.in_ok-parts.parts c.in_ok-parts.ensures)

pub nodes::and_e-returns : goal.nodes::and_e-returns
nodes::and_e-returns t c =
    rw (c.in_ok-new.ensures) (and_e_carried c.args.first c.args.depth c.args.member c.args.part.now c.in_ok-part.part c.in_ok-part.ensures)

pub nodes::or_i-returns : goal.nodes::or_i-returns
nodes::or_i-returns t c =
    rw (c.in_ok-new.ensures, c.in_ok-members.ensures) (or_i_carried c.args.first c.args.depth c.args.members.now c.args.chosen c.args.part.now c.in_ok-part.part c.in_ok-part.ensures)

pub nodes::or_e-returns : goal.nodes::or_e-returns
nodes::or_e-returns t c =
    let part_fact : Carries c.args.first c.args.depth c.in-OrE.part c.in_ok-part.part = rw c.get.ensures at c.in_ok-part.ensures in
    let arms_fact : CarryEach c.args.first (c.args.depth + 1) c.in-OrE.arms c.in_ok-arms.arms = rw (c.as_slice.ensures, c.in_ok-inner.ensures) at c.in_ok-arms.ensures in
    rw (c.in-OrE.is, c.in_ok-new.ensures, c.in_ok-goal.ensures, c.get-2.ensures) (or_e_carried c.args.first c.args.depth c.in-OrE.goal c.in-OrE.part c.in_ok-part.part c.in-OrE.arms c.in_ok-arms.arms part_fact arms_fact)

pub nodes::imp_i-returns : goal.nodes::imp_i-returns
nodes::imp_i-returns t c =
    rw (c.in_ok-new.ensures, c.in_ok-left.ensures) (imp_i_carried c.args.first c.args.depth c.args.left.now c.args.part.now c.in_ok-part.part c.in_ok-part.ensures)

pub nodes::imp_e-returns : goal.nodes::imp_e-returns
nodes::imp_e-returns t c =
    let whole_fact : Carries c.args.first c.args.depth c.in-ImpE.whole c.in_ok-whole.whole = rw c.get.ensures at c.in_ok-whole.ensures in
    let part_fact : Carries c.args.first c.args.depth c.in-ImpE.part c.in_ok-part.part = rw c.get-2.ensures at c.in_ok-part.ensures in
    rw (c.in-ImpE.is, c.in_ok-new.ensures) (imp_e_carried c.args.first c.args.depth c.in-ImpE.whole c.in_ok-whole.whole c.in-ImpE.part c.in_ok-part.part whole_fact part_fact)

pub nodes::not_i-returns : goal.nodes::not_i-returns
nodes::not_i-returns t c =
    rw (c.in_ok-new.ensures, c.in_ok-body.ensures) (not_i_carried c.args.first c.args.depth c.args.body.now c.args.part.now c.in_ok-part.part c.in_ok-part.ensures)

pub nodes::not_e-returns : goal.nodes::not_e-returns
nodes::not_e-returns t c =
    let denial_fact : Carries c.args.first c.args.depth c.in-NotE.denial c.in_ok-denial.denial = rw c.get.ensures at c.in_ok-denial.ensures in
    let part_fact : Carries c.args.first c.args.depth c.in-NotE.part c.in_ok-part.part = rw c.get-2.ensures at c.in_ok-part.ensures in
    rw (c.in-NotE.is, c.in_ok-new.ensures) (not_e_carried c.args.first c.args.depth c.in-NotE.denial c.in_ok-denial.denial c.in-NotE.part c.in_ok-part.part denial_fact part_fact)

pub nodes::raa-returns : goal.nodes::raa-returns
nodes::raa-returns t c =
    rw (c.in_ok-new.ensures, c.in_ok-goal.ensures) (raa_carried c.args.first c.args.depth c.args.goal.now c.args.part.now c.in_ok-part.part c.in_ok-part.ensures)

pub nodes::iff_i-returns : goal.nodes::iff_i-returns
nodes::iff_i-returns t c =
    let forth_fact : Carries c.args.first (c.args.depth + 1) c.in-IffI.forth c.in_ok-forth.forth = rw c.get.ensures at c.in_ok-forth.ensures in
    let back_fact : Carries c.args.first (c.args.depth + 1) c.in-IffI.back c.in_ok-back.back = rw c.get-2.ensures at c.in_ok-back.ensures in
    rw (c.in-IffI.is, c.in_ok-new.ensures, c.in_ok-left.ensures, c.get-3.ensures, c.in_ok-right.ensures, c.get-4.ensures) (iff_i_carried c.args.first c.args.depth c.in-IffI.left c.in-IffI.right c.in-IffI.forth c.in_ok-forth.forth c.in-IffI.back c.in_ok-back.back forth_fact back_fact)

pub nodes::iff_l-returns : goal.nodes::iff_l-returns
nodes::iff_l-returns t c =
    let whole_fact : Carries c.args.first c.args.depth c.in-IffL.whole c.in_ok-whole.whole = rw c.get.ensures at c.in_ok-whole.ensures in
    let part_fact : Carries c.args.first c.args.depth c.in-IffL.part c.in_ok-part.part = rw c.get-2.ensures at c.in_ok-part.ensures in
    rw (c.in-IffL.is, c.in_ok-new.ensures) (iff_l_carried c.args.first c.args.depth c.in-IffL.whole c.in_ok-whole.whole c.in-IffL.part c.in_ok-part.part whole_fact part_fact)

pub nodes::iff_r-returns : goal.nodes::iff_r-returns
nodes::iff_r-returns t c =
    let whole_fact : Carries c.args.first c.args.depth c.in-IffR.whole c.in_ok-whole.whole = rw c.get.ensures at c.in_ok-whole.ensures in
    let part_fact : Carries c.args.first c.args.depth c.in-IffR.part c.in_ok-part.part = rw c.get-2.ensures at c.in_ok-part.ensures in
    rw (c.in-IffR.is, c.in_ok-new.ensures) (iff_r_carried c.args.first c.args.depth c.in-IffR.whole c.in_ok-whole.whole c.in-IffR.part c.in_ok-part.part whole_fact part_fact)

pub nodes::all_i-returns : goal.nodes::all_i-returns
nodes::all_i-returns t c =
    rw (c.in_ok-new.ensures) (all_i_carried c.args.first c.args.depth c.args.sort c.args.part.now c.in_ok-part.part c.in_ok-part.ensures)

pub nodes::all_e-returns : goal.nodes::all_e-returns
nodes::all_e-returns t c =
    rw (c.in_ok-new.ensures, c.in_ok-value.ensures) (all_e_carried c.args.first c.args.depth c.args.value.now c.args.part.now c.in_ok-part.part c.in_ok-part.ensures)

pub nodes::ex_i-returns : goal.nodes::ex_i-returns
nodes::ex_i-returns t c =
    rw (c.in_ok-new.ensures, c.in_ok-body.ensures, c.in_ok-value.ensures) (ex_i_carried c.args.first c.args.depth c.args.sort c.args.body.now c.args.value.now c.args.part.now c.in_ok-part.part c.in_ok-part.ensures)

pub nodes::ex_e-returns : goal.nodes::ex_e-returns
nodes::ex_e-returns t c =
    let part_fact : Carries c.args.first c.args.depth c.in-ExE.part c.in_ok-part.part = rw c.get.ensures at c.in_ok-part.ensures in
    let rest_fact : Carries c.args.first (c.args.depth + 1) c.in-ExE.rest c.in_ok-rest.rest = rw c.get-2.ensures at c.in_ok-rest.ensures in
    rw (c.in-ExE.is, c.in_ok-new.ensures, c.in_ok-goal.ensures, c.get-3.ensures) (ex_e_carried c.args.first c.args.depth c.in-ExE.goal c.in-ExE.part c.in_ok-part.part c.in-ExE.rest c.in_ok-rest.rest part_fact rest_fact)

pub nodes::subst-returns : goal.nodes::subst-returns
nodes::subst-returns t c =
    let equation_fact : Carries c.args.first c.args.depth c.in-Subst.equation c.in_ok-equation.equation = rw c.get.ensures at c.in_ok-equation.ensures in
    let part_fact : Carries c.args.first c.args.depth c.in-Subst.part c.in_ok-part.part = rw c.get-2.ensures at c.in_ok-part.ensures in
    rw (c.in-Subst.is, c.in_ok-new.ensures, c.in_ok-body.ensures, c.get-3.ensures) (subst_carried c.args.first c.args.depth c.in-Subst.sort c.in-Subst.body c.in-Subst.equation c.in_ok-equation.equation c.in-Subst.part c.in_ok-part.part equation_fact part_fact)

pub nodes::inhabit-returns : goal.nodes::inhabit-returns
nodes::inhabit-returns t c =
    rw (c.in_ok-new.ensures, c.in_ok-goal.ensures) (inhabit_carried c.args.first c.args.depth c.args.sort c.args.goal.now c.args.part.now c.in_ok-part.part c.in_ok-part.ensures)
