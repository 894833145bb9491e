use Rattle.std.proofs.Common.{rules, None, IsTrue, ◌↔◌, ◌≡◌, ◌∷◌, ◌∙◌, arith, get_or, sym, subst, ap, refl, take, ◌++◌, ◌+◌, [], Some}
use Rattle.std.proofs.lemmas.List.{take_more, take_all}
use Rattle.fof_terms.specs.Sorts.{Sorted}
use Rattle.fof_terms.specs.Scope.{scope_sorts}
use Rattle.fof_terms.proofs.ScopeFacts.{scope_sorts-Under}
use Rattle.fof_terms.specs.declared.form.Form.{Not}
use Rattle.kernel.specs.declared.proof.Proof.TheViews.{the_lemmas}
use Rattle.proof_check.specs.code.Hypotheses.{hypotheses, crossed_in}
use Rattle.proof_check.proofs.HypothesesFacts.{hypotheses-Under, hypotheses-Over, crossed_in-Under, crossed_in-Over}
use Rattle.kernel.specs.Proves.{Proves, all_over}
use Rattle.proof_check.specs.Concludes.{Concludes}
use Rattle.proof_check.specs.code.Concludes.{ConcludesUnder, EachUnder}
use Rattle.kernel.specs.declared.proof.Proof.{IffI}
use Rattle.proof_check.proofs.Concluded.{ok_map, not_true, hyp_shown}
use Rattle.proof_check.proofs.ConcludedOver.{ex_e_some, ex_e_none, inhabit_shown}
use Rattle.proof_check.proofs.ConcludedLists.{reach_under, reach_over, reach_lifts, reach_few, shown_fits, under_yes, over_no, over_under_no, or_e_some, or_e_none, raa_shown, each_length, each_at, each_end, AllFound, and_i_some, and_i_none, found_none, found_more, found_missing, found_all}
use Rattle.proof_check.proofs.+conclude_in.Goals as goal

pub deduction::all_conclude-returns-then-cases-members : goal.deduction::all_conclude-returns-then-cases-members
deduction::all_conclude-returns-then-cases-members t c = (λ no. absurd (not_true no), λ e. absurd (c.if-cases-members.true (each_length _ _ _ _ c.args.cases.now c.args.members.now e)))

pub deduction::all_conclude-returns-then-not-branch : goal.deduction::all_conclude-returns-then-not-branch
deduction::all_conclude-returns-then-not-branch t c = (
  λ no. absurd (not_true no),
  λ e.
      let s = c.in_ok-is_concluded.ensures in
      let here = (each_at c.args.reach.now.theory.now (scope_sorts c.args.reach.now.scope.now) (hypotheses c.args.reach.now.hyps.now) c.args.goal.now c.args.cases.now c.args.members.now c.loop-i.i c.index-cases-i.result c.index-members-i.result c.loop-i-test.true (omega (arith, c.if-cases-members.false))).0 (c.loop-i.invariant.1 e) in
      let told : ConcludesUnder c.args.reach.now.theory.now (scope_sorts c.args.reach.now.scope.now) (hypotheses c.args.reach.now.hyps.now) c.index-members-i.result c.index-cases-i.result s.0 = rw s.1 at c.under.ensures in
      let proved : Sorted c.args.reach.now.theory.now.vocabulary (scope_sorts c.args.reach.now.scope.now) c.index-members-i.result × Proves c.args.reach.now.theory.now (scope_sorts c.args.reach.now.scope.now) (c.index-members-i.result ∷ hypotheses c.args.reach.now.hyps.now) c.index-cases-i.result c.args.goal.now
      = rw (c.index-members-i.is, c.index-cases-i.is) here.0 in
      rw c.if-not-branch.true at (s.2.1 ((told c.args.goal.now).1 proved)),
)

pub deduction::all_conclude-loop-i-preserved : goal.deduction::all_conclude-loop-i-preserved
deduction::all_conclude-loop-i-preserved t c =
    let s = c.in_ok-is_concluded.ensures in
    let at = each_at c.args.reach.now.theory.now (scope_sorts c.args.reach.now.scope.now) (hypotheses c.args.reach.now.hyps.now) c.args.goal.now c.args.cases.now c.args.members.now c.loop-i.i c.index-cases-i.result c.index-members-i.result c.loop-i-test.true (omega (arith, c.if-cases-members.false)) in
    let told : ConcludesUnder c.args.reach.now.theory.now (scope_sorts c.args.reach.now.scope.now) (hypotheses c.args.reach.now.hyps.now) c.index-members-i.result c.index-cases-i.result s.0 = rw s.1 at c.under.ensures in
    let proved = (told c.args.goal.now).0 (s.2.0 c.if-not-branch.false) in
    let proved' : Sorted c.args.reach.now.theory.now.vocabulary (scope_sorts c.args.reach.now.scope.now) (get_or c.args.members.now c.loop-i.i c.index-members-i.result)
    × Proves c.args.reach.now.theory.now (scope_sorts c.args.reach.now.scope.now) (get_or c.args.members.now c.loop-i.i c.index-members-i.result ∷ hypotheses c.args.reach.now.hyps.now) (get_or c.args.cases.now c.loop-i.i c.index-cases-i.result) c.args.goal.now
    = rw (← c.index-members-i.is, ← c.index-cases-i.is) proved in
    (λ e. c.loop-i.invariant.0 (at.1 (proved', e)), λ e. (at.0 (c.loop-i.invariant.1 e)).1)

pub deduction::all_conclude-returns : goal.deduction::all_conclude-returns
deduction::all_conclude-returns t c = (
  λ yes. c.loop-i.invariant.0 (each_end c.args.reach.now.theory.now (scope_sorts c.args.reach.now.scope.now) (hypotheses c.args.reach.now.hyps.now) c.args.goal.now c.args.cases.now c.args.members.now c.loop-i.i c.loop-i-test.false (omega (arith, c.loop-i-test.false, c.if-cases-members.false))),
  λ e. refl,
)

pub deduction::over-returns-then-not-has_room : goal.deduction::over-returns-then-not-has_room
deduction::over-returns-then-not-has_room t c = over_no c.args.reach.now.theory.now (scope_sorts c.args.reach.now.scope.now) (all_over (hypotheses c.args.reach.now.hyps.now)) c.args.sort c.args.reach.now.room c.args.part.now c.requires.room_left (λ has. absurd (not_true (c.if-not-has_room.ensures.1 has)))

pub deduction::over_under-returns-then-not-has_room : goal.deduction::over_under-returns-then-not-has_room
deduction::over_under-returns-then-not-has_room t c = over_under_no c.args.reach.now.theory.now (scope_sorts c.args.reach.now.scope.now) (all_over (hypotheses c.args.reach.now.hyps.now)) c.args.sort c.args.reach.now.room c.args.assumed.now c.args.part.now c.requires.room_left (λ has. absurd (not_true (c.if-not-has_room.ensures.1 has)))

pub deduction::conclude_in-hypothesis-requires-clause-few : goal.deduction::conclude_in-hypothesis-requires-clause-few
deduction::conclude_in-hypothesis-requires-clause-few t c = reach_few c.args.reach.now.theory.now.vocabulary (scope_sorts c.args.reach.now.scope.now) (hypotheses c.args.reach.now.hyps.now) c.args.reach.now.room (crossed_in c.args.reach.now.hyps.now) c.requires

pub deduction::conclude_in-hypothesis-requires-clause-fits : goal.deduction::conclude_in-hypothesis-requires-clause-fits
deduction::conclude_in-hypothesis-requires-clause-fits t c = reach_lifts c.args.reach.now.theory.now.vocabulary (scope_sorts c.args.reach.now.scope.now) (hypotheses c.args.reach.now.hyps.now) c.args.reach.now.room (crossed_in c.args.reach.now.hyps.now) c.requires

pub deduction::conclude_in-returns-in-Hyp : goal.deduction::conclude_in-returns-in-Hyp
deduction::conclude_in-returns-in-Hyp t c = rw c.in-Hyp.is (ok_map c.hypothesis.result (λ r e. hyp_shown c.args.reach.now.theory.now (scope_sorts c.args.reach.now.scope.now) (hypotheses c.args.reach.now.hyps.now) c.in-Hyp.number r c.requires.hyps_sorted e) c.hypothesis.ensures)

pub deduction::over-conclude_in-requires : goal.deduction::over-conclude_in-requires
deduction::over-conclude_in-requires t c = (search (rules, the_lemmas), rw (scope_sorts-Under, hypotheses-Over, crossed_in-Over) (reach_over c.args.reach.now.theory.now.vocabulary (scope_sorts c.args.reach.now.scope.now) (hypotheses c.args.reach.now.hyps.now) c.args.reach.now.room (crossed_in c.args.reach.now.hyps.now) c.args.sort c.requires (c.if-not-has_room.ensures.0 refl)))

pub deduction::over-returns : goal.deduction::over-returns
deduction::over-returns t c = rw (scope_sorts-Under, hypotheses-Over) at c.conclude_in.ensures

pub deduction::over_under-under-requires : goal.deduction::over_under-under-requires
deduction::over_under-under-requires t c = (search (rules, the_lemmas), rw (scope_sorts-Under, hypotheses-Over, crossed_in-Over) (reach_over c.args.reach.now.theory.now.vocabulary (scope_sorts c.args.reach.now.scope.now) (hypotheses c.args.reach.now.hyps.now) c.args.reach.now.room (crossed_in c.args.reach.now.hyps.now) c.args.sort c.requires (c.if-not-has_room.ensures.0 refl)))

pub deduction::over_under-returns : goal.deduction::over_under-returns
deduction::over_under-returns t c = rw (scope_sorts-Under, hypotheses-Over) at c.under.ensures

pub deduction::under-conclude_in-requires : goal.deduction::under-conclude_in-requires
deduction::under-conclude_in-requires t c =
    let fits : Sorted c.args.reach.now.theory.now.vocabulary (scope_sorts c.args.reach.now.scope.now) c.args.assumed.now = rw c.signature.ensures at (c.if-not-well_sorted_in.ensures.0 refl) in
    (search (rules, the_lemmas), rw (hypotheses-Under, crossed_in-Under) (reach_under c.args.reach.now.theory.now.vocabulary (scope_sorts c.args.reach.now.scope.now) (hypotheses c.args.reach.now.hyps.now) c.args.reach.now.room (crossed_in c.args.reach.now.hyps.now) c.args.assumed.now c.requires fits))

pub deduction::under-returns : goal.deduction::under-returns
deduction::under-returns t c =
    let fits : Sorted c.args.reach.now.theory.now.vocabulary (scope_sorts c.args.reach.now.scope.now) c.args.assumed.now = rw c.signature.ensures at (c.if-not-well_sorted_in.ensures.0 refl) in
    ok_map c.conclude_in.result (λ r k. under_yes c.args.reach.now.theory.now (scope_sorts c.args.reach.now.scope.now) (hypotheses c.args.reach.now.hyps.now) c.args.assumed.now c.args.part.now r fits k) (rw hypotheses-Under at c.conclude_in.ensures)

pub quantifier_nodes::all_e-specialized-requires : goal.quantifier_nodes::all_e-specialized-requires
quantifier_nodes::all_e-specialized-requires t c = shown_fits c.args.reach.now.theory.now (scope_sorts c.args.reach.now.scope.now) (hypotheses c.args.reach.now.hyps.now) _ _ c.in_ok-shown-in_default.ensures

pub nodes::imp_i-returns : goal.nodes::imp_i-returns
nodes::imp_i-returns t c = ok_map c.implied.result (λ r k. k c.args.reach.now.theory.now (scope_sorts c.args.reach.now.scope.now) (hypotheses c.args.reach.now.hyps.now) c.args.part.now c.in_ok-shown.ensures) c.implied.ensures

pub quantifier_nodes::ex_e-returns-in-None : goal.quantifier_nodes::ex_e-returns-in-None
quantifier_nodes::ex_e-returns-in-None t c =
    let told : Concludes c.args.reach.now.theory.now (scope_sorts c.args.reach.now.scope.now) (hypotheses c.args.reach.now.hyps.now) c.in-ExE.part c.in_ok-shown.shown = rw c.get.ensures at c.in_ok-shown.ensures in
    rw c.in-ExE.is (ex_e_none c.args.reach.now.theory.now (scope_sorts c.args.reach.now.scope.now) (hypotheses c.args.reach.now.hyps.now) c.in-ExE.goal c.in-ExE.part c.in-ExE.rest c.in_ok-shown.shown told c.in-None.ensures.none)

pub quantifier_nodes::ex_e-returns : goal.quantifier_nodes::ex_e-returns
quantifier_nodes::ex_e-returns t c =
    let told : Concludes c.args.reach.now.theory.now (scope_sorts c.args.reach.now.scope.now) (hypotheses c.args.reach.now.hyps.now) c.in-ExE.part c.in_ok-shown.shown = rw c.get.ensures at c.in_ok-shown.ensures in
    let rest : ConcludesUnder c.args.reach.now.theory.now (c.in-Some.sort ∷ scope_sorts c.args.reach.now.scope.now) (all_over (hypotheses c.args.reach.now.hyps.now)) c.in-Some.body.now c.in-ExE.rest c.in_ok-found-in-Some.found = rw c.get-in-Some.ensures at c.in_ok-found-in-Some.ensures in
    rw c.in-ExE.is (ok_map c.same_over.result (λ r k. ex_e_some c.args.reach.now.theory.now (scope_sorts c.args.reach.now.scope.now) (hypotheses c.args.reach.now.hyps.now) c.in-ExE.goal c.in-ExE.part c.in-ExE.rest c.in_ok-shown.shown c.in_ok-found-in-Some.found r c.in-Some.sort c.in-Some.body.now told c.in-Some.ensures.some rest k) (rw c.get-in-Some-2.ensures at c.same_over.ensures))

pub nodes::iff_i-returns : goal.nodes::iff_i-returns
nodes::iff_i-returns t c =
    let forth : ConcludesUnder c.args.reach.now.theory.now (scope_sorts c.args.reach.now.scope.now) (hypotheses c.args.reach.now.hyps.now) c.in-IffI.left c.in-IffI.there c.in_ok-forth.forth = rw (c.get.ensures, c.get-2.ensures) at c.in_ok-forth.ensures in
    let back : ConcludesUnder c.args.reach.now.theory.now (scope_sorts c.args.reach.now.scope.now) (hypotheses c.args.reach.now.hyps.now) c.in-IffI.right c.in-IffI.back c.in_ok-back.back = rw (c.get-3.ensures, c.get-4.ensures) at c.in_ok-back.ensures in
    let rule : ConcludesUnder c.args.reach.now.theory.now (scope_sorts c.args.reach.now.scope.now) (hypotheses c.args.reach.now.hyps.now) c.in-IffI.left c.in-IffI.there c.in_ok-forth.forth → ConcludesUnder c.args.reach.now.theory.now (scope_sorts c.args.reach.now.scope.now) (hypotheses c.args.reach.now.hyps.now) c.in-IffI.right c.in-IffI.back c.in_ok-back.back
    → Concludes c.args.reach.now.theory.now (scope_sorts c.args.reach.now.scope.now) (hypotheses c.args.reach.now.hyps.now) (IffI c.in-IffI.left c.in-IffI.right c.in-IffI.there c.in-IffI.back) c.equivalent.result
    = rw (c.get-5.ensures, c.get-6.ensures) at (c.equivalent.ensures c.args.reach.now.theory.now (scope_sorts c.args.reach.now.scope.now) (hypotheses c.args.reach.now.hyps.now) c.in-IffI.there c.in-IffI.back) in
    rw c.in-IffI.is (rule forth back)

pub quantifier_nodes::inhabit-returns : goal.quantifier_nodes::inhabit-returns
quantifier_nodes::inhabit-returns t c = ok_map c.same_over.result (λ r k. inhabit_shown c.args.reach.now.theory.now (scope_sorts c.args.reach.now.scope.now) (hypotheses c.args.reach.now.hyps.now) c.args.sort c.args.goal.now c.args.part.now c.in_ok-shown.shown r c.in_ok-shown.ensures k) c.same_over.ensures

pub nodes::or_e-returns-in-None : goal.nodes::or_e-returns-in-None
nodes::or_e-returns-in-None t c =
    let told : Concludes c.args.reach.now.theory.now (scope_sorts c.args.reach.now.scope.now) (hypotheses c.args.reach.now.hyps.now) c.in-OrE.part c.in_ok-shown.shown = rw c.get.ensures at c.in_ok-shown.ensures in
    rw c.in-OrE.is (or_e_none c.args.reach.now.theory.now (scope_sorts c.args.reach.now.scope.now) (hypotheses c.args.reach.now.hyps.now) c.in-OrE.goal c.in-OrE.part c.in-OrE.cases c.in_ok-shown.shown told c.in-None.ensures.none)

pub nodes::or_e-returns : goal.nodes::or_e-returns
nodes::or_e-returns t c =
    let told : Concludes c.args.reach.now.theory.now (scope_sorts c.args.reach.now.scope.now) (hypotheses c.args.reach.now.hyps.now) c.in-OrE.part c.in_ok-shown.shown = rw c.get.ensures at c.in_ok-shown.ensures in
    let each : IsTrue c.in_ok-all-in-Some.all ↔ EachUnder c.args.reach.now.theory.now (scope_sorts c.args.reach.now.scope.now) (hypotheses c.args.reach.now.hyps.now) c.in-OrE.goal c.in-OrE.cases c.in-Some.members.now = rw (c.as_slice.ensures, c.get-in-Some.ensures) at c.in_ok-all-in-Some.ensures in
    rw c.in-OrE.is (ok_map c.kept.result (λ r k. or_e_some c.args.reach.now.theory.now (scope_sorts c.args.reach.now.scope.now) (hypotheses c.args.reach.now.hyps.now) c.in-OrE.goal c.in-OrE.part c.in-OrE.cases c.in-Some.members.now c.in_ok-shown.shown c.in_ok-all-in-Some.all r c.in-Some.ensures.some each k told) (rw c.get-in-Some-2.ensures at c.kept.ensures))

pub nodes::raa-returns : goal.nodes::raa-returns
nodes::raa-returns t c =
    let told : ConcludesUnder c.args.reach.now.theory.now (scope_sorts c.args.reach.now.scope.now) (hypotheses c.args.reach.now.hyps.now) (Not c.args.goal.now) c.args.part.now c.in_ok-shown.shown = rw (c.get.ensures, c.in_ok-denied.ensures) at c.in_ok-shown.ensures in
    ok_map c.kept.result (λ r k. raa_shown c.args.reach.now.theory.now (scope_sorts c.args.reach.now.scope.now) (hypotheses c.args.reach.now.hyps.now) c.args.goal.now c.args.part.now c.in_ok-shown.shown c.is_falsehood.result r told c.is_falsehood.ensures k) c.kept.ensures

pub quantifier_nodes::subst-substituted-requires-clause-sorted : goal.quantifier_nodes::subst-substituted-requires-clause-sorted
quantifier_nodes::subst-substituted-requires-clause-sorted t c = shown_fits c.args.reach.now.theory.now (scope_sorts c.args.reach.now.scope.now) (hypotheses c.args.reach.now.hyps.now) _ _ c.in_ok-sides.ensures

pub nodes::and_i-loop-part-init : goal.nodes::and_i-loop-part-init
nodes::and_i-loop-part-init t c = subst (AllFound c.args.reach.now.theory.now (scope_sorts c.args.reach.now.scope.now) (hypotheses c.args.reach.now.hyps.now) []) (sym c.new-forms.ensures) (found_none c.args.reach.now.theory.now (scope_sorts c.args.reach.now.scope.now) (hypotheses c.args.reach.now.hyps.now))

pub nodes::and_i-returns-then-not-branch : goal.nodes::and_i-returns-then-not-branch
nodes::and_i-returns-then-not-branch t c =
    let s = c.in_ok-add.ensures in
    let told : Concludes c.args.reach.now.theory.now (scope_sorts c.args.reach.now.scope.now) (hypotheses c.args.reach.now.hyps.now) c.part-item.result s.0 = rw s.1 at c.conclude_in.ensures in
    let none : s.0 ≡ None = s.3 (λ yes. not_true (rw c.if-not-branch.true at yes)) in
    and_i_none c.args.reach.now.theory.now (scope_sorts c.args.reach.now.scope.now) (hypotheses c.args.reach.now.hyps.now) c.args.parts.now None (λ as_. (
      λ e. cc,
      λ w. absurd (found_missing c.args.reach.now.theory.now (scope_sorts c.args.reach.now.scope.now) (hypotheses c.args.reach.now.hyps.now) c.args.parts.now c.loop-part.part-index c.part-item.result c.part-item.result s.0 c.loop-part-test.true (sym c.part-item.is) told none as_ w),
    )) refl

pub nodes::and_i-loop-part-preserved : goal.nodes::and_i-loop-part-preserved
nodes::and_i-loop-part-preserved t c =
    let s = c.in_ok-add.ensures in
    let told : Concludes c.args.reach.now.theory.now (scope_sorts c.args.reach.now.scope.now) (hypotheses c.args.reach.now.hyps.now) c.part-item.result s.0 = rw s.1 at c.conclude_in.ensures in
    let put = s.2 c.if-not-branch.false in
    let more : AllFound c.args.reach.now.theory.now (scope_sorts c.args.reach.now.scope.now) (hypotheses c.args.reach.now.hyps.now) (take c.loop-part.part-index c.args.parts.now ++ c.part-item.result ∷ []) (c.loop-part.forms ++ put.0 ∷ []) =
    found_more c.args.reach.now.theory.now (scope_sorts c.args.reach.now.scope.now) (hypotheses c.args.reach.now.hyps.now) (take c.loop-part.part-index c.args.parts.now) c.loop-part.forms c.part-item.result s.0 put.0 c.loop-part.invariant told put.1 in
    let longer : take (c.loop-part.part-index + 1) c.args.parts.now ≡ take c.loop-part.part-index c.args.parts.now ++ c.part-item.result ∷ [] =
    take_more c.args.parts.now c.loop-part.part-index c.part-item.result c.loop-part-test.true ∙ ap (λ p. take c.loop-part.part-index c.args.parts.now ++ p ∷ []) (sym c.part-item.is) in
    subst (λ ps. AllFound c.args.reach.now.theory.now (scope_sorts c.args.reach.now.scope.now) (hypotheses c.args.reach.now.hyps.now) ps c.add.new.forms) (sym longer) (subst (AllFound c.args.reach.now.theory.now (scope_sorts c.args.reach.now.scope.now) (hypotheses c.args.reach.now.hyps.now) (take c.loop-part.part-index c.args.parts.now ++ c.part-item.result ∷ [])) (sym put.2) more)

pub nodes::and_i-returns : goal.nodes::and_i-returns
nodes::and_i-returns t c = ok_map c.conjoined.result (λ r e. and_i_some c.args.reach.now.theory.now (scope_sorts c.args.reach.now.scope.now) (hypotheses c.args.reach.now.hyps.now) c.args.parts.now (Some c.loop-part.forms) r c.loop-part.forms c.requires.scope_fits
    (found_all c.args.reach.now.theory.now (scope_sorts c.args.reach.now.scope.now) (hypotheses c.args.reach.now.hyps.now) c.args.parts.now c.loop-part.forms (subst (λ ps. AllFound c.args.reach.now.theory.now (scope_sorts c.args.reach.now.scope.now) (hypotheses c.args.reach.now.hyps.now) ps c.loop-part.forms) (take_all c.loop-part.part-index c.args.parts.now c.loop-part-test.false) c.loop-part.invariant)) refl e) c.conjoined.ensures

pub quantifier_nodes::chain_of-without_terms-requires : goal.quantifier_nodes::chain_of-without_terms-requires
quantifier_nodes::chain_of-without_terms-requires t c = λ a e. (shown_fits c.args.reach.now.theory.now (scope_sorts c.args.reach.now.scope.now) (hypotheses c.args.reach.now.hyps.now) _ _ c.in_ok-shown-in_default.ensures a e).few_binders
