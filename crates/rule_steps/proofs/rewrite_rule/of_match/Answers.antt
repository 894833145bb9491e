use Rattle.std.proofs.Common.{Some, None, subst, sym, refl, ◌∙◌, ◌∷◌, [], length}
use Rattle.unify_terms.specs.Substitution.{instance}
use Rattle.unify_terms.specs.Unifiers.{AreSorted as ArePairsSorted}
use Rattle.rule_steps.specs.code.RewriteSearch.{SettlesRewriting}
use Rattle.clause_rules.specs.Steps.{scope_of_both}
use Rattle.clause_rules.specs.Ways.{pair_of}
use Rattle.clause_rules.proofs.Firsts.{ok_map}
use Rattle.rule_steps.proofs.ParamodulationCode.{equation_as}
use Rattle.rule_steps.proofs.RewriteCode.{unified_as, replaced_as, no_match_equation}
use Rattle.rule_steps.proofs.RewrittenAt.{pairs_sorted, not_matched, replaced_sorted, settled_rewriting}
use Rattle.rule_steps.proofs.rewrite_rule.of_match.Goals as goal

pub unify-requires-clause-sorted : goal.unify-requires-clause-sorted
unify-requires-clause-sorted c =
    let over = equation_as c.in_ok-joint.joint.left c.as_slice.result.now 0 c.args.flipped (Some c.in-Some.sides) c.as_slice.ensures c.in-Some.ensures in
    subst (ArePairsSorted c.args.search.now.sig.now c.in_ok-joint.joint.scope.sorts) (sym (c.as_slice-in-Some.ensures ∙ c.in_ok-pairs-in-Some.ensures))
    (pairs_sorted c.args.search.now.sig.now c.args.into.now c.args.by.now c.args.search.now.line.now c.requires.into c.requires.by c.args.target.now c.requires.stands c.args.flipped c.in_ok-joint.joint c.in_ok-joint.ensures c.requires.single c.in-Some.sides.left.now c.in-Some.sides.right.now over)

pub cover_lits-requires-clause-lits : goal.cover_lits-requires-clause-lits
cover_lits-requires-clause-lits c =
    let over = equation_as c.in_ok-joint.joint.left c.as_slice.result.now 0 c.args.flipped (Some c.in-Some.sides) c.as_slice.ensures c.in-Some.ensures in
    let most = unified_as c.args.search.now.sig.now (scope_of_both c.args.into.now c.args.by.now) c.in_ok-joint.joint.scope.sorts (length c.args.into.now.sorts) c.in_ok-joint.joint.scope.rigid (pair_of c.in-Some.sides.left.now c.args.target.now ∷ []) c.as_slice-in-Some.result.now (Some c.in-Some-2.by_subst)
    c.in_ok-joint.ensures.sorts c.in_ok-joint.ensures.rigid (c.as_slice-in-Some.ensures ∙ c.in_ok-pairs-in-Some.ensures) (rw c.in-Some-2.is at c.in_ok-by_subst-in-Some.ensures) in
    replaced_sorted c.args.search.now.sig.now c.args.into.now c.args.by.now c.args.search.now.line.now c.requires.into c.requires.by c.args.target.now c.requires.stands c.args.flipped c.in_ok-joint.joint c.in_ok-joint.ensures c.requires.single c.in-Some.sides.left.now c.in-Some.sides.right.now over
    c.in-Some-2.by_subst most c.as_slice-in-Some-2-2.result.now
    (replaced_as c.args.target.now c.in_ok-new-in-Some-2.new (instance c.in-Some-2.by_subst c.in-Some.sides.right.now) c.args.into.now.lits c.as_slice-in-Some-2.result.now c.in_ok-lits-in-Some-2.lits c.as_slice-in-Some-2-2.result.now c.in_ok-new-in-Some-2.ensures c.as_slice-in-Some-2.ensures c.as_slice-in-Some-2-2.ensures c.in_ok-lits-in-Some-2.ensures)

pub returns-in-Some-2 : goal.returns-in-Some-2
returns-in-Some-2 c =
    let over = equation_as c.in_ok-joint.joint.left c.as_slice.result.now 0 c.args.flipped (Some c.in-Some.sides) c.as_slice.ensures c.in-Some.ensures in
    let most = unified_as c.args.search.now.sig.now (scope_of_both c.args.into.now c.args.by.now) c.in_ok-joint.joint.scope.sorts (length c.args.into.now.sorts) c.in_ok-joint.joint.scope.rigid (pair_of c.in-Some.sides.left.now c.args.target.now ∷ []) c.as_slice-in-Some.result.now (Some c.in-Some-2.by_subst)
    c.in_ok-joint.ensures.sorts c.in_ok-joint.ensures.rigid (c.as_slice-in-Some.ensures ∙ c.in_ok-pairs-in-Some.ensures) (rw c.in-Some-2.is at c.in_ok-by_subst-in-Some.ensures) in
    ok_map c.rewriting_of.result (λ made is. subst (SettlesRewriting c.args.search.now.sig.now c.args.into.now c.args.by.now c.args.search.now.line.now c.args.target.now c.args.flipped) (sym is)
    (settled_rewriting c.args.search.now.sig.now c.args.into.now c.args.by.now c.args.search.now.line.now c.requires.into c.requires.by c.args.target.now c.requires.stands c.args.flipped c.in_ok-joint.joint c.in_ok-joint.ensures c.requires.single c.in-Some.sides.left.now c.in-Some.sides.right.now over
    c.in-Some-2.by_subst most c.as_slice-in-Some-2-2.result.now
    (replaced_as c.args.target.now c.in_ok-new-in-Some-2.new (instance c.in-Some-2.by_subst c.in-Some.sides.right.now) c.args.into.now.lits c.as_slice-in-Some-2.result.now c.in_ok-lits-in-Some-2.lits c.as_slice-in-Some-2-2.result.now c.in_ok-new-in-Some-2.ensures c.as_slice-in-Some-2.ensures c.as_slice-in-Some-2-2.ensures c.in_ok-lits-in-Some-2.ensures)
    c.in_ok-found-in-Some-2.found c.in_ok-found-in-Some-2.ensures)) c.rewriting_of.ensures

pub returns-in-Some : goal.returns-in-Some
returns-in-Some c = λ further r more s h.
    let over = equation_as c.in_ok-joint.joint.left c.as_slice.result.now 0 c.args.flipped (Some c.in-Some.sides) c.as_slice.ensures c.in-Some.ensures in
    not_matched c.args.search.now.sig.now c.args.into.now c.args.by.now c.args.search.now.line.now c.requires.into c.requires.by c.args.target.now c.requires.stands c.args.flipped c.in_ok-joint.joint c.in_ok-joint.ensures c.requires.single c.in-Some.sides.left.now c.in-Some.sides.right.now over
    further r more s h
    (unified_as c.args.search.now.sig.now c.in_ok-joint.joint.scope.sorts c.in_ok-joint.joint.scope.sorts c.in_ok-joint.joint.scope.rigid c.in_ok-joint.joint.scope.rigid (pair_of c.in-Some.sides.left.now c.args.target.now ∷ []) c.as_slice-in-Some.result.now None
    refl refl (c.as_slice-in-Some.ensures ∙ c.in_ok-pairs-in-Some.ensures) (rw c.in-None-2.is at c.in_ok-by_subst-in-Some.ensures))

pub returns : goal.returns
returns c = no_match_equation c.args.search.now.sig.now c.args.into.now c.args.by.now c.args.search.now.line.now c.args.target.now c.args.flipped c.in_ok-joint.joint c.in_ok-joint.ensures (equation_as c.in_ok-joint.joint.left c.as_slice.result.now 0 c.args.flipped None c.as_slice.ensures c.in-None.ensures)
