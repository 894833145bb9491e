use Rattle.std.proofs.Common.{subst, ◌∙◌, ap, ◌++◌, List, map}
use Rattle.clause_form.specs.declared.clause.Lit.{Lit}
use Rattle.clause_form.specs.Covers.{lit_apart}
use Rattle.std.specs.List.{remove}
use Rattle.unify_terms.specs.Unifiers.{Unified}
use Rattle.superpose.specs.code.Conclusions.{IsConclusion}
use Rattle.superpose.specs.code.Pairs.{ArePairsOf}
use Rattle.superpose.proofs.Resolved.{never_resolvable, never_paired, resolution_sorted, resolution_none, resolution_some, lent_at, moved_at}
use Rattle.superpose.proofs.resolution.resolve_at.Goals as goal

pub returns-then-not-may_resolve : goal.returns-then-not-may_resolve
returns-then-not-may_resolve c =
    never_resolvable c.args.sig.now c.args.c.now c.args.d.now c.args.i c.args.j c.index-lits-i.result c.index-as_slice-j.result
    (lent_at c.as_slice-lits.result.now c.args.c.now.lits c.args.i c.index-lits-i.result c.as_slice-lits.ensures c.requires.i c.index-lits-i.is)
    (lent_at c.as_slice.result.now c.args.d.now.lits c.args.j c.index-as_slice-j.result c.as_slice.ensures c.requires.j c.index-as_slice-j.is)
    (c.may_resolve.ensures.never c.if-not-may_resolve.true)

pub returns-in-None : goal.returns-in-None
returns-in-None c =
    never_paired c.args.sig.now c.args.c.now c.args.d.now c.args.i c.args.j c.index-lits-i.result c.in_ok-moved.moved
    (lent_at c.as_slice-lits.result.now c.args.c.now.lits c.args.i c.index-lits-i.result c.as_slice-lits.ensures c.requires.i c.index-lits-i.is)
    (moved_at c.args.c.now c.args.d.now c.args.j c.index-as_slice-j.result c.in_ok-moved.moved c.len-by.result
    (lent_at c.as_slice.result.now c.args.d.now.lits c.args.j c.index-as_slice-j.result c.as_slice.ensures c.requires.j c.index-as_slice-j.is) c.in_ok-moved.ensures c.len-by.ensures)
    (subst (ArePairsOf c.index-lits-i.result.atom c.in_ok-moved.moved.atom) c.in-None.is c.in_ok-pairs.ensures)

pub unify-requires-clause-sorted : goal.unify-requires-clause-sorted
unify-requires-clause-sorted c =
    resolution_sorted c.args.sig.now c.args.c.now c.args.d.now c.args.i c.args.j c.requires.c c.requires.d c.requires.first c.requires.second c.index-lits-i.result c.index-as_slice-j.result c.in_ok-moved.moved
    (lent_at c.as_slice-lits.result.now c.args.c.now.lits c.args.i c.index-lits-i.result c.as_slice-lits.ensures c.requires.i c.index-lits-i.is)
    (lent_at c.as_slice.result.now c.args.d.now.lits c.args.j c.index-as_slice-j.result c.as_slice.ensures c.requires.j c.index-as_slice-j.is)
    (moved_at c.args.c.now c.args.d.now c.args.j c.index-as_slice-j.result c.in_ok-moved.moved c.len-by.result
    (lent_at c.as_slice.result.now c.args.d.now.lits c.args.j c.index-as_slice-j.result c.as_slice.ensures c.requires.j c.index-as_slice-j.is) c.in_ok-moved.ensures c.len-by.ensures)
    (c.may_resolve.ensures.may c.if-not-may_resolve.false) c.in-Some.pairs
    (subst (ArePairsOf c.index-lits-i.result.atom c.in_ok-moved.moved.atom) c.in-Some.is c.in_ok-pairs.ensures)
    c.in_ok-scope.scope c.in_ok-scope.ensures.0 c.in_ok-scope.ensures.1 c.as_slice-2.result.now c.as_slice-2.ensures

pub returns : goal.returns
returns c =
    resolution_none c.args.sig.now c.args.c.now c.args.d.now c.args.i c.args.j c.requires.c c.requires.d c.requires.first c.requires.second c.index-lits-i.result c.index-as_slice-j.result c.in_ok-moved.moved
    (lent_at c.as_slice-lits.result.now c.args.c.now.lits c.args.i c.index-lits-i.result c.as_slice-lits.ensures c.requires.i c.index-lits-i.is)
    (lent_at c.as_slice.result.now c.args.d.now.lits c.args.j c.index-as_slice-j.result c.as_slice.ensures c.requires.j c.index-as_slice-j.is)
    (moved_at c.args.c.now c.args.d.now c.args.j c.index-as_slice-j.result c.in_ok-moved.moved c.len-by.result
    (lent_at c.as_slice.result.now c.args.d.now.lits c.args.j c.index-as_slice-j.result c.as_slice.ensures c.requires.j c.index-as_slice-j.is) c.in_ok-moved.ensures c.len-by.ensures)
    (c.may_resolve.ensures.may c.if-not-may_resolve.false) c.in-Some.pairs
    (subst (ArePairsOf c.index-lits-i.result.atom c.in_ok-moved.moved.atom) c.in-Some.is c.in_ok-pairs.ensures)
    c.in_ok-scope.scope c.in_ok-scope.ensures.0 c.in_ok-scope.ensures.1 c.as_slice-2.result.now c.as_slice-2.ensures
    (subst (Unified c.args.sig.now c.in_ok-scope.scope.sorts c.in_ok-scope.scope.rigid c.as_slice-2.result.now) c.in-None-2.is c.in_ok-subst.ensures)

pub returns-in-Some-2 : goal.returns-in-Some-2
returns-in-Some-2 c =
    resolution_some c.args.sig.now c.args.c.now c.args.d.now c.args.i c.args.j c.requires.c c.requires.d c.requires.first c.requires.second c.index-lits-i.result c.index-as_slice-j.result c.in_ok-moved.moved
    (lent_at c.as_slice-lits.result.now c.args.c.now.lits c.args.i c.index-lits-i.result c.as_slice-lits.ensures c.requires.i c.index-lits-i.is)
    (lent_at c.as_slice.result.now c.args.d.now.lits c.args.j c.index-as_slice-j.result c.as_slice.ensures c.requires.j c.index-as_slice-j.is)
    (moved_at c.args.c.now c.args.d.now c.args.j c.index-as_slice-j.result c.in_ok-moved.moved c.len-by.result
    (lent_at c.as_slice.result.now c.args.d.now.lits c.args.j c.index-as_slice-j.result c.as_slice.ensures c.requires.j c.index-as_slice-j.is) c.in_ok-moved.ensures c.len-by.ensures)
    (c.may_resolve.ensures.may c.if-not-may_resolve.false) c.in-Some.pairs
    (subst (ArePairsOf c.index-lits-i.result.atom c.in_ok-moved.moved.atom) c.in-Some.is c.in_ok-pairs.ensures)
    c.in_ok-scope.scope c.in_ok-scope.ensures.0 c.in_ok-scope.ensures.1 c.as_slice-2.result.now c.as_slice-2.ensures
    c.in-Some-2.subst (remove c.as_slice-lits.result.now c.args.i ++ c.as_slice-in-Some-2.result.now) c.in_ok-conclude-in-Some-2.field-0
    (subst (Unified c.args.sig.now c.in_ok-scope.scope.sorts c.in_ok-scope.scope.rigid c.as_slice-2.result.now) c.in-Some-2.is c.in_ok-subst.ensures)
    (ap (λ (xs : List Lit). remove xs c.args.i ++ c.as_slice-in-Some-2.result.now) c.as_slice-lits.ensures ∙ ap (λ (xs : List Lit). remove c.args.c.now.lits c.args.i ++ xs) (c.as_slice-in-Some-2.ensures ∙ c.remove-gone.ensures.rest)
    ∙ ap (λ (xs : List Lit). remove c.args.c.now.lits c.args.i ++ remove xs c.args.j) (c.in_ok-apart-in-Some-2.ensures ∙ ap (λ n. map (lit_apart n) c.args.d.now.lits) c.len-by.ensures))
    (subst (λ xs. IsConclusion xs c.in-Some-2.subst (remove c.as_slice-lits.result.now c.args.i ++ c.as_slice-in-Some-2.result.now) c.in_ok-conclude-in-Some-2.field-0) c.as_slice-sorts.ensures c.in_ok-conclude-in-Some-2.ensures)
