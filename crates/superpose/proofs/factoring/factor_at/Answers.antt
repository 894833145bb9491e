use Rattle.std.proofs.Common.{subst, ◌∙◌, ap, refl, append-nil, ◌++◌, [], List}
use Rattle.std.specs.List.{remove}
use Rattle.clause_form.specs.declared.clause.Lit.{Lit}
use Rattle.unify_terms.specs.Unifiers.{Unified}
use Rattle.superpose.specs.code.Conclusions.{IsConclusion}
use Rattle.superpose.specs.code.Pairs.{ArePairsOf}
use Rattle.superpose.proofs.Factored.{never_positive, never_same, factor_sorted, factor_none, factor_some}
use Rattle.superpose.proofs.Resolved.{lent_at}
use Rattle.superpose.proofs.factoring.factor_at.Goals as goal

pub returns-then-not-are_positive : goal.returns-then-not-are_positive
returns-then-not-are_positive c =
    never_positive c.args.sig.now c.args.c.now c.args.i c.args.j c.index-lits-i.result c.index-lits-j.result
    (lent_at c.as_slice-lits.result.now c.args.c.now.lits c.args.i c.index-lits-i.result c.as_slice-lits.ensures c.requires.i c.index-lits-i.is)
    (lent_at c.as_slice-lits.result.now c.args.c.now.lits c.args.j c.index-lits-j.result c.as_slice-lits.ensures c.requires.j c.index-lits-j.is)
    (c.are_positive.ensures.never c.if-not-are_positive.true)

pub returns-in-None : goal.returns-in-None
returns-in-None c =
    never_same c.args.sig.now c.args.c.now c.args.i c.args.j c.index-lits-i.result c.index-lits-j.result
    (lent_at c.as_slice-lits.result.now c.args.c.now.lits c.args.i c.index-lits-i.result c.as_slice-lits.ensures c.requires.i c.index-lits-i.is)
    (lent_at c.as_slice-lits.result.now c.args.c.now.lits c.args.j c.index-lits-j.result c.as_slice-lits.ensures c.requires.j c.index-lits-j.is)
    (subst (ArePairsOf c.index-lits-i.result.atom c.index-lits-j.result.atom) c.in-None.is c.in_ok-pairs.ensures)

pub unify-requires-clause-sorted : goal.unify-requires-clause-sorted
unify-requires-clause-sorted c =
    factor_sorted c.args.sig.now c.args.c.now c.args.i c.args.j c.requires.c c.if-i-j.false c.requires.first c.index-lits-i.result c.index-lits-j.result
    (lent_at c.as_slice-lits.result.now c.args.c.now.lits c.args.i c.index-lits-i.result c.as_slice-lits.ensures c.requires.i c.index-lits-i.is)
    (lent_at c.as_slice-lits.result.now c.args.c.now.lits c.args.j c.index-lits-j.result c.as_slice-lits.ensures c.requires.j c.index-lits-j.is)
    (c.are_positive.ensures.both c.if-not-are_positive.false).0 (c.are_positive.ensures.both c.if-not-are_positive.false).1 c.in-Some.pairs
    (subst (ArePairsOf c.index-lits-i.result.atom c.index-lits-j.result.atom) c.in-Some.is c.in_ok-pairs.ensures) (record { sorts = c.in_ok-scope_of_clause.field-0; rigid = 0 }) c.in_ok-scope_of_clause.ensures refl c.as_slice.result.now c.as_slice.ensures

pub returns : goal.returns
returns c =
    factor_none c.args.sig.now c.args.c.now c.args.i c.args.j c.requires.c c.if-i-j.false c.requires.first c.index-lits-i.result c.index-lits-j.result
    (lent_at c.as_slice-lits.result.now c.args.c.now.lits c.args.i c.index-lits-i.result c.as_slice-lits.ensures c.requires.i c.index-lits-i.is)
    (lent_at c.as_slice-lits.result.now c.args.c.now.lits c.args.j c.index-lits-j.result c.as_slice-lits.ensures c.requires.j c.index-lits-j.is)
    (c.are_positive.ensures.both c.if-not-are_positive.false).0 (c.are_positive.ensures.both c.if-not-are_positive.false).1 c.in-Some.pairs
    (subst (ArePairsOf c.index-lits-i.result.atom c.index-lits-j.result.atom) c.in-Some.is c.in_ok-pairs.ensures) (record { sorts = c.in_ok-scope_of_clause.field-0; rigid = 0 }) c.in_ok-scope_of_clause.ensures refl c.as_slice.result.now c.as_slice.ensures
    (subst (Unified c.args.sig.now c.in_ok-scope_of_clause.field-0 0 c.as_slice.result.now) c.in-None-2.is c.in_ok-subst.ensures)

pub returns-in-Some-2 : goal.returns-in-Some-2
returns-in-Some-2 c =
    factor_some c.args.sig.now c.args.c.now c.args.i c.args.j c.requires.c c.if-i-j.false c.requires.first c.index-lits-i.result c.index-lits-j.result
    (lent_at c.as_slice-lits.result.now c.args.c.now.lits c.args.i c.index-lits-i.result c.as_slice-lits.ensures c.requires.i c.index-lits-i.is)
    (lent_at c.as_slice-lits.result.now c.args.c.now.lits c.args.j c.index-lits-j.result c.as_slice-lits.ensures c.requires.j c.index-lits-j.is)
    (c.are_positive.ensures.both c.if-not-are_positive.false).0 (c.are_positive.ensures.both c.if-not-are_positive.false).1 c.in-Some.pairs
    (subst (ArePairsOf c.index-lits-i.result.atom c.index-lits-j.result.atom) c.in-Some.is c.in_ok-pairs.ensures) (record { sorts = c.in_ok-scope_of_clause.field-0; rigid = 0 }) c.in_ok-scope_of_clause.ensures refl c.as_slice.result.now c.as_slice.ensures
    c.in-Some-2.subst (remove c.as_slice-lits.result.now c.args.j ++ []) c.in_ok-conclude-in-Some-2.field-0
    (subst (Unified c.args.sig.now c.in_ok-scope_of_clause.field-0 0 c.as_slice.result.now) c.in-Some-2.is c.in_ok-subst.ensures)
    (append-nil (remove c.as_slice-lits.result.now c.args.j) ∙ ap (λ (xs : List Lit). remove xs c.args.j) c.as_slice-lits.ensures)
    (subst (λ xs. IsConclusion xs c.in-Some-2.subst (remove c.as_slice-lits.result.now c.args.j ++ []) c.in_ok-conclude-in-Some-2.field-0) c.as_slice-sorts.ensures c.in_ok-conclude-in-Some-2.ensures)
