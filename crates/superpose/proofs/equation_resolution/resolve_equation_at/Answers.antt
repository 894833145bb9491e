use Rattle.std.proofs.Common.{subst, ◌∙◌, ap, refl, append-nil, ◌++◌, [], List}
use Rattle.std.specs.List.{remove}
use Rattle.clause_form.specs.declared.clause.Lit.{Lit}
use Rattle.unify_terms.specs.Unifiers.{Unified}
use Rattle.superpose.specs.code.Conclusions.{IsConclusion}
use Rattle.superpose.specs.code.Pairs.{HasDeniedSides}
use Rattle.superpose.proofs.Factored.{never_denied, equation_none, equation_some}
use Rattle.superpose.proofs.Resolved.{lent_at}
use Rattle.superpose.proofs.equation_resolution.resolve_equation_at.Goals as goal

pub returns-in-None : goal.returns-in-None
returns-in-None c =
    never_denied c.args.sig.now c.args.c.now c.args.i c.index-lits-i.result
    (lent_at c.as_slice-lits.result.now c.args.c.now.lits c.args.i c.index-lits-i.result c.as_slice-lits.ensures c.requires.i c.index-lits-i.is)
    (subst (HasDeniedSides c.index-lits-i.result) c.in-None.is c.denied_sides.ensures)

pub returns : goal.returns
returns c =
    equation_none c.args.sig.now c.args.c.now c.args.i c.requires.c c.requires.first c.index-lits-i.result c.in-Some.sides.left.now c.in-Some.sides.right.now
    (lent_at c.as_slice-lits.result.now c.args.c.now.lits c.args.i c.index-lits-i.result c.as_slice-lits.ensures c.requires.i c.index-lits-i.is)
    (subst (HasDeniedSides c.index-lits-i.result) c.in-Some.is c.denied_sides.ensures) (record { sorts = c.in_ok-scope_of_clause.field-0; rigid = 0 }) c.in_ok-scope_of_clause.ensures refl c.in_ok-pairs.pairs c.as_slice.result.now c.in_ok-pairs.ensures c.as_slice.ensures
    (subst (Unified c.args.sig.now c.in_ok-scope_of_clause.field-0 0 c.as_slice.result.now) c.in-None-2.is c.in_ok-subst.ensures)

pub returns-in-Some-2 : goal.returns-in-Some-2
returns-in-Some-2 c =
    equation_some c.args.sig.now c.args.c.now c.args.i c.requires.c c.requires.first c.index-lits-i.result c.in-Some.sides.left.now c.in-Some.sides.right.now
    (lent_at c.as_slice-lits.result.now c.args.c.now.lits c.args.i c.index-lits-i.result c.as_slice-lits.ensures c.requires.i c.index-lits-i.is)
    (subst (HasDeniedSides c.index-lits-i.result) c.in-Some.is c.denied_sides.ensures) (record { sorts = c.in_ok-scope_of_clause.field-0; rigid = 0 }) c.in_ok-scope_of_clause.ensures refl c.in_ok-pairs.pairs c.as_slice.result.now c.in_ok-pairs.ensures c.as_slice.ensures
    c.in-Some-2.subst (remove c.as_slice-lits.result.now c.args.i ++ []) c.in_ok-conclude-in-Some-2.field-0
    (subst (Unified c.args.sig.now c.in_ok-scope_of_clause.field-0 0 c.as_slice.result.now) c.in-Some-2.is c.in_ok-subst.ensures)
    (append-nil (remove c.as_slice-lits.result.now c.args.i) ∙ ap (λ (xs : List Lit). remove xs c.args.i) c.as_slice-lits.ensures)
    (subst (λ xs. IsConclusion xs c.in-Some-2.subst (remove c.as_slice-lits.result.now c.args.i ++ []) c.in_ok-conclude-in-Some-2.field-0) c.as_slice-sorts.ensures c.in_ok-conclude-in-Some-2.ensures)
