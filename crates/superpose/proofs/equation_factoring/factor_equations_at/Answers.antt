use Rattle.std.proofs.Common.{subst, ◌∙◌, ap, refl, ◌++◌, List}
use Rattle.std.specs.List.{remove}
use Rattle.clause_form.specs.declared.clause.Lit.{Lit}
use Rattle.unify_terms.specs.Unifiers.{Unified}
use Rattle.superpose.specs.code.Conclusions.{IsConclusion}
use Rattle.superpose.specs.code.Pairs.{HasSides}
use Rattle.superpose.proofs.Factored.{merged_none, merged_some}
use Rattle.superpose.proofs.Resolved.{lent_at}
use Rattle.superpose.proofs.equation_factoring.factor_equations_at.Goals as goal

pub returns : goal.returns
returns c =
    merged_none c.args.sig.now c.args.c.now c.args.i c.args.first_flipped c.args.j c.args.second_flipped c.requires.c c.if-i-j.false c.requires.first c.index-lits-i.result c.index-lits-j.result
    c.in-Some.sides.left.now c.in-Some.sides.right.now c.in-Some-sides_of.sides.left.now c.in-Some-sides_of.sides.right.now
    (lent_at c.as_slice-lits.result.now c.args.c.now.lits c.args.i c.index-lits-i.result c.as_slice-lits.ensures c.requires.i c.index-lits-i.is)
    (lent_at c.as_slice-lits.result.now c.args.c.now.lits c.args.j c.index-lits-j.result c.as_slice-lits.ensures c.requires.j c.index-lits-j.is)
    (subst (HasSides c.index-lits-i.result c.args.first_flipped) c.in-Some.is c.sides_of.ensures) (subst (HasSides c.index-lits-j.result c.args.second_flipped) c.in-Some-sides_of.is c.sides_of-2.ensures)
    (record { sorts = c.in_ok-scope_of_clause.field-0; rigid = 0 }) c.in_ok-scope_of_clause.ensures refl c.in_ok-pairs.pairs c.as_slice.result.now c.in_ok-pairs.ensures c.as_slice.ensures
    (subst (Unified c.args.sig.now c.in_ok-scope_of_clause.field-0 0 c.as_slice.result.now) c.in-None-2.is c.in_ok-subst.ensures)

pub returns-in-Some-2 : goal.returns-in-Some-2
returns-in-Some-2 c =
    merged_some c.args.sig.now c.args.c.now c.args.i c.args.first_flipped c.args.j c.args.second_flipped c.requires.c c.if-i-j.false c.requires.first c.index-lits-i.result c.index-lits-j.result
    c.in-Some.sides.left.now c.in-Some.sides.right.now c.in-Some-sides_of.sides.left.now c.in-Some-sides_of.sides.right.now
    (lent_at c.as_slice-lits.result.now c.args.c.now.lits c.args.i c.index-lits-i.result c.as_slice-lits.ensures c.requires.i c.index-lits-i.is)
    (lent_at c.as_slice-lits.result.now c.args.c.now.lits c.args.j c.index-lits-j.result c.as_slice-lits.ensures c.requires.j c.index-lits-j.is)
    (subst (HasSides c.index-lits-i.result c.args.first_flipped) c.in-Some.is c.sides_of.ensures) (subst (HasSides c.index-lits-j.result c.args.second_flipped) c.in-Some-sides_of.is c.sides_of-2.ensures)
    (record { sorts = c.in_ok-scope_of_clause.field-0; rigid = 0 }) c.in_ok-scope_of_clause.ensures refl c.in_ok-pairs.pairs c.as_slice.result.now c.in_ok-pairs.ensures c.as_slice.ensures
    c.in-Some-2.subst (remove c.as_slice-lits.result.now c.args.i ++ c.as_slice-in-Some-2.result.now) c.in_ok-conclude-in-Some-2.field-0
    (subst (Unified c.args.sig.now c.in_ok-scope_of_clause.field-0 0 c.as_slice.result.now) c.in-Some-2.is c.in_ok-subst.ensures)
    (ap (λ (xs : List Lit). remove xs c.args.i ++ c.as_slice-in-Some-2.result.now) c.as_slice-lits.ensures ∙ ap (λ (xs : List Lit). remove c.args.c.now.lits c.args.i ++ xs) (c.as_slice-in-Some-2.ensures ∙ c.in_ok-last-in-Some-2.ensures))
    (subst (λ xs. IsConclusion xs c.in-Some-2.subst (remove c.as_slice-lits.result.now c.args.i ++ c.as_slice-in-Some-2.result.now) c.in_ok-conclude-in-Some-2.field-0) c.as_slice-sorts.ensures c.in_ok-conclude-in-Some-2.ensures)
