use Rattle.std.proofs.Common.{subst, ◌∙◌, ap, map, ◌++◌, ◌∷◌, [], List, length}
use Rattle.std.specs.List.{remove}
use Rattle.std.specs.Option.{option_copied}
use Rattle.clause_form.specs.declared.clause.Lit.{Lit}
use Rattle.clause_form.specs.Covers.{lit_apart}
use Rattle.clause_rules.specs.Ways.{zip_pairs}
use Rattle.fof_terms.specs.Lift.{lifted_term}
use Rattle.unify_terms.specs.Unifiers.{Unified}
use Rattle.superpose.specs.code.Conclusions.{IsConclusion}
use Rattle.superpose.specs.code.Pairs.{HasSides}
use Rattle.superpose.specs.code.Placed.{HasPart}
use Rattle.superpose.proofs.ConclusionFacts.{get_map}
use Rattle.superpose.proofs.Resolved.{lent_at}
use Rattle.superpose.proofs.Superposed.{part_moved, never_stands, never_part, superposition_sorted, superposition_none, superposition_some}
use Rattle.superpose.proofs.superposition.superpose_at.Goals as goal

pub returns-then-not-may_stand_at : goal.returns-then-not-may_stand_at
returns-then-not-may_stand_at c =
    never_stands c.args.sig.now c.args.c.now c.args.d.now c.args.side.lit c.args.side.flipped c.args.j c.args.place.now c.index-lits-side.result c.index-as_slice-j.result c.in-Some.sides.left.now c.in-Some.sides.right.now
    (lent_at c.as_slice-lits.result.now c.args.c.now.lits c.args.side.lit c.index-lits-side.result c.as_slice-lits.ensures c.requires.i c.index-lits-side.is)
    (subst (HasSides c.index-lits-side.result c.args.side.flipped) c.in-Some.is c.sides_of.ensures)
    (lent_at c.as_slice.result.now c.args.d.now.lits c.args.j c.index-as_slice-j.result c.as_slice.ensures c.requires.j c.index-as_slice-j.is)
    (c.may_stand_at.ensures c.if-not-may_stand_at.true)

pub returns-in-None-part_in : goal.returns-in-None-part_in
returns-in-None-part_in c =
    never_part c.args.sig.now c.args.c.now c.args.d.now c.args.side.lit c.args.side.flipped c.args.j c.args.place.now c.index-as_slice-j.result
    (lent_at c.as_slice.result.now c.args.d.now.lits c.args.j c.index-as_slice-j.result c.as_slice.ensures c.requires.j c.index-as_slice-j.is)
    (subst (λ o. HasPart c.index-as_slice-j.result c.args.place.now (option_copied o)) c.in-None-part_in.is c.part_in.ensures)

pub unify-requires-clause-sorted : goal.unify-requires-clause-sorted
unify-requires-clause-sorted c =
    superposition_sorted c.args.sig.now c.args.c.now c.args.d.now c.args.side.lit c.args.side.flipped c.args.j c.args.place.now c.requires.c c.requires.d c.requires.first c.requires.second c.requires.not_less c.index-lits-side.result (lit_apart (length c.args.c.now.sorts) c.index-as_slice-j.result)
    c.in-Some.sides.left.now c.in-Some.sides.right.now (lifted_term (length c.args.c.now.sorts) 0 c.in-Some-part_in.part.now)
    (lent_at c.as_slice-lits.result.now c.args.c.now.lits c.args.side.lit c.index-lits-side.result c.as_slice-lits.ensures c.requires.i c.index-lits-side.is)
    (subst (HasSides c.index-lits-side.result c.args.side.flipped) c.in-Some.is c.sides_of.ensures)
    (get_map (lit_apart (length c.args.c.now.sorts)) c.args.d.now.lits c.args.j c.index-as_slice-j.result
    (lent_at c.as_slice.result.now c.args.d.now.lits c.args.j c.index-as_slice-j.result c.as_slice.ensures c.requires.j c.index-as_slice-j.is))
    (part_moved (length c.args.c.now.sorts) c.args.place.now c.index-as_slice-j.result c.in-Some-part_in.part.now
    (subst (λ o. HasPart c.index-as_slice-j.result c.args.place.now (option_copied o)) c.in-Some-part_in.is c.part_in.ensures))
    c.in_ok-scope.scope c.in_ok-scope.ensures.0 c.in_ok-scope.ensures.1 c.in_ok-pairs.pairs c.as_slice-2.result.now
    (c.in_ok-pairs.ensures ∙ ap (λ n. zip_pairs (c.in-Some.sides.left.now ∷ []) (lifted_term n 0 c.in-Some-part_in.part.now ∷ [])) c.len-by.ensures) c.as_slice-2.ensures

pub returns : goal.returns
returns c =
    superposition_none c.args.sig.now c.args.c.now c.args.d.now c.args.side.lit c.args.side.flipped c.args.j c.args.place.now c.requires.c c.requires.d c.requires.first c.requires.second c.requires.not_less c.index-lits-side.result (lit_apart (length c.args.c.now.sorts) c.index-as_slice-j.result)
    c.in-Some.sides.left.now c.in-Some.sides.right.now (lifted_term (length c.args.c.now.sorts) 0 c.in-Some-part_in.part.now)
    (lent_at c.as_slice-lits.result.now c.args.c.now.lits c.args.side.lit c.index-lits-side.result c.as_slice-lits.ensures c.requires.i c.index-lits-side.is)
    (subst (HasSides c.index-lits-side.result c.args.side.flipped) c.in-Some.is c.sides_of.ensures)
    (get_map (lit_apart (length c.args.c.now.sorts)) c.args.d.now.lits c.args.j c.index-as_slice-j.result
    (lent_at c.as_slice.result.now c.args.d.now.lits c.args.j c.index-as_slice-j.result c.as_slice.ensures c.requires.j c.index-as_slice-j.is))
    (part_moved (length c.args.c.now.sorts) c.args.place.now c.index-as_slice-j.result c.in-Some-part_in.part.now
    (subst (λ o. HasPart c.index-as_slice-j.result c.args.place.now (option_copied o)) c.in-Some-part_in.is c.part_in.ensures))
    c.in_ok-scope.scope c.in_ok-scope.ensures.0 c.in_ok-scope.ensures.1 c.in_ok-pairs.pairs c.as_slice-2.result.now
    (c.in_ok-pairs.ensures ∙ ap (λ n. zip_pairs (c.in-Some.sides.left.now ∷ []) (lifted_term n 0 c.in-Some-part_in.part.now ∷ [])) c.len-by.ensures) c.as_slice-2.ensures
    (subst (Unified c.args.sig.now c.in_ok-scope.scope.sorts c.in_ok-scope.scope.rigid c.as_slice-2.result.now) c.in-None-2.is c.in_ok-subst.ensures)

pub returns-in-Some-2 : goal.returns-in-Some-2
returns-in-Some-2 c =
    superposition_some c.args.sig.now c.args.c.now c.args.d.now c.args.side.lit c.args.side.flipped c.args.j c.args.place.now c.requires.c c.requires.d c.requires.first c.requires.second c.requires.not_less c.index-lits-side.result (lit_apart (length c.args.c.now.sorts) c.index-as_slice-j.result)
    c.in-Some.sides.left.now c.in-Some.sides.right.now (lifted_term (length c.args.c.now.sorts) 0 c.in-Some-part_in.part.now)
    (lent_at c.as_slice-lits.result.now c.args.c.now.lits c.args.side.lit c.index-lits-side.result c.as_slice-lits.ensures c.requires.i c.index-lits-side.is)
    (subst (HasSides c.index-lits-side.result c.args.side.flipped) c.in-Some.is c.sides_of.ensures)
    (get_map (lit_apart (length c.args.c.now.sorts)) c.args.d.now.lits c.args.j c.index-as_slice-j.result
    (lent_at c.as_slice.result.now c.args.d.now.lits c.args.j c.index-as_slice-j.result c.as_slice.ensures c.requires.j c.index-as_slice-j.is))
    (part_moved (length c.args.c.now.sorts) c.args.place.now c.index-as_slice-j.result c.in-Some-part_in.part.now
    (subst (λ o. HasPart c.index-as_slice-j.result c.args.place.now (option_copied o)) c.in-Some-part_in.is c.part_in.ensures))
    c.in_ok-scope.scope c.in_ok-scope.ensures.0 c.in_ok-scope.ensures.1 c.in_ok-pairs.pairs c.as_slice-2.result.now
    (c.in_ok-pairs.ensures ∙ ap (λ n. zip_pairs (c.in-Some.sides.left.now ∷ []) (lifted_term n 0 c.in-Some-part_in.part.now ∷ [])) c.len-by.ensures) c.as_slice-2.ensures
    c.in-Some-2.subst c.in_ok-apart-in-Some-2.apart c.replace.new.lits (remove c.as_slice-lits.result.now c.args.side.lit ++ c.as_slice-in-Some-2.result.now) c.in_ok-conclude-in-Some-2.field-0
    (subst (Unified c.args.sig.now c.in_ok-scope.scope.sorts c.in_ok-scope.scope.rigid c.as_slice-2.result.now) c.in-Some-2.is c.in_ok-subst.ensures)
    (c.in_ok-apart-in-Some-2.ensures ∙ ap (λ n. map (lit_apart n) c.args.d.now.lits) c.len-by.ensures) c.in_ok-replace-in-Some-2.ensures
    (ap (λ (xs : List Lit). remove xs c.args.side.lit ++ c.as_slice-in-Some-2.result.now) c.as_slice-lits.ensures ∙ ap (λ (xs : List Lit). remove c.args.c.now.lits c.args.side.lit ++ xs) c.as_slice-in-Some-2.ensures)
    (subst (λ xs. IsConclusion xs c.in-Some-2.subst (remove c.as_slice-lits.result.now c.args.side.lit ++ c.as_slice-in-Some-2.result.now) c.in_ok-conclude-in-Some-2.field-0) c.as_slice-sorts.ensures c.in_ok-conclude-in-Some-2.ensures)
