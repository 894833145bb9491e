use Rattle.std.proofs.Common.{ap, ◌∙◌, ◌++◌, reverse, length, refl}
use Rattle.std.specs.List.{remove}
use Rattle.clause_form.specs.declared.clause.Clause.{Clause}
use Rattle.superpose.specs.code.Named.{sorts_at}
use Rattle.superpose.specs.code.Noted.{LitInstancesStay}
use Rattle.superpose.proofs.ConclusionFacts.{concluded_by, noted_within}
use Rattle.superpose.proofs.concluding.conclude.Goals as goal

pub names_of-requires-clause-within : goal.names_of-requires-clause-within
names_of-requires-clause-within c =
    noted_within c.args.scope.now c.new-kept.result c.note_left.new.noted (length c.args.scope.now) (LitInstancesStay c.as_slice-images.result.now (remove c.args.lits.now c.args.at ++ c.args.rest.now)) refl c.new-kept.ensures c.in_ok-note_left.ensures

pub returns : goal.returns
returns c =
    concluded_by c.args.scope.now c.args.subst.now c.as_slice-images.result.now c.as_slice-names.result.now (remove c.args.lits.now c.args.at ++ c.args.rest.now) (length c.args.scope.now) c.len.result c.new-kept.result c.note_left.new.noted c.names_of.new.kept c.in_ok-names.names
    (record { clause = c.in_ok-clause.clause; subst = c.in_ok-of_images.field-0 })
    c.requires.size refl c.new-kept.ensures (c.as_slice-images.ensures ∙ c.subst.view_is) (c.as_slice-names.ensures ∙ c.names.view_is) c.in_ok-note_left.ensures c.in_ok-names.ensures c.in_ok-of_images.ensures (ap (λ (k : Clause). k.lits) c.in_ok-clause.ensures)
    (ap (λ (k : Clause). k.sorts) c.in_ok-clause.ensures ∙ c.as_slice-3.ensures ∙ c.in_ok-sorts-2.ensures ∙ ap reverse (c.as_slice-2.ensures ∙ c.in_ok-sorts.ensures ∙ ap (sorts_at c.args.scope.now) c.as_slice.ensures))
    c.len.ensures c.if-len-gt-MAX_SORTS.false
