use Rattle.std.proofs.Common.{sym, ap, ◌∙◌, ◌++◌, ◌∷◌, []}
use Rattle.kernel.specs.declared.entry.Entry.TheVariants.{Lemma}
use Rattle.skolem_fresh.specs.declared.just.SkolemJust.TheVariants.{Skolem}
use Rattle.clause_form.specs.Paths.{forms_of}
use Rattle.skolem_fresh.proofs.SkolemSteps.{parent_at}
use Rattle.skolem_proofs.proofs.Lines.{somewhere, is_skolem, shown_by, there, parent_small, small, fits, result_small, result_somewhere, form_made, choose_and_end, derived}
use Rattle.skolem_proofs.proofs.entries.skolem_entries.Goals as goal

pub unreachable-requires : goal.unreachable-requires
unreachable-requires c = is_skolem c.args.theory.now (forms_of c.args.parents.now) c.args.line.now c.args.just.now c.requires.shows c.in_default.not-Skolem

pub skolem_proof-requires-clause-small : goal.skolem_proof-requires-clause-small
skolem_proof-requires-clause-small c =
    let t = c.args.theory.now in
    let shows = shown_by t c.args.parents.now c.args.line.now c.args.just.now c.in-Skolem.parent c.in-Skolem.uses c.as_slice.result.now c.in-Skolem.is c.as_slice.ensures c.requires.shows in
    small t c.args.parents.now c.args.line.now c.in-Skolem.parent c.as_slice.result.now shows c.index-parents-parent.result c.index-parents-parent.is c.in_ok-norm.norm c.in_ok-norm.ensures

pub skolem_proof-requires-clause-fits : goal.skolem_proof-requires-clause-fits
skolem_proof-requires-clause-fits c =
    let t = c.args.theory.now in
    let shows = shown_by t c.args.parents.now c.args.line.now c.args.just.now c.in-Skolem.parent c.in-Skolem.uses c.as_slice.result.now c.in-Skolem.is c.as_slice.ensures c.requires.shows in
    let lt = there t c.args.parents.now c.args.line.now c.in-Skolem.parent c.as_slice.result.now shows in
    let ready = parent_at t.vocabulary c.args.parents.now c.in-Skolem.parent c.index-parents-parent.result c.requires.ready lt c.index-parents-parent.is in
    fits t c.args.parents.now c.args.line.now c.in-Skolem.parent c.as_slice.result.now shows c.index-parents-parent.result c.index-parents-parent.is c.in_ok-norm.norm c.in_ok-norm.ensures ready

pub line_proof-requires-clause-parent_small : goal.line_proof-requires-clause-parent_small
line_proof-requires-clause-parent_small c =
    let t = c.args.theory.now in
    let shows = shown_by t c.args.parents.now c.args.line.now c.args.just.now c.in-Skolem.parent c.in-Skolem.uses c.as_slice.result.now c.in-Skolem.is c.as_slice.ensures c.requires.shows in
    parent_small t c.args.parents.now c.args.line.now c.in-Skolem.parent c.as_slice.result.now shows c.index-parents-parent.result c.index-parents-parent.is c.in_ok-norm.norm c.in_ok-norm.ensures

pub line_proof-requires-clause-parent_sorted : goal.line_proof-requires-clause-parent_sorted
line_proof-requires-clause-parent_sorted c =
    let t = c.args.theory.now in
    let shows = shown_by t c.args.parents.now c.args.line.now c.args.just.now c.in-Skolem.parent c.in-Skolem.uses c.as_slice.result.now c.in-Skolem.is c.as_slice.ensures c.requires.shows in
    let lt = there t c.args.parents.now c.args.line.now c.in-Skolem.parent c.as_slice.result.now shows in
    somewhere t.vocabulary c.index-parents-parent.result.form (parent_at t.vocabulary c.args.parents.now c.in-Skolem.parent c.index-parents-parent.result c.requires.ready lt c.index-parents-parent.is)

pub line_proof-requires-clause-form_small : goal.line_proof-requires-clause-form_small
line_proof-requires-clause-form_small c =
    let t = c.args.theory.now in
    let shows = shown_by t c.args.parents.now c.args.line.now c.args.just.now c.in-Skolem.parent c.in-Skolem.uses c.as_slice.result.now c.in-Skolem.is c.as_slice.ensures c.requires.shows in
    let lt = there t c.args.parents.now c.args.line.now c.in-Skolem.parent c.as_slice.result.now shows in
    let ready = parent_at t.vocabulary c.args.parents.now c.in-Skolem.parent c.index-parents-parent.result c.requires.ready lt c.index-parents-parent.is in
    let same = form_made t c.args.parents.now c.args.line.now c.in-Skolem.parent c.as_slice.result.now shows c.index-parents-parent.result c.index-parents-parent.is c.in_ok-norm.norm c.in_ok-norm.ensures ready c.len.result c.in_ok-made.made c.in_ok-made.ensures c.requires.line in
    result_small t c.args.parents.now c.args.line.now c.in-Skolem.parent c.as_slice.result.now shows c.index-parents-parent.result c.index-parents-parent.is c.in_ok-norm.norm c.in_ok-norm.ensures ready c.in_ok-made.made.form same

pub line_proof-requires-clause-form_sorted : goal.line_proof-requires-clause-form_sorted
line_proof-requires-clause-form_sorted c =
    let t = c.args.theory.now in
    let shows = shown_by t c.args.parents.now c.args.line.now c.args.just.now c.in-Skolem.parent c.in-Skolem.uses c.as_slice.result.now c.in-Skolem.is c.as_slice.ensures c.requires.shows in
    let lt = there t c.args.parents.now c.args.line.now c.in-Skolem.parent c.as_slice.result.now shows in
    let ready = parent_at t.vocabulary c.args.parents.now c.in-Skolem.parent c.index-parents-parent.result c.requires.ready lt c.index-parents-parent.is in
    let same = form_made t c.args.parents.now c.args.line.now c.in-Skolem.parent c.as_slice.result.now shows c.index-parents-parent.result c.index-parents-parent.is c.in_ok-norm.norm c.in_ok-norm.ensures ready c.len.result c.in_ok-made.made c.in_ok-made.ensures c.requires.line in
    result_somewhere t c.args.parents.now c.args.line.now c.in-Skolem.parent c.as_slice.result.now shows c.index-parents-parent.result c.index-parents-parent.is c.in_ok-norm.norm c.in_ok-norm.ensures ready c.in_ok-made.made.form same

pub returns-clause-derives : goal.returns-clause-derives
returns-clause-derives c =
    let t = c.args.theory.now in
    let shows = shown_by t c.args.parents.now c.args.line.now c.args.just.now c.in-Skolem.parent c.in-Skolem.uses c.as_slice.result.now c.in-Skolem.is c.as_slice.ensures c.requires.shows in
    let lt = there t c.args.parents.now c.args.line.now c.in-Skolem.parent c.as_slice.result.now shows in
    let ready = parent_at t.vocabulary c.args.parents.now c.in-Skolem.parent c.index-parents-parent.result c.requires.ready lt c.index-parents-parent.is in
    derived t c.args.parents.now c.args.line.now c.in-Skolem.parent c.as_slice.result.now shows c.index-parents-parent.result c.index-parents-parent.is c.in_ok-norm.norm c.in_ok-norm.ensures ready c.len.result c.in_ok-made.made c.in_ok-made.ensures c.requires.line c.requires.parents c.in_ok-whole.whole c.push.new.self c.len.ensures c.in_ok-whole.ensures
    (c.in_ok-push.ensures.ok ∙ ap (λ q. c.in_ok-made.made.choices ++ Lemma q ∷ []) c.into_inner.ensures)

pub returns-clause-choose : goal.returns-clause-choose
returns-clause-choose c =
    let t = c.args.theory.now in
    let shows = shown_by t c.args.parents.now c.args.line.now c.args.just.now c.in-Skolem.parent c.in-Skolem.uses c.as_slice.result.now c.in-Skolem.is c.as_slice.ensures c.requires.shows in
    let lt = there t c.args.parents.now c.args.line.now c.in-Skolem.parent c.as_slice.result.now shows in
    let ready = parent_at t.vocabulary c.args.parents.now c.in-Skolem.parent c.index-parents-parent.result c.requires.ready lt c.index-parents-parent.is in
    choose_and_end t c.args.parents.now c.args.line.now c.in-Skolem.parent c.as_slice.result.now shows c.index-parents-parent.result c.index-parents-parent.is c.in_ok-norm.norm c.in_ok-norm.ensures ready c.len.result c.in_ok-made.made c.in_ok-made.ensures c.requires.line c.args.just.now c.in_ok-whole.whole c.push.new.self
    (c.in-Skolem.is ∙ ap (Skolem c.in-Skolem.parent) (sym c.as_slice.ensures)) (c.in_ok-push.ensures.ok ∙ ap (λ q. c.in_ok-made.made.choices ++ Lemma q ∷ []) c.into_inner.ensures)
