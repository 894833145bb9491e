use Rattle.std.proofs.Common.{sym, ap, subst, ◌∙◌, ◌≡◌, ◌++◌, ◌∷◌, [], Some, slice_get}
use Rattle.kernel.specs.declared.entry.Entry.TheVariants.{Lemma}
use Rattle.clause_form.specs.declared.path.Parent.{Parent}
use Rattle.clause_rules.specs.Steps.{IsReady}
use Rattle.clausified_steps.specs.Clausified.{stated}
use Rattle.clausified_steps.proofs.Among.{among_ready, among_stated, only_one}
use Rattle.clausified_steps.proofs.Lines.{all_ready, form_shown, shown_by_parts, clausified}
use Rattle.clausified_steps.proofs.entries.by_form.Goals as goal

pub line_by_parts-requires-clause-parents : goal.line_by_parts-requires-clause-parents
line_by_parts-requires-clause-parents c =
    all_ready c.args.theory.now c.signature.result.now c.args.parent.now.form c.args.form.now c.args.uses c.args.parents.now c.as_slice.result.now c.signature.ensures (c.as_slice.ensures ∙ c.in_ok-all.ensures) c.requires.form c.requires.ready

pub line_by_parts-requires-clause-line : goal.line_by_parts-requires-clause-line
line_by_parts-requires-clause-line c = subst (λ v. IsReady v c.args.line.now) (sym c.signature.ensures) c.requires.line

pub skolem_entries-requires-clause-parents : goal.skolem_entries-requires-clause-parents
skolem_entries-requires-clause-parents c =
    only_one (λ (q : Parent). slice_get c.args.theory.now.formulas q.number ≡ Some q.form) c.args.parent.now c.as_slice-2.result.now (c.as_slice-2.ensures ∙ c.in_ok-own.ensures) (among_stated c.args.theory.now c.args.parents.now c.args.parent.now c.requires.parents c.requires.there)

pub skolem_entries-requires-clause-ready : goal.skolem_entries-requires-clause-ready
skolem_entries-requires-clause-ready c =
    only_one (λ (q : Parent). IsReady c.args.theory.now.vocabulary q.form) c.args.parent.now c.as_slice-2.result.now (c.as_slice-2.ensures ∙ c.in_ok-own.ensures) (among_ready c.args.theory.now.vocabulary c.args.parents.now c.args.parent.now c.requires.ready c.requires.there)

pub skolem_entries-requires-clause-line : goal.skolem_entries-requires-clause-line
skolem_entries-requires-clause-line c = c.requires.form.ready

pub skolem_entries-requires-clause-shows : goal.skolem_entries-requires-clause-shows
skolem_entries-requires-clause-shows c = form_shown c.args.theory.now c.args.parent.now c.as_slice-2.result.now c.args.form.now c.args.uses (c.as_slice-2.ensures ∙ c.in_ok-own.ensures) c.requires.form

pub returns : goal.returns
returns c =
    let t = c.args.theory.now in
    let both = shown_by_parts t.vocabulary c.signature.result.now c.as_slice.result.now (stated t c.args.uses c.args.form.now ∷ c.args.parents.now) c.args.line.now c.in_ok-proof.field-0 c.in-Some.proof c.signature.ensures (c.as_slice.ensures ∙ c.in_ok-all.ensures) c.in-Some.is c.in_ok-proof.ensures in
    let chosen = c.in_ok-entries.ensures.choose in
    clausified t c.args.parents.now c.requires.parents c.args.line.now c.args.parent.now c.requires.there c.args.form.now c.args.uses c.requires.form c.requires.occur c.as_slice-2.result.now (c.as_slice-2.ensures ∙ c.in_ok-own.ensures) c.in_ok-entries.entries chosen.0 chosen.1 chosen.2 chosen.3 c.in_ok-entries.ensures.derives c.in-Some.proof both.1
    c.push.new.self (c.in_ok-push.ensures.ok ∙ ap (λ q. c.in_ok-entries.entries ++ Lemma q ∷ []) c.into_inner.ensures) both.0
