use Rattle.std.proofs.Common.{ap, refl, ◌∙◌, ◌++◌, ◌∷◌, []}
use Rattle.proof_check.proofs.Added.{on_ok}
use Rattle.input_proofs.specs.code.Passed.{number_in}
use Rattle.input_proofs.proofs.FormFacts.{formula_added}
use Rattle.input_proofs.proofs.forms.add_opened.Goals as goal

pub returns : goal.returns
returns c =
    on_ok c.push_pending.result
    (λ h. formula_added c.args.source.now.number c.args.source.now.form.now c.args.first c.args.made c.args.own.now c.args.opening.now (record { next = c.args.opening.now.next; choices = c.append.new.self; facts = c.push.new.self; pending = c.push_pending.new.pending }) c.in_ok-number.number
    c.in_ok-fact.fact c.len-place.result refl c.in_ok-append.ensures (c.in_ok-number.ensures ∙ ap (number_in c.args.source.now.number c.args.first) c.len.ensures) c.in_ok-fact.ensures c.len-place.ensures
    (c.in_ok-push.ensures.ok ∙ ap (λ p. c.args.opening.now.facts ++ p ∷ []) c.into_inner.ensures) h)
    c.push_pending.ensures
