use Rattle.std.proofs.Common.{◌≡◌, ◌↔◌, ◌∙◌, ◌+◌, ℕ, [], Option, Some, ap, subst, sym}
use Rattle.std.proofs.lemmas.Option.{slice_get-get_or}
use Rattle.fof_terms.specs.declared.form.Form.{Form, Or}
use Rattle.verifier.proofs.Latest.{IsLastBefore, last_all, last_more}
use Rattle.verifier.proofs.closing.last_false.Goals as goal

pub loop-place-preserved : goal.loop-place-preserved
loop-place-preserved c =
    let forms = c.args.forms.now in
    let numbers = c.args.numbers.now in
    let place = c.loop-place.place in
    let form = c.index-forms-place.result in
    subst (IsLastBefore forms numbers (place + 1)) (sym c.later-last.ensures)
    (last_more forms numbers place form c.false_number.result (slice_get-get_or forms place form c.loop-place-test.true ∙ ap (λ (a : Form). Some a) (sym c.index-forms-place.is))
    (subst (λ (o : Option ℕ). (n : ℕ) → (c.false_number.result ≡ Some n) ↔ ((form ≡ Or []) × (o ≡ Some n))) c.number_at.ensures c.false_number.ensures) c.loop-place.last c.loop-place.invariant)

pub returns : goal.returns
returns c = last_all c.args.forms.now c.args.numbers.now c.loop-place.place c.loop-place.last c.loop-place-test.false c.loop-place.invariant
