use Rattle.std.proofs.Common.{◌≡◌, ◌++◌, take}
use Rattle.std.specs.List.{All, flat_map}
use Rattle.proof_log.specs.LogText.{form_text, form_words}
use Rattle.proof_log.specs.Words.{AreInRange}
use Rattle.proof_log.proofs.forms.+put_form.Given as goal

abbrev pub invariant-put_forms-loop-form : goal.invariant-put_forms-loop-form
invariant-put_forms-loop-form l = record {
  written : l.text.items ≡ (l.initial.text.items ++ flat_map form_text (take l.form-index l.forms));
  in_range : All (λ x. AreInRange (form_words x)) (take l.form-index l.forms);
}
