use Rattle.derivation_text.proofs.Sizes.{derivation_within, forms_within}
use Rattle.derivation_text.proofs.law.a_derivation_is_within_its_text.Goals as goal

pub returns-clause-items : goal.returns-clause-items
returns-clause-items c = derivation_within

pub returns-clause-forms : goal.returns-clause-forms
returns-clause-forms c = forms_within
