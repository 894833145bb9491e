use Rattle.printed_forms.proofs.Norms.{norm_listed}
use Rattle.printed_forms.proofs.laws.a_normal_form_has_no_list_of_one.Goals as goal

pub returns : goal.returns
returns c = norm_listed
