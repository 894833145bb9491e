use Rattle.printed_forms.proofs.Spelled.{spelled_listed}
use Rattle.printed_forms.proofs.laws.what_is_spelled_has_no_list_of_one.Goals as goal

pub returns : goal.returns
returns c = spelled_listed
