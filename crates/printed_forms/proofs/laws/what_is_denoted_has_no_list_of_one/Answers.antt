use Rattle.printed_forms.proofs.Denoted.{denoted_listed, given_listed}
use Rattle.printed_forms.proofs.laws.what_is_denoted_has_no_list_of_one.Goals as goal

pub returns : goal.returns
returns c = record { lines = denoted_listed; given = given_listed }
