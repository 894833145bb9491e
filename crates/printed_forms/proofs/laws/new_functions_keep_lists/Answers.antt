use Rattle.printed_forms.proofs.Functions.{skolem_listed}
use Rattle.printed_forms.proofs.laws.new_functions_keep_lists.Goals as goal

pub returns : goal.returns
returns c = skolem_listed
