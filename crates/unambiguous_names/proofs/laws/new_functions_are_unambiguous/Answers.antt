use Rattle.unambiguous_names.proofs.Fresh.{free_from, functions_keep}
use Rattle.unambiguous_names.proofs.laws.new_functions_are_unambiguous.Goals as goal

pub returns : goal.returns
returns c = λ v prefix first existentials u free few. functions_keep prefix existentials v first few (free_from prefix v first free) u
