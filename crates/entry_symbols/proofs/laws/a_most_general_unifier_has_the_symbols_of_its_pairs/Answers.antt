use Rattle.entry_symbols.proofs.Unifying.{images_lack}
use Rattle.entry_symbols.proofs.laws.a_most_general_unifier_has_the_symbols_of_its_pairs.Goals as goal

pub returns : goal.returns
returns c = λ v sorts rigid pairs images k j most none within. images_lack v sorts rigid pairs images k j most none within
