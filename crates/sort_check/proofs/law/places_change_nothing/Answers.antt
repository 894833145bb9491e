use Rattle.sort_check.proofs.LinesByPlace.{formula_same, text_same}
use Rattle.sort_check.proofs.law.places_change_nothing.Goals as goal

pub returns-clause-of_formulas : goal.returns-clause-of_formulas
returns-clause-of_formulas c = formula_same

pub returns-clause-of_texts : goal.returns-clause-of_texts
returns-clause-of_texts c = text_same
