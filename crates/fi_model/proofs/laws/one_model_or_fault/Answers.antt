use Rattle.std.specs.Prelude.{codes}
use Rattle.std.proofs.lemmas.Option.{slice_get_within}
use Rattle.fi_model.proofs.OneModel.{one_model, no_fault}
use Rattle.fi_model.proofs.laws.one_model_or_fault.Goals as goal

pub returns-clause-one : goal.returns-clause-one
returns-clause-one c items v m other = one_model items v m other

pub returns-clause-no_fault : goal.returns-clause-no_fault
returns-clause-no_fault c items v m fault vocabulary model = no_fault items v (slice_get_within v.sorts 0 (codes "$i") vocabulary.first) m model fault
