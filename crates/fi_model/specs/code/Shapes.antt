-- Why items are refused before their domains are read.
use Rattle.std.specs.Prelude.{◌≡◌, Result, Err}
use Rattle.tptp_base.specs.declared.place.Place.{Place}
use Rattle.fi_model.specs.declared.fault.ModelFault.{ModelFault}
use Rattle.fi_model.specs.declared.fault.ModelFault.TheVariants as fault

-- the fault is that of the answer, if memory was not wanting
abbrev pub RefusesShape : {X : Type 0} → Result X Place → ModelFault → Type 0
RefusesShape answer (fault.Shape place) = answer ≡ Err place
RefusesShape answer fault.Memory = Unit {0}
RefusesShape answer _ = ⊥
