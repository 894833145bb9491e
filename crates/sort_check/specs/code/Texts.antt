-- What private contracts say, beside the definitions of specs/Texts.
use Rattle.std.specs.Prelude.{◌≡◌, Bool, false, Option, Some, None}
use Rattle.tptp_base.specs.declared.item.Annotated.{Annotated}
use Rattle.fof_terms.specs.declared.signature.Symbol.{Symbol}
use Rattle.sort_check.specs.declared.fault.SortFault.{SortFault}
use Rattle.sort_check.specs.declared.fault.Stop.{Stop}
use Rattle.sort_check.specs.Texts.{differs}
use Rattle.sort_check.specs.declared.fault.SortFault.TheVariants as fault
use Rattle.sort_check.specs.declared.fault.Stop.TheVariants as stop

abbrev pub other_at : Symbol → Option Symbol → Bool
other_at s (Some t) = differs s t
other_at s None = false

abbrev pub IsFaultAt : Annotated → Stop → SortFault → Type 0
IsFaultAt a stop.Memory f = f ≡ fault.Memory
IsFaultAt a (stop.Rule rule) fault.Memory = Unit {0}
IsFaultAt a (stop.Rule rule) (fault.Line other place named) = fault.Line other place named ≡ fault.Line rule a.place a.name
