-- What private contracts say of a line for which there is no room, beside the definitions of specs/Verifying.
use Rattle.std.specs.Prelude.{◌≡◌, ℕ, List, Some, slice_get}
use Rattle.tptp_base.specs.declared.limit.LimitName.TheVariants.{Symbols}
use Rattle.tptp_base.specs.declared.name.Name.{Name}
use Rattle.tptp_base.specs.declared.place.Place.{Place}
use Rattle.sort_check.specs.declared.fault.SortRule.TheVariants.{Limit}
use Rattle.read_problems.specs.Denoted.{against_rule}
use Rattle.read_problems.specs.Ending.{Ending}

-- of the line of this number in the file, it is said that symbols are over their limit
pub record SaysLacking (file : List ℕ) (names : List Name) (places : List Place) (number : ℕ) (ending : Ending) : Type 0 where
  pub name : Name
  pub named : slice_get names number ≡ Some name
  pub place : Place
  pub placed : slice_get places number ≡ Some place
  pub is : ending ≡ against_rule file (Limit Symbols) place name
